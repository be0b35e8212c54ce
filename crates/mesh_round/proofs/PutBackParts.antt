-- What putting the first dumped copy back does to a mesh, and when it does nothing.
use Rattle.mesh_round.proofs.Common.{Bool, DumpRec, IsMesh-after_put_back, List, MayGoOn, McCopy, None, Option, Queue, Some, State, [], after_put_back, ap, arith, behind, has_room_behind}
use Rattle.mesh_round.proofs.Common.{if◌then◌else◌, onward, push_behind, put_back_of, true, unwrap_or, ◌∙◌, ◌∷◌, ◌≡◌}

-- the mesh with the first record's copy put back
abbrev pub with_back : State → DumpRec → List DumpRec → State
with_back s r rest = push_behind (record s { dumped = rest }) (behind s.setup r.chip r.out) (onward r.copy)

-- a mesh in which the first copy was put back
pub record IsBack (s t : State) : Type 0 where
  pub first : DumpRec
  pub rest : List DumpRec
  pub records : s.dumped ≡ first ∷ rest
  pub room : has_room_behind s (behind s.setup first.chip first.out) ≡ true
  pub is : with_back s first rest ≡ t

pub is_back : (s : State) (records : List DumpRec) → s.dumped ≡ records → (t : State) → put_back_of s records ≡ Some t → IsBack s t
is_back s [] is t e = cc
is_back s (r ∷ rest) is t e = grind arith

-- ---- when it does something

-- what the first record and the room behind its output give
abbrev by_room : State → DumpRec → List DumpRec → Bool → Option State
by_room s r rest room = if room then Some (with_back s r rest) else None

pub back_some : (s : State) (r : DumpRec) (rest : List DumpRec) → s.dumped ≡ r ∷ rest → has_room_behind s (behind s.setup r.chip r.out) ≡ true →
    put_back_of s s.dumped ≡ Some (with_back s r rest)
back_some s r rest is room = ap (put_back_of s) is ∙ ap (by_room s r rest) room

-- ---- what it leaves as it is

same_hands : (s : State) (to : Queue) (k : McCopy) → (push_behind s to k).hands ≡ s.hands
same_hands s to k = grind arith

-- A mesh that may go on by rounds may still, after its first copy was put back.
pub ready_back : (s : State) → MayGoOn s → MayGoOn (after_put_back s)
ready_back s ready = grind (arith, same_hands, unwrap_or, IsMesh-after_put_back)
