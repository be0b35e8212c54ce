-- Putting a copy back leaves less to be done: the copy has less far to go.
use Rattle.mesh_round.proofs.Common.{Chip, Crosses, DumpRec, List, Mark, McCopy, Out, PutIn, Queue, State, TakenOut, [], after_put_back, ap, arith, arrives, at_core, behind, dumped, dumped_out}
use Rattle.mesh_round.proofs.Common.{heavy_grows, inl, inr, is_some, mark, marks_of, one_heavy, onward, push_behind, put_back_answer, same_room, subst, sum_by, sum_by-append, sum_by-cons, unwrap_or}
use Rattle.mesh_round.proofs.Common.{ℕ, ◌++◌, ◌+◌, ◌<◌, ◌∙◌, ◌∷◌, ◌≡◌, ◌⊎◌}
use Rattle.mesh_core.specs.{declared.places.Did.TheVariants.Moved, Heavy.heavy}
use Rattle.mesh_round.specs.Work.{to_go, work_in, work_weight_of}
use Rattle.mesh_round.proofs.PutBackParts.{IsBack, is_back}

-- ---- weights

heavier : (m n : ℕ) → m < n → heavy m < heavy n
unfolding heavy
heavier m n below = grind (arith, heavy_grows, one_heavy)

-- a dumped copy that crosses its output is lighter than it was
lighter_mark : (s : State) (k : McCopy) (c : Chip) (o : Out) (come : List Mark) → Crosses s k c o come →
    (y : Mark) × (come ≡ y ∷ []) × (work_weight_of y < work_weight_of (mark k (dumped c o)))
unfolding work_weight_of to_go
lighter_mark s k c o come (inl (d, e, out, live, far, is)) = grind (arith, mark, heavier)
lighter_mark s k c o come (inr (v, dead, vertex, is)) =
    grind (arith, mark (onward k) (at_core v), heavier (to_go (mark (onward k) (at_core v))) (to_go (mark k (dumped c o))) (omega arith), mark k (dumped c o))

-- one item goes out, and one comes in
sum_exchanged : {X : Type 0} (f : X → ℕ) (x y : X) (before between after : List X) → TakenOut x before between → PutIn (y ∷ []) between after →
    sum_by f before + f y ≡ sum_by f after + f x
sum_exchanged f x y before between after out put =
    let was : sum_by f before ≡ sum_by f (out.front ++ x ∷ out.back) = ap (sum_by f) out.before_is in
    let left : sum_by f between ≡ sum_by f (out.front ++ out.back) = ap (sum_by f) out.after_is in
    let still : sum_by f between ≡ sum_by f (put.front ++ put.back) = ap (sum_by f) put.before_is in
    let now : sum_by f after ≡ sum_by f (put.front ++ y ∷ put.back) = ap (sum_by f) put.after_is in
    let a = sum_by-append f out.front (x ∷ out.back) in
    let b = sum_by-append f out.front out.back in
    let c = sum_by-append f put.front put.back in
    let d = sum_by-append f put.front (y ∷ put.back) in
    omega (arith, was, left, still, now, a, b, c, d, sum_by-cons f x out.back, sum_by-cons f y put.back)

-- ---- putting back

back_lighter : (s t : State) → IsBack s t → work_in t < work_in s
unfolding work_in
back_lighter s t back =
    let r : DumpRec = back.first in
    let between : State = record s { dumped = back.rest } in
    let to : Queue = behind s.setup r.chip r.out in
    let next : State = push_behind between to (onward r.copy) in
    let arrival = arrives between r.chip r.out r.copy (same_room s back.rest to ∙ back.room) in
    let one = lighter_mark between r.copy r.chip r.out arrival.0 arrival.2 in
    let x : Mark = mark r.copy (dumped r.chip r.out) in
    let put : PutIn (one.0 ∷ []) (marks_of between) (marks_of next) = subst (λ (ys : List Mark). PutIn ys (marks_of between) (marks_of next)) one.1 arrival.1 in
    let sums = sum_exchanged work_weight_of x one.0 (marks_of s) (marks_of between) (marks_of next) (dumped_out s r back.rest back.records) put in
    let lower : sum_by work_weight_of (marks_of next) < sum_by work_weight_of (marks_of s) = omega (arith, sums, one.2) in
    subst (λ (u : State). sum_by work_weight_of (marks_of u) < sum_by work_weight_of (marks_of s)) back.is lower

-- A copy that is put back leaves less to be done.
pub put_back_lighter : (s : State) → put_back_answer s ≡ Moved → work_in (after_put_back s) < work_in s
put_back_lighter s moved = grind (arith, is_some, unwrap_or, back_lighter, is_back)

-- and still less than before, if there was less already
pub still_less : (a b n : State) → (b ≡ a) ⊎ (work_in b < work_in a) → work_in n < work_in b → work_in n < work_in a
still_less a b n its_3 less = grind arith
