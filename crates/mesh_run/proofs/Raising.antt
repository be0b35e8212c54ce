-- A mesh that is split, and a split mesh with more room.
use Rattle.mesh_run.proofs.Common.{All-at, AreSameCopies, AreSameRuns, AreShared, AreUp, Away, End, HasRoomForLogs, HaveNoLogs, HoldLanes, HoldUnsent, HoldsAll, Home, IsLayoutOf, IsMesh, IsRaisedFrom}
use Rattle.mesh_run.proofs.Common.{IsRoomyFrom, LinkEnds, List, McCopy, MeshLogs, MovesIn, Option, Own, RaisedMesh, SameCopies, SameEnd, Setup, Share, Some, Standing, State, StayUp, Vec, [], ap}
use Rattle.mesh_run.proofs.Common.{arith, cases_lt, cut_queues, end_at, end_in, get_or, get_or_from_slice_get, inl, inr, length, length-map, map, port_count, queue_of_link, refl, same_Some}
use Rattle.mesh_run.proofs.Common.{same_lists, slice_get, slice_get-get_or, slice_get-mapped, slice_get_there, slice_get_within, subst, sym, unsent_at, unsent_in, ℕ, ◌++◌, ◌+◌, ◌∙◌, ◌≡◌, ◌≤◌}
use Rattle.mesh_run.proofs.{BringingUp.fewer_up, CrossingLaws.stood, CrossingLaws.told_same, Going.GoneTo, RoomLaws.copies_same}

-- ---- the same runs

was_there : (before after : List Share) (k : ℕ) (t : Share) → length after ≡ length before → slice_get after k ≡ Some t → (s : Share) × (slice_get before k ≡ Some s)
was_there before after k t long at = let within = slice_get_within after k t at in slice_get_there before k (omega (arith, within, long))

-- the shares have what they had of the runs
pub shared_still : (u : Setup) (ends : List ℕ) (before after : List Share) → AreSameRuns before after → AreShared u ends before → AreShared u ends after
shared_still u ends before after same shared = grind (arith, was_there)

-- ---- a mesh moved in

pub raised_in : (m left : State) (more : ℕ) (start : List Share) (ends : List LinkEnds) (r : RaisedMesh) → IsMesh m → IsLayoutOf m.setup r.layout.now →
    AreShared m.setup r.layout.now.runs.items start → HoldsAll ends r.standing →
    AreUp m.setup.capacity more (cut_queues (m.inputs ++ m.cores) r.layout.now.cuts.items) ends → length r.crossing.items ≡ length r.layout.now.cuts.items →
    MovesIn m r.layout.now.homes.items start left r.shares.items →
    r.parts.setup ≡ left.setup → r.parts.hands ≡ left.hands → r.parts.inputs ≡ left.inputs → r.parts.cores ≡ left.cores → r.parts.unsent ≡ left.unsent →
    r.logs.delivered.items ≡ left.delivered → r.logs.dumped.items ≡ left.dumped → IsRaisedFrom m 0 r
raised_in m left more start ends r mesh laid shared holds up crossing moves setup hands inputs cores unsent delivered dumped = record {
  setup = setup ∙ moves.same.setup;
  hands = hands ∙ moves.same.hands;
  inputs_long = ap length inputs ∙ moves.same.inputs_long;
  cores_long = ap length cores ∙ moves.same.cores_long;
  unsent_long = ap length unsent ∙ moves.same.unsent_long;
  laid = laid;
  shared = shared_still m.setup r.layout.now.runs.items start r.shares.items moves.runs shared;
  lanes = moves.lanes;
  unsent = subst (λ (n : ℕ). HoldUnsent n m.unsent r.layout.now.homes.items r.shares.items) mesh.input_lists moves.vertices;
  ends = ends;
  holds = holds;
  up = fewer_up m.setup.capacity more 0 (cut_queues (m.inputs ++ m.cores) r.layout.now.cuts.items) ends (omega arith) up;
  crossing = crossing;
  no_logs = moves.no_logs;
  delivered = delivered ∙ moves.same.delivered;
  dumped = dumped ∙ moves.same.dumped;
}

-- ---- shares with the same copies

pub same_runs : (before after : List Share) → AreSameCopies before after → AreSameRuns before after
same_runs before after same = grind arith

-- an end stands where it stood, with the same copies
same_end_at : (before after : List Share) (s q : ℕ) (a : End) → AreSameCopies before after → end_at before s q ≡ Some a → (b : End) × (end_at after s q ≡ Some b) × SameEnd a b
same_end_at before after s q a same is =
    let at = stood (slice_get before s) q a is in
    let y = slice_get_there after s (omega (arith, slice_get_within before s at.0 at.1, same.0)) in
    let pair = same.1 s at.0 y.0 at.1 y.1 in
    let b = slice_get_there y.0.hold.ends.items q (omega (arith, slice_get_within at.0.hold.ends.items q a at.2, pair.ends_long)) in
    (b.0, ap (λ (o : Option Share). end_in o q) y.1 ∙ b.1, pair.ends q a b.0 at.2 b.1)

pub lanes_still : (queues : List (List McCopy)) (homes : List Home) (before after : List Share) → AreSameCopies before after → HoldLanes queues homes before → HoldLanes queues homes after
lanes_still queues homes before after same held = record {
  lanes = λ q h at one.
      let was = held.lanes q h at one in
      let now = same_end_at before after h.sender q (Own was.0) same was.1 in
      (now.2.0, now.1 ∙ ap Some now.2.1, now.2.2 ∙ was.2);
  away = λ q h s at below other.
      let now = same_end_at before after s q Away same (held.away q h s at (omega (arith, below, same.0)) other) in
      now.1 ∙ ap Some now.2;
}

unsent_same : (before after : List Share) (s v : ℕ) → AreSameCopies before after → unsent_at after s v ≡ unsent_at before s v
unsent_same before after s v same = told_same (λ (o : Option Share). unsent_in o v) _ _ _ same.0 (λ x y at also. ap (λ l. get_or l.items v []) (same.1 s x y at also).unsent)

pub unsent_still : (ports : ℕ) (unsent : List (List McCopy)) (homes : List Home) (before after : List Share) → AreSameCopies before after → HoldUnsent ports unsent homes before →
    HoldUnsent ports unsent homes after
unsent_still ports unsent homes before after same held = record {
  here = λ v h at. unsent_same before after h.receiver v same ∙ held.here v h at;
  nowhere_else = λ v h s at other. unsent_same before after s v same ∙ held.nowhere_else v h s at other;
}

pub no_logs_still : (before after : List Share) → AreSameCopies before after → HaveNoLogs before → HaveNoLogs after
no_logs_still before after same none = λ i d below.
    let at = slice_get-get_or after i d below in
    let s = was_there before after i (get_or after i d) same.0 at in
    let pair = same.1 i s.0 (get_or after i d) s.1 at in
    let was = All-at (λ (x : Share). (x.hold.dumps.items ≡ []) × (x.hold.deliveries.items ≡ [])) before i s.0 none s.1 in
    (pair.dumps ∙ was.0, pair.deliveries ∙ was.1)

-- ---- more room

-- links that are up know their queues
pub known_queues : (cap more : ℕ) (queues : List (List McCopy)) (ends : List LinkEnds) → AreUp cap more queues ends → queues ≡ map queue_of_link ends
known_queues cap more queues ends up =
    let long = up.long in
    same_lists queues (map queue_of_link ends) (omega (arith, length-map ends queue_of_link, long)) (λ i q below.
    let at = slice_get_there queues i below in
    let e = slice_get_there ends i (omega (arith, below, long)) in
    get_or_from_slice_get queues i at.0 q at.1 ∙ (sym (up.each i at.0 e.0 at.1 e.1).tx_new.first
    ∙ sym (get_or_from_slice_get (map queue_of_link ends) i (queue_of_link e.0) q (slice_get-mapped queue_of_link ends i e.0 e.1))))

-- links that stay up are up for the queues of the cuts
pub still_for : (cap more less : ℕ) (queues : List (List McCopy)) (ends now : List LinkEnds) → AreUp cap less queues ends → AreUp cap more (map queue_of_link ends) now → AreUp cap more queues now
still_for cap more less queues ends now was up = subst (λ (qs : List (List McCopy)). AreUp cap more qs now) (sym (known_queues cap less queues ends was)) up

-- the links of a split mesh are up for the queues that they know
pub known_up : (m : State) (r : RaisedMesh) (cap : ℕ) → (raised : IsRaisedFrom m 0 r) → cap ≡ r.parts.setup.capacity → AreUp cap 0 (map queue_of_link raised.ends) raised.ends
known_up m r cap raised is = grind (arith, known_queues m.setup.capacity 0 (cut_queues (m.inputs ++ m.cores) r.layout.now.cuts.items) raised.ends raised.up)

-- a split mesh with other links for the same queues, with shares with the same copies, and with logs with the same items
pub with_links : (m : State) (more less : ℕ) (r : RaisedMesh) (standing : Standing) (shares : Vec Share) (logs : MeshLogs) (cap : ℕ) → (raised : IsRaisedFrom m 0 r) → less ≤ more →
    cap ≡ r.parts.setup.capacity → StayUp cap more raised.ends standing → AreSameCopies r.shares.items shares.items → logs.delivered.items ≡ r.logs.delivered.items →
    logs.dumped.items ≡ r.logs.dumped.items → IsRaisedFrom m less (record r { standing = standing; shares = shares; logs = logs })
with_links m more less r standing shares logs cap raised fewer is stay copies delivered dumped =
    let queues : List (List McCopy) = cut_queues (m.inputs ++ m.cores) r.layout.now.cuts.items in
    let up = subst (λ (n : ℕ). AreUp n more (map queue_of_link raised.ends) stay.now) (is ∙ ap (λ (u : Setup). u.capacity) raised.setup) stay.up in
    record {
      setup = raised.setup;
      hands = raised.hands;
      inputs_long = raised.inputs_long;
      cores_long = raised.cores_long;
      unsent_long = raised.unsent_long;
      laid = raised.laid;
      shared = shared_still m.setup r.layout.now.runs.items r.shares.items shares.items (same_runs r.shares.items shares.items copies) raised.shared;
      lanes = lanes_still (m.inputs ++ m.cores) r.layout.now.homes.items r.shares.items shares.items copies raised.lanes;
      unsent = unsent_still (port_count m.setup) m.unsent r.layout.now.homes.items r.shares.items shares.items copies raised.unsent;
      ends = stay.now;
      holds = stay.holds;
      up = fewer_up m.setup.capacity more less queues stay.now fewer (still_for m.setup.capacity more 0 queues raised.ends stay.now raised.up up);
      crossing = raised.crossing;
      no_logs = no_logs_still r.shares.items shares.items copies raised.no_logs;
      delivered = delivered ∙ raised.delivered;
      dumped = dumped ∙ raised.dumped;
    }

-- the same with room for a round
pub roomy_with : (m : State) (r : RaisedMesh) (standing : Standing) (shares : Vec Share) (logs : MeshLogs) (cap turns : ℕ) (seen : List Share) → IsRaisedFrom m 0 r → cap ≡ r.parts.setup.capacity →
    turns ≡ r.pace.turns → ((ends : List LinkEnds) → HoldsAll ends r.standing → StayUp cap (turns + 1) ends standing) → AreSameCopies r.shares.items shares.items →
    logs.delivered.items ≡ r.logs.delivered.items → logs.dumped.items ≡ r.logs.dumped.items → seen ≡ shares.items → HasRoomForLogs seen logs →
    IsRoomyFrom m (r.pace.turns + 1) (record r { standing = standing; shares = shares; logs = logs })
roomy_with m r standing shares logs cap turns seen raised is turns_are stay copies delivered dumped seen_is room = grind (arith, with_links)

-- ---- share by share

-- the shares before a place have more room
pub copies_so_far : (start now : List Share) (k : ℕ) → GoneTo SameCopies start now k → AreSameCopies start now
copies_so_far start now k so_far = (
  so_far.long,
  λ j s t at also. elim (cases_lt j k) [
    | inl before ↦
        subst (λ (x : Share). SameCopies x t) (get_or_from_slice_get start j s s at)
        (subst (SameCopies (get_or start j s)) (get_or_from_slice_get now j t s also) (so_far.done j s before (slice_get_within start j s at)))
    | inr from ↦
        let is : t ≡ s = sym (get_or_from_slice_get now j t s also) ∙ (so_far.left j s from ∙ get_or_from_slice_get start j s s at) in
        subst (SameCopies s) (sym is) (copies_same s)
  ],
)

pub copies_self : (shares : List Share) → AreSameCopies shares shares
copies_self shares = (refl, λ j s t at also. subst (SameCopies s) (same_Some s t (sym at ∙ also)) (copies_same s))
