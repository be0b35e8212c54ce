-- Whatever happens, a mesh keeps what every mesh has.
use Rattle.mesh_core.proofs.Common.{All, All-at, All-head, All-push, All-tail, Bool, ByLink, Chip, Collect, Core, Description, Dir, Dump, Event, FitsHand, FitsQueue, Hand, IfSome, Inject, IsInside}
use Rattle.mesh_core.proofs.Common.{IsMesh, IsSite, Link, List, Local, McCopy, None, Option, Out, Port, Queue, Send, Setup, Some, State, Take, [], after_serving, and_parts, ap, arith, behind}
use Rattle.mesh_core.proofs.Common.{behind_link, core, core_queue_of, eqb-false, false, far_of, has_room, has_room_behind, index_of, input, is_live_chip, is_live_link, length_push, list_any}
use Rattle.mesh_core.proofs.Common.{live_back, live_ends, live_inside, ltb-true, nowhere, onward, opposite_of, out_eq, outputs, outs_without, port_number_injective, push_at, push_behind, queue_at}
use Rattle.mesh_core.proofs.Common.{refl, rules, same_index, serves, set, site_parts, slice_get, step_of, subst, sym, true, vertex_behind, ℕ, ◌++◌, ◌+◌, ◌<◌, ◌^◌, ◌∙◌, ◌∷◌, ◌≡◌, ◌≢◌}
use Rattle.mesh_core.specs.Step.{in_hand}
use Rattle.mesh_core.proofs.{Enabled.FoundBy, Enabled.event_found, Changes.port_below, Changes.IsMesh-unsent, Changes.IsMesh-cores, Changes.IsMesh-hands, Changes.IsMesh-delivered}
use Rattle.mesh_core.proofs.Changes.{IsMesh-dumped, IsMesh-inputs}

-- ---- names of queues are told apart

pub same_input : (i j : ℕ) → input i ≡ input j → i ≡ j
same_input i j same = cc

pub same_core : (v w : ℕ) → core v ≡ core w → v ≡ w
same_core v w same = cc

pub input_is_no_core : {i v : ℕ} → input i ≡ core v → ⊥
input_is_no_core same = cc

pub input_is_somewhere : {i : ℕ} → input i ≡ nowhere → ⊥
input_is_somewhere same = cc

pub core_is_somewhere : {v : ℕ} → core v ≡ nowhere → ⊥
core_is_somewhere same = cc

-- queues of one place are those of one chip and port
pub same_queue : (m : Description) (c e : Chip) (p q : Port) → IsInside m c → IsInside m e → queue_at m c p ≡ queue_at m e q → (c ≡ e) × (p ≡ q)
same_queue m c e p q in_c in_e same = grind (arith, port_below, same_index, port_number_injective)

-- a copy may wait at this place: it is of no port whose link isn't live, and of no chip that isn't live
pub record MayWait (m : Description) (i : ℕ) : Type 0 where
  port : (c : Chip) (d : Dir) → is_live_link m c d ≡ false → IsInside m c → queue_at m c (ByLink d) ≡ i → ⊥
  chip : (c : Chip) → is_live_chip m c ≡ false → IsInside m c → queue_at m c Local ≡ i → ⊥

may_wait-local : (m : Description) (c : Chip) → is_live_chip m c ≡ true → MayWait m (queue_at m c Local)
may_wait-local m c live = record {
  port = λ e d dead inside same. let other : ByLink d ≡ Local = (same_queue m e c (ByLink d) Local inside (live_inside m c live) same).1 in cc;
  chip = λ e dead inside same.
      let is : e ≡ c = (same_queue m e c Local Local inside (live_inside m c live) same).0 in
      let lives : is_live_chip m e ≡ true = ap (is_live_chip m) is ∙ live in
      cc;
}

may_wait-link : (m : Description) (c : Chip) (d : Dir) → IsInside m c → is_live_link m c d ≡ true → MayWait m (queue_at m c (ByLink d))
may_wait-link m c d in_c live = record {
  port = λ e f dead inside same.
      let both : (e ≡ c) × (ByLink f ≡ ByLink d) = same_queue m e c (ByLink f) (ByLink d) inside in_c same in
      let port : ByLink f ≡ ByLink d = both.1 in
      let link : f ≡ d = cc in
      let lives : is_live_link m e f ≡ true = ap (λ x. is_live_link m x f) both.0 ∙ (ap (is_live_link m c) link ∙ live) in
      cc;
  chip = λ e dead inside same. let other : Local ≡ ByLink d = (same_queue m e c Local (ByLink d) inside in_c same).1 in cc;
}

-- a copy may wait in the queue behind an output
pub MayWaitBehind : Description → Queue → Type 0
MayWaitBehind m (input i) = MayWait m i
MayWaitBehind m (core v) = Unit {0}
MayWaitBehind m nowhere = Unit {0}

may_wait-core : (m : Description) (v : Option ℕ) → MayWaitBehind m (core_queue_of v)
unfolding MayWaitBehind
may_wait-core m v = grind arith

may_wait-by_link : (u : Setup) (c : Chip) (d : Dir) (b : Bool) (e : Option Chip) → is_live_link u.machine c d ≡ b → far_of u.machine c d ≡ e → MayWaitBehind u.machine (behind_link u c d b e)
unfolding MayWaitBehind
may_wait-by_link u c d true (Some e) live far =
    may_wait-link u.machine e (opposite_of d) (inside_far u.machine c d e live far) (live_back u.machine c e d far live)
  where
    inside_far : (m : Description) (c : Chip) (d : Dir) (e : Chip) → is_live_link m c d ≡ true → far_of m c d ≡ Some e → IsInside m e
    inside_far m c d e live far =
        let ends = live_ends m c d live in
        let there : Some ends.0 ≡ Some e = sym ends.1 ∙ far in
        let same : ends.0 ≡ e = cc in
        subst (IsInside m) same (live_inside m ends.0 ends.3)
may_wait-by_link u c d true None live far = tt
may_wait-by_link u c d false e live far = may_wait-core u.machine (vertex_behind u.spots c (Link d))

pub may_wait-behind : (u : Setup) (c : Chip) (o : Out) → MayWaitBehind u.machine (behind u c o)
may_wait-behind u c (Link d) = may_wait-by_link u c d (is_live_link u.machine c d) (far_of u.machine c d) refl refl
may_wait-behind u c (Core p) = may_wait-core u.machine (vertex_behind u.spots c (Core p))

-- one more copy fits into a queue with room
one_more_fits : (capacity : ℕ) (q : List McCopy) (k : McCopy) → FitsQueue capacity q → has_room capacity (Some q) ≡ true → k.hop < 2 ^ 32 → FitsQueue capacity (q ++ k ∷ [])
one_more_fits capacity q k fits room low = search (rules, ltb-true, length_push, All-push)

-- so do those behind the first
rest_fits : (capacity : ℕ) (k : McCopy) (rest : List McCopy) → FitsQueue capacity (k ∷ rest) → FitsQueue capacity rest
rest_fits capacity k rest fits = search (rules, All-tail)

arrived_input : (s : State) (i : ℕ) (k : McCopy) (q : Option (List McCopy)) → IsMesh s → slice_get s.inputs i ≡ q → MayWait s.setup.machine i → has_room s.setup.capacity q ≡ true → k.hop < 2 ^ 32 →
    IsMesh (record s { inputs = push_at s.inputs i k q })
arrived_input s i k (Some q) h at may room low =
    IsMesh-inputs s i (q ++ k ∷ []) h (one_more_fits s.setup.capacity q k (All-at (FitsQueue s.setup.capacity) s.inputs i q h.inputs_within at) room low)
    (λ c d dead inside same. absurd (may.port c d dead inside same)) (λ c dead inside same. absurd (may.chip c dead inside same))
arrived_input s i k None h at may room low = cc

arrived_core : (s : State) (v : ℕ) (k : McCopy) (q : Option (List McCopy)) → IsMesh s → slice_get s.cores v ≡ q →
    has_room s.setup.capacity q ≡ true → k.hop < 2 ^ 32 → IsMesh (record s { cores = push_at s.cores v k q })
arrived_core s v k (Some q) h at room low =
    IsMesh-cores s v (q ++ k ∷ []) h (one_more_fits s.setup.capacity q k (All-at (FitsQueue s.setup.capacity) s.cores v q h.cores_within at) room low)
arrived_core s v k None h at room low = cc

-- a mesh where a copy came into a queue with room, at which copies may wait
pub IsMesh-push_behind : (s : State) (b : Queue) (k : McCopy) → IsMesh s → MayWaitBehind s.setup.machine b → has_room_behind s b ≡ true → k.hop < 2 ^ 32 → IsMesh (push_behind s b k)
unfolding MayWaitBehind
IsMesh-push_behind s b k h may room low = search (rules, arrived_input, arrived_core)

-- a hand that took a copy or served an output may hold what it holds
in_hand-fits : (k : McCopy) (port : Port) (os : List Out) → (os ≢ [] → k.hop + 1 < 2 ^ 32) → IfSome (in_hand k port os) FitsHand
in_hand-fits k port os low = grind arith

-- a copy of the last hop number is given no output
not_last : (u : Setup) (c : Chip) (port : Port) (k : McCopy) → k.hop < 2 ^ 32 → outputs u c port k ≢ [] → k.hop + 1 < 2 ^ 32
not_last u c port k low some = grind (arith, eqb-false)

-- a queue without its front is empty where no copy may wait: there was none
nothing_waited : {X : Type 0} (xs : List (List X)) (i j : ℕ) (x : X) (rest : List X) → slice_get xs i ≡ Some (x ∷ rest) → slice_get xs j ≡ Some [] → j ≡ i → rest ≡ []
nothing_waited xs i j x rest here there same = let both : Some (x ∷ rest) ≡ Some [] = sym here ∙ (ap (slice_get xs) (sym same) ∙ there) in cc

-- behind a router a hop number is of 32 bits again
pub onward_below : (k : McCopy) → (onward k).hop < 2 ^ 32
onward_below k = omega arith

IsMesh-after_serving : (s : State) (c : Chip) (o : Out) (held : Hand) → IsMesh s → slice_get s.hands (index_of s.setup.machine c) ≡ Some (Some held) → serves s c o (Some (Some held)) ≡ true →
    IsMesh (after_serving s c o held)
IsMesh-after_serving s c o held h at serving =
    let live : is_live_chip s.setup.machine c ≡ true = (and_parts (is_live_chip s.setup.machine c) (list_any (out_eq o) held.outs) serving).0 in
    let fits : FitsHand held = All-at (λ (x : Option Hand). IfSome x FitsHand) s.hands (index_of s.setup.machine c) (Some held) h.hands_fit at in
    IsMesh-hands s c (in_hand held.copy held.port (outs_without o held.outs)) h live (in_hand-fits held.copy held.port (outs_without o held.outs) (λ some. fits.hop))

-- what a hand holds changes no room
room_after : (s : State) (c : Chip) (o : Out) (held : Hand) (b : Queue) → has_room_behind s b ≡ true → has_room_behind (after_serving s c o held) b ≡ true
room_after s c o held b room = grind arith

IsMesh-found : (s t : State) (e : Event) → IsMesh s → FoundBy s e t → IsMesh t
IsMesh-found s t (Inject v) h (spot, k, rest, at_spot, at_unsent, room, is) =
    let now : State = record s { unsent = set s.unsent v rest } in
    let at_start : All (λ x. x.hop ≡ 0) (k ∷ rest) = All-at (λ (l : List McCopy). All (λ x. x.hop ≡ 0) l) s.unsent v (k ∷ rest) h.unsent_at_start at_unsent in
    let none_passed : k.hop ≡ 0 = All-head (λ (x : McCopy). x.hop ≡ 0) k rest at_start in
    let live = (site_parts s.setup.machine spot (All-at (IsSite s.setup.machine) s.setup.spots v spot h.sites at_spot)).0 in
    subst IsMesh is (arrived_input now (queue_at s.setup.machine spot.chip Local) k (slice_get s.inputs (queue_at s.setup.machine spot.chip Local))
    (IsMesh-unsent s v rest h (All-tail (λ (x : McCopy). x.hop ≡ 0) k rest at_start)) refl (may_wait-local s.setup.machine spot.chip live) room (omega (arith, none_passed)))
IsMesh-found s t (Take c port) h (k, rest, at_hand, at_queue, live, is) =
    let q : ℕ = queue_at s.setup.machine c port in
    let now : State = record s { inputs = set s.inputs q rest } in
    let hand : Option Hand = in_hand k port (outputs s.setup c port k) in
    let fits : FitsQueue s.setup.capacity (k ∷ rest) = All-at (FitsQueue s.setup.capacity) s.inputs q (k ∷ rest) h.inputs_within at_queue in
    let kept : IsMesh now = IsMesh-inputs s q rest h (rest_fits s.setup.capacity k rest fits)
    (λ e d dead inside same. nothing_waited s.inputs q (queue_at s.setup.machine e (ByLink d)) k rest at_queue (h.none_at_dead_ports e d dead inside) same)
    (λ e dead inside same. nothing_waited s.inputs q (queue_at s.setup.machine e Local) k rest at_queue (h.none_on_dead_chips e dead inside) same) in
    subst IsMesh is (IsMesh-hands now c hand kept live
    (in_hand-fits k port (outputs s.setup c port k) (not_last s.setup c port k (All-head (λ (j : McCopy). j.hop < 2 ^ 32) k rest fits.hops))))
IsMesh-found s t (Send c o) h (held, at, serving, room, is) =
    let to : Queue = behind s.setup c o in
    subst IsMesh is (IsMesh-push_behind (after_serving s c o held) to (onward held.copy) (IsMesh-after_serving s c o held h at serving)
    (may_wait-behind s.setup c o) (room_after s c o held to room) (onward_below held.copy))
IsMesh-found s t (Dump c o) h (held, at, serving, is) =
    let next : State = after_serving s c o held in
    subst IsMesh is (IsMesh-dumped next (next.dumped ++ record { chip = c; out = o; copy = held.copy } ∷ []) (IsMesh-after_serving s c o held h at serving))
IsMesh-found s t (Collect v) h (k, rest, at_queue, is) =
    let now : State = record s { cores = set s.cores v rest } in
    let fits : FitsQueue s.setup.capacity (k ∷ rest) = All-at (FitsQueue s.setup.capacity) s.cores v (k ∷ rest) h.cores_within at_queue in
    subst IsMesh is (IsMesh-delivered now (now.delivered ++ record { vertex = v; copy = k } ∷ []) (IsMesh-cores s v rest h (rest_fits s.setup.capacity k rest fits)))

-- The mesh after an event is one.
pub IsMesh-step_of : (s t : State) (e : Event) → IsMesh s → step_of s e ≡ Some t → IsMesh t
IsMesh-step_of s t e h moves = IsMesh-found s t e h (event_found s t e moves)
