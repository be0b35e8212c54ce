-- A packet is send_of, and at its end nothing waits.
use Rattle.mesh_drain.proofs.Common.{All, All-at, All-cons, All-nil, All-set, Chip, Hand, Inject, IsLiveChip, IsMesh, IsServing, IsSite, List, Local, McCopy, MeetsSomeLedger, None, NothingWaits}
use Rattle.mesh_drain.proofs.Common.{Option, Some, Spot, State, Waiting, WaitsAlone, [], after_event, ap, arith, count_by-cons, get_or, get_or-map, get_or_default, get_or_past, has_room}
use Rattle.mesh_drain.proofs.Common.{if◌then◌else◌, index_of, inject_of, length, length-map, length_le_from_apart, lt-ltb, ltb-false, ltb-true, map, mul-le-mul_left, nat_eq_same, nat_lt, push_at}
use Rattle.mesh_drain.proofs.Common.{queue_at, refl, same_spot_place, site_inside, site_parts, slice_get, slice_index_or, slice_set, spot_place, spot_place-below, subst, sym, times, true, ℕ, ◌*◌, ◌+◌}
use Rattle.mesh_drain.proofs.Common.{◌<◌, ◌==◌, ◌∙◌, ◌∷◌, ◌≡◌, ◌≤◌}
use Rattle.mesh_drain.proofs.Steps.{kept_after, moved, written, queue_there}

-- ---- a packet begins

-- each queue is empty
empty_at : (s : State) → NothingWaits s → (i : ℕ) → slice_index_or s.inputs i [] ≡ []
empty_at s quiet i = grind (arith, nat_lt, ltb-true, get_or_past, ltb-false)

module _ (s : State) (kept : MeetsSomeLedger s) (quiet : NothingWaits s) (v : ℕ) (spot : Spot) (k : McCopy) (rest : List McCopy)
    (stands : slice_get s.setup.spots v ≡ Some spot) (first : slice_get s.unsent v ≡ Some (k ∷ rest)) where
  begun : Waiting
  begun = record { chip = spot.chip; port = Local }

  live_chip : IsLiveChip s.setup.machine spot.chip
  live_chip = (site_parts s.setup.machine spot (All-at (IsSite s.setup.machine) s.setup.spots v spot kept.mesh.sites stands)).0

  sent_mesh : State
  sent_mesh = record s { unsent = slice_set s.unsent v rest; inputs = slice_set s.inputs (queue_at s.setup.machine spot.chip Local) (k ∷ []) }

  injected_is : after_event s (Inject v) ≡ sent_mesh
  unfolding sent_mesh
  injected_is =
      let i : ℕ = queue_at s.setup.machine spot.chip Local in
      let at : slice_get s.inputs i ≡ Some [] = (queue_there s [] kept spot.chip Local live_chip).1 ∙ ap Some (empty_at s quiet i) in
      let room : has_room s.setup.capacity (slice_get s.inputs i) ≡ true = ap (has_room s.setup.capacity) at ∙ lt-ltb 0 s.setup.capacity kept.mesh.room in
      let after : Option (List McCopy) → State = λ q. record s { unsent = slice_set s.unsent v rest; inputs = push_at s.inputs i k q } in
      moved s sent_mesh (Inject v)
      (ap (λ o. inject_of s v o (slice_get s.unsent v)) stands
      ∙ (ap (inject_of s v (Some spot)) first
      ∙ (ap (λ b. if b then Some (after (slice_get s.inputs i)) else None) room
      ∙ ap (λ q. Some (after q)) at)))

  pub after_inject : after_event s (Inject v) ≡ record s { unsent = slice_set s.unsent v rest; inputs = slice_set s.inputs (queue_at s.setup.machine spot.chip Local) (k ∷ []) }
  unfolding sent_mesh
  after_inject = injected_is

  pub inject_unsent : (after_event s (Inject v)).unsent ≡ slice_set s.unsent v rest
  unfolding sent_mesh
  inject_unsent = ap (λ (t : State). t.unsent) injected_is

  pub inject_step : WaitsAlone (after_event s (Inject v)) (record { chip = spot.chip; port = Local } ∷ [])
  unfolding sent_mesh begun
  inject_step =
      let i : ℕ = queue_at s.setup.machine spot.chip Local in
      let there = queue_there s [] kept spot.chip Local live_chip in
      let Of : McCopy → Type 0 = λ (x : McCopy). x.packet ≡ k.packet in
      subst (λ t. WaitsAlone t (begun ∷ [])) (sym injected_is) (record {
        kept = subst MeetsSomeLedger injected_is (kept_after s (Inject v) kept);
        packet = k.packet;
        free = quiet.hands_empty;
        collected = quiet.cores_empty;
        live = All-cons (λ (x : Waiting). IsLiveChip s.setup.machine x.chip) begun [] live_chip (All-nil (λ (x : Waiting). IsLiveChip s.setup.machine x.chip));
        listed = λ j. written (λ q. length q ≤ times s.setup.machine j (begun ∷ [])) s.inputs i j (k ∷ []) there.0
            (λ same. let one = count_by-cons (λ (x : Waiting). queue_at s.setup.machine x.chip x.port == j) begun []
            ∙ ap (λ b. (if b then 1 else 0) + 0) (ap (λ n. i == n) (sym same) ∙ nat_eq_same i) in omega (arith, one))
            (λ other. let none : length (slice_index_or s.inputs j []) ≡ 0 = ap length (empty_at s quiet j) in omega (arith, none));
        of_packet = λ j. written (All Of) s.inputs i j (k ∷ []) there.0
            (λ same. All-cons Of k [] refl (All-nil Of))
            (λ other. subst (All Of) (sym (empty_at s quiet j)) (All-nil Of));
      })

-- ---- a packet ends

pub serving_done : (s : State) (w : List Waiting) (c : Chip) → IsServing s w c [] → WaitsAlone s w
serving_done s w c u = record {
  kept = u.kept;
  packet = u.copy.packet;
  free = subst (All (λ (h : Option Hand). h ≡ None)) (sym u.hand) (All-set (λ (h : Option Hand). h ≡ None) u.others (index_of s.setup.machine c) None refl u.free);
  collected = u.collected;
  live = u.live;
  listed = u.listed;
  of_packet = u.of_packet;
}

pub packet_done : (s : State) → WaitsAlone s [] → NothingWaits s
packet_done s u = record {
  inputs_empty = λ i d below. get_or_default s.inputs i d [] below ∙ short (slice_index_or s.inputs i []) (u.listed i);
  hands_empty = u.free;
  cores_empty = u.collected;
}
  where
    short : (q : List McCopy) → length q ≤ 0 → q ≡ []
    short [] few = refl
    short (x ∷ xs) few = absurd (omega (arith, few))

-- ---- few vertices

-- no two vertices stand on one core, so a mesh has fewer than 2 ^ 32
pub few_in_mesh : (s : State) → IsMesh s → length s.setup.spots ≤ 98304
few_in_mesh s mesh =
    let number : Spot → ℕ = spot_place s.setup.machine in
    let places : List ℕ = map number s.setup.spots in
    let nowhere : Spot = record { chip = record { x = 0; y = 0 }; core = 0 } in
    let long : length places ≡ length s.setup.spots = length-map s.setup.spots number in
    let is : (i d : ℕ) → i < length places → get_or places i d ≡ number (get_or s.setup.spots i nowhere) = λ i d below. get_or-map number s.setup.spots i nowhere d (omega (arith, below, long)) in
    let parts = λ (i : ℕ) (below : i < length s.setup.spots). site_inside s.setup.machine (get_or s.setup.spots i nowhere) (mesh.sites i nowhere below) in
    let few = length_le_from_apart places (24 * (s.setup.machine.width * s.setup.machine.height))
    (λ i j d before below same.
    let below_j : j < length s.setup.spots = omega (arith, below, long) in
    let below_i : i < length s.setup.spots = omega (arith, before, below_j) in
    let a = parts i below_i in
    let b = parts j below_j in
    mesh.different i j nowhere before below_j
    (same_spot_place s.setup.machine (get_or s.setup.spots i nowhere) (get_or s.setup.spots j nowhere) a.0 b.0 a.1 b.1
    (sym (is i d (omega (arith, below_i, long))) ∙ (same ∙ is j d below))))
    (λ i d below.
    let below_i : i < length s.setup.spots = omega (arith, below, long) in
    let a = parts i below_i in
    subst (λ n. n < 24 * (s.setup.machine.width * s.setup.machine.height)) (sym (is i d below)) (spot_place-below s.setup.machine (get_or s.setup.spots i nowhere) a.0 a.1)) in
    let area : s.setup.machine.width * s.setup.machine.height ≤ s.setup.machine.width * 64 = mul-le-mul_left s.setup.machine.width mesh.size.height_to_64 in
    omega (arith, few, long, mesh.size.width_to_64, area)

pub few_spots : (s : State) → MeetsSomeLedger s → length s.setup.spots ≤ 98304
few_spots s kept = few_in_mesh s kept.mesh
