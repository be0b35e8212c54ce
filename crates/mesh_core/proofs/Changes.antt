-- What every mesh has stays when one list changes, and when a mesh is made.
use Rattle.mesh_core.proofs.Common.{All, All-at, All-nil, All-replicate, All-set, All-tail, AllPairs, ByLink, Chip, Delivery, Description, Dir, DumpRec, FitsHand, FitsQueue, Hand, HasSize, IfSome}
use Rattle.mesh_core.proofs.Common.{IsInside, IsMesh, IsSite, List, Local, McCopy, None, Option, Port, Setup, Some, State, [], ap, arith, cases_eq, dir_number_below, drop_front, empty_mesh, false}
use Rattle.mesh_core.proofs.Common.{get_or-replicate, index_below, index_of, is_live_chip, is_live_link, length, length-replicate, length-set, live_inside, port_number, queue_at, refl, replicate}
use Rattle.mesh_core.proofs.Common.{rules, same_index, set, slice_get, slice_get-get_or, slice_get-set_other, slice_get-set_same, true, ℕ, ◌*◌, ◌<◌, ◌^◌, ◌∙◌, ◌∷◌, ◌≡◌, ◌≢◌, ◌≤◌}

-- what a port's number is below
pub port_below : (port : Port) → port_number port < 7
port_below port = grind (arith, dir_number_below)

pub queue_at-below : (m : Description) (c : Chip) (port : Port) → IsInside m c → queue_at m c port < 7 * (m.width * m.height)
queue_at-below m c port inside = omega (arith, index_below m c inside, port_below port)

-- no copy fits into each queue
pub none_fits : (capacity : ℕ) → FitsQueue capacity []
none_fits capacity = record { within = omega arith; hops = All-nil (λ (k : McCopy). k.hop < 2 ^ 32) }

-- other lists of copies, hands and records, as long as they were and of the same kind
pub IsMesh-lists : (s : State) → IsMesh s →
    (unsent : List (List McCopy)) → length unsent ≡ length s.setup.spots → All (λ q. All (λ k. k.hop ≡ 0) q) unsent →
    (hands : List (Option Hand)) → length hands ≡ s.setup.machine.width * s.setup.machine.height → All (λ hand. IfSome hand FitsHand) hands →
    ((c : Chip) → is_live_chip s.setup.machine c ≡ false → IsInside s.setup.machine c → slice_get hands (index_of s.setup.machine c) ≡ Some None) →
    (cores : List (List McCopy)) → length cores ≡ length s.setup.spots → All (FitsQueue s.setup.capacity) cores →
    (delivered : List Delivery) (dumped : List DumpRec) →
    IsMesh (record s { unsent = unsent; hands = hands; cores = cores; delivered = delivered; dumped = dumped })
IsMesh-lists s h unsent unsent_long at_start hands hands_long some none_dead cores cores_long within delivered dumped = grind arith

-- a list of unsent copies that have passed no router
pub IsMesh-unsent : (s : State) (i : ℕ) (q : List McCopy) → IsMesh s → All (λ k. k.hop ≡ 0) q → IsMesh (record s { unsent = set s.unsent i q })
IsMesh-unsent s i q h start = search (rules, IsMesh-lists, length-set, All-set)

-- a core's queue that its copies fit into
pub IsMesh-cores : (s : State) (i : ℕ) (q : List McCopy) → IsMesh s → FitsQueue s.setup.capacity q → IsMesh (record s { cores = set s.cores i q })
IsMesh-cores s i q h fits = search (rules, IsMesh-lists, length-set, All-set)

-- what the router of a live chip may hold in hand
pub IsMesh-hands : (s : State) (c : Chip) (hand : Option Hand) → IsMesh s → is_live_chip s.setup.machine c ≡ true → IfSome hand FitsHand →
    IsMesh (record s { hands = set s.hands (index_of s.setup.machine c) hand })
IsMesh-hands s c hand h live some = search (rules, IsMesh-lists, length-set, All-set, slice_get-set_other, same_index, live_inside)

-- whatever was delivered
pub IsMesh-delivered : (s : State) (d : List Delivery) → IsMesh s → IsMesh (record s { delivered = d })
IsMesh-delivered s d h = grind (arith, IsMesh-lists)

-- whatever was dumped
pub IsMesh-dumped : (s : State) (d : List DumpRec) → IsMesh s → IsMesh (record s { dumped = d })
IsMesh-dumped s d h = grind (arith, IsMesh-lists)

-- an input queue is empty where no copy may wait
still_empty : (inputs : List (List McCopy)) (i j : ℕ) (q : List McCopy) → (j ≡ i → q ≡ []) → slice_get inputs j ≡ Some [] → slice_get (set inputs i q) j ≡ Some []
still_empty inputs i j q empty before = grind (arith, cases_eq j i, slice_get-set_same inputs i, slice_get-set_other)

-- an input queue that its copies fit into, and which is empty where no copy may wait
pub IsMesh-inputs : (s : State) (i : ℕ) (q : List McCopy) → IsMesh s → FitsQueue s.setup.capacity q →
    ((c : Chip) (d : Dir) → is_live_link s.setup.machine c d ≡ false → IsInside s.setup.machine c → queue_at s.setup.machine c (ByLink d) ≡ i → q ≡ []) →
    ((c : Chip) → is_live_chip s.setup.machine c ≡ false → IsInside s.setup.machine c → queue_at s.setup.machine c Local ≡ i → q ≡ []) →
    IsMesh (record s { inputs = set s.inputs i q })
IsMesh-inputs s i q h fits ports chips = grind (arith, length-set s.inputs i q, All-set (FitsQueue s.setup.capacity) s.inputs i q fits h.inputs_within, still_empty)

empty_at : (n i : ℕ) → i < n → slice_get (replicate {A = List McCopy} n []) i ≡ Some []
empty_at n i below =
    slice_get-get_or (replicate n []) i [] (rw (length-replicate {A = List McCopy} n []) below) ∙ ap Some (get_or-replicate n i [] [] below)

no_hand_at : (n i : ℕ) → i < n → slice_get (replicate {A = Option Hand} n None) i ≡ Some None
no_hand_at n i below =
    slice_get-get_or (replicate n None) i None (rw (length-replicate {A = Option Hand} n None) below) ∙ ap Some (get_or-replicate n i None None below)

-- a mesh without a copy
pub IsMesh-empty : (u : Setup) → HasSize u.machine → AllPairs (λ a b. a ≢ b) u.spots → All (IsSite u.machine) u.spots → 1 ≤ u.capacity →
    length u.tables ≡ u.machine.width * u.machine.height → IsMesh (empty_mesh u)
IsMesh-empty u size different sites room long =
    let chips : ℕ = u.machine.width * u.machine.height in
    record {
      size = size;
      different = different;
      sites = sites;
      room = room;
      unsent_lists = length-replicate {A = List McCopy} (length u.spots) [];
      input_lists = length-replicate {A = List McCopy} (7 * chips) [];
      hand_list = length-replicate {A = Option Hand} chips None;
      core_lists = length-replicate {A = List McCopy} (length u.spots) [];
      table_list = long;
      inputs_within = All-replicate (FitsQueue u.capacity) (7 * chips) [] (none_fits u.capacity);
      cores_within = All-replicate (FitsQueue u.capacity) (length u.spots) [] (none_fits u.capacity);
      unsent_at_start = All-replicate (λ (l : List McCopy). All (λ k. k.hop ≡ 0) l) (length u.spots) [] (λ k d below. absurd (omega arith));
      hands_fit = All-replicate (λ (x : Option Hand). IfSome x FitsHand) chips None tt;
      none_at_dead_ports = λ c d dead inside. empty_at (7 * chips) (queue_at u.machine c (ByLink d)) (queue_at-below u.machine c (ByLink d) inside);
      none_on_dead_chips = λ c dead inside. empty_at (7 * chips) (queue_at u.machine c Local) (queue_at-below u.machine c Local inside);
      no_hand_on_dead_chips = λ c dead inside. no_hand_at chips (index_of u.machine c) (index_below u.machine c inside);
    }

-- a mesh of lists that have no copy
pub empty_from : (u : Setup) (unsent inputs cores : List (List McCopy)) (hands : List (Option Hand)) →
    unsent ≡ replicate (length u.spots) [] → inputs ≡ replicate (7 * (u.machine.width * u.machine.height)) [] →
    hands ≡ replicate (u.machine.width * u.machine.height) None → cores ≡ replicate (length u.spots) [] →
    empty_mesh u ≡ record { setup = u; unsent = unsent; inputs = inputs; hands = hands; cores = cores; delivered = []; dumped = [] }
empty_from u unsent inputs cores hands is_unsent is_inputs is_hands is_cores = rw (is_unsent, is_inputs, is_hands, is_cores) refl

-- the first unsent copy of a vertex is gone
pub IsMesh-dropped : (s : State) (v : ℕ) → IsMesh s → IsMesh (record s { unsent = drop_front s.unsent v (slice_get s.unsent v) })
IsMesh-dropped s v h = by_first (slice_get s.unsent v) refl
  where
    by_first : (q : Option (List McCopy)) → slice_get s.unsent v ≡ q → IsMesh (record s { unsent = drop_front s.unsent v q })
    by_first (Some (k ∷ rest)) at =
        IsMesh-unsent s v rest h (All-tail (λ (x : McCopy). x.hop ≡ 0) k rest (All-at (λ q. All (λ (x : McCopy). x.hop ≡ 0) q) s.unsent v (k ∷ rest) h.unsent_at_start at))
    by_first (Some []) at = h
    by_first None at = h
