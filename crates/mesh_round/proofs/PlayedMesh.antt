-- A round on threads leads to a mesh. It moves a copy where anything was done, and else changes nothing.
use Rattle.mesh_round.proofs.Common.{All, All-right, Among, ByLink, Chip, Contains, FitsHand, FitsQueue, Hand, HasMoved, IfSome, IsInside, IsMesh, IsPlayedBy, Item, LeadsByFlow, List, Local, McCopy}
use Rattle.mesh_round.proofs.Common.{Option, Port, Setup, Some, State, [], among_contains, ap, append-nil, ap₂, arith, at_port, both_none, chip_of, core, drop, drop-append_seam, entered, first_here}
use Rattle.mesh_round.proofs.Common.{get_or-append-add, get_or_append_left, get_or_default, get_or_from_slice_get, got, held_at, held_in, index_of, inl, inr, left, left_by, length, length-append}
use Rattle.mesh_round.proofs.Common.{port_place, queue_at, queue_at-below, refl, same_lists, sent, sent_by, sent_in, served, slice_get, slice_get-get_or, slice_get_within, slice_index_or, subst, sym}
use Rattle.mesh_round.proofs.Common.{take, take-append_seam, taking_of, took, vertex_place, ℕ, ◌++◌, ◌+◌, ◌<◌, ◌∙◌, ◌∷◌, ◌≡◌, ◌≢◌}
use Rattle.mesh_round.proofs.{Done.inside_of, Done.place_is, Joined.among_flat, Joined.among_into, PlayedQueues.done_of, PlayedQueues.fits_after, PlayedQueues.from_taken, PlayedQueues.in_order}
use Rattle.mesh_round.proofs.{PlayedRound.dead_chips, PlayedRound.dead_ports, PlayedRound.is_input, PlayedRound.is_round, PlayedRound.left_port, TheFlow.Round, TheFlow.flow_of, TheFlow.stands}
use Rattle.mesh_round.proofs.TheFlow.{told_at}

not_empty : {X : Type 0} (x : X) (xs : List X) → Among x xs → xs ≢ []
not_empty x [] a none = a
not_empty x (y ∷ ys) a none = cc

module _ (r : Round) where
  abbrev u : Setup
  u = r.m.setup

  -- ---- a mesh afterwards

  inputs_short : All (FitsQueue u.capacity) r.n.inputs
  inputs_short i d below =
      let long = r.played.inputs_long ∙ r.mesh.input_lists in
      let is : held_at r.n i ≡ slice_index_or r.n.inputs i d = get_or_append_left r.n.inputs r.n.cores [] i below ∙ get_or_default r.n.inputs i [] d below in
      subst (FitsQueue u.capacity) is (fits_after r i (omega (arith, below, long)))

  cores_short : All (FitsQueue u.capacity) r.n.cores
  cores_short v d below =
      let inputs = r.played.inputs_long ∙ r.mesh.input_lists in
      let cores = r.played.cores_long ∙ r.mesh.core_lists in
      let is : held_at r.n (vertex_place u v) ≡ slice_index_or r.n.cores v d =
      ap (λ k. held_at r.n (k + v)) (sym inputs) ∙ (get_or-append-add r.n.inputs r.n.cores v [] ∙ get_or_default r.n.cores v [] d below) in
      subst (FitsQueue u.capacity) is (fits_after r (vertex_place u v) (omega (arith, below, cores)))

  -- what is not sent yet has passed no router
  at_start : All (λ (q : List McCopy). All (λ k. k.hop ≡ 0) q) r.n.unsent
  at_start v d below =
      let was : All (λ (k : McCopy). k.hop ≡ 0) (slice_index_or r.m.unsent v []) = r.mesh.unsent_at_start v [] (omega (arith, below, r.played.unsent_long)) in
      let rest = All-right (λ (k : McCopy). k.hop ≡ 0) (sent_by v r.items) (slice_index_or r.n.unsent v []) (subst (All (λ (k : McCopy). k.hop ≡ 0)) (r.played.unsent v) was) in
      subst (All (λ (k : McCopy). k.hop ≡ 0)) (get_or_default r.n.unsent v [] d below) rest

  -- a port's queue that held nothing and that nothing entered
  still_empty : (c : Chip) (port : Port) → IsInside u.machine c → slice_get r.m.inputs (queue_at u.machine c port) ≡ Some [] → (flow_of r).entered (at_port u c port) ≡ [] →
      slice_get r.n.inputs (queue_at u.machine c port) ≡ Some []
  still_empty c port inside was entered =
      let long = r.played.inputs_long ∙ r.mesh.input_lists in
      let held : held_in r.m (at_port u c port) ≡ [] = get_or_from_slice_get r.m.inputs (queue_at u.machine c port) [] [] was in
      let none = both_none ((flow_of r).left (at_port u c port)) (held_in r.n (at_port u c port)) (sym (in_order r (at_port u c port)) ∙ ap₂ (λ (a b : List McCopy). a ++ b) held entered) in
      slice_get-get_or r.n.inputs (queue_at u.machine c port) [] (omega (arith, queue_at-below u.machine c port inside, long)) ∙ ap Some none.1

  still_mesh : IsMesh (record r.n { setup = r.m.setup })
  still_mesh = record {
    size = r.mesh.size;
    different = r.mesh.different;
    sites = r.mesh.sites;
    room = r.mesh.room;
    unsent_lists = r.played.unsent_long ∙ r.mesh.unsent_lists;
    input_lists = r.played.inputs_long ∙ r.mesh.input_lists;
    hand_list = ap length r.played.hands ∙ r.mesh.hand_list;
    core_lists = r.played.cores_long ∙ r.mesh.core_lists;
    table_list = r.mesh.table_list;
    inputs_within = inputs_short;
    cores_within = cores_short;
    unsent_at_start = at_start;
    hands_fit = subst (All (λ (h : Option Hand). IfSome h FitsHand)) (sym r.played.hands) r.mesh.hands_fit;
    none_at_dead_ports = λ c d dead inside. still_empty c (ByLink d) inside (r.mesh.none_at_dead_ports c d dead inside) (dead_ports r c d inside dead);
    none_on_dead_chips = λ c dead inside. still_empty c Local inside (r.mesh.none_on_dead_chips c dead inside) (dead_chips r c inside dead);
    no_hand_on_dead_chips = λ c dead inside. ap (λ (l : List (Option Hand)). slice_get l (index_of u.machine c)) r.played.hands ∙ r.mesh.no_hand_on_dead_chips c dead inside;
  }

  pub is_mesh : IsMesh r.n
  is_mesh = subst (λ (s : Setup). IsMesh (record r.n { setup = s })) (sym r.played.setup) still_mesh

  -- ---- a copy moves where anything was done

  took_one : (j : ℕ) (p : Port) (k : McCopy) → Contains r.items (took j p k) → HasMoved r.m (flow_of r)
  took_one j p k has =
      let c : Chip = chip_of u.machine j in
      let inside = inside_of u j c (done_of r (took j p k) has) refl in
      let q = queue_at u.machine c p in
      let among = among_into (left_by q) (took j p k) k r.items has (first_here (port_place j p) q k (place_is u j p)) in
      inl (at_port u c p, is_input r c p inside, λ none. not_empty k (left q r.items) among (sym (left_port r c p inside) ∙ none))

  taken_by : (j : ℕ) (t : Port × McCopy) (x : Item) → Contains r.items x → Among t (taking_of j x) → HasMoved r.m (flow_of r)
  taken_by j t (took i p k) has a = took_one i p k has
  taken_by j t (served i c place s) has a = absurd a
  taken_by j t (sent i v k) has a = absurd a
  taken_by j t (got i v place k) has a = absurd a

  moved_by : (x : Item) → Contains r.items x → HasMoved r.m (flow_of r)
  moved_by (took j p k) has = took_one j p k has
  moved_by (served j c place s) has =
      let from = from_taken r j c place s has in
      let took = among_flat (taking_of j) from.0 r.items from.1 in
      taken_by j from.0 took.0 (among_contains took.0 r.items took.1) took.2
  moved_by (sent j v k) has =
      let on = (done_of r (sent j v k) has).1 in
      let among = among_into (sent_in v) (sent j v k) k r.items has (first_here v v k refl) in
      inr (v, slice_get_within u.spots v on.spot on.stands, not_empty k (sent_by v r.items) among)
  moved_by (got j v place k) has =
      let done = done_of r (got j v place k) has in
      let q = vertex_place u v in
      let among = among_into (left_by q) (got j v place k) k r.items has (first_here place q k done.2) in
      let there : v < length r.m.cores = omega (arith, slice_get_within u.spots v done.1.spot done.1.stands, r.mesh.core_lists) in
      let is = told_at r (λ i. left i r.items) (core v) q refl there (stands r (core v)) in
      inl (core v, there, λ none. not_empty k (left q r.items) among (sym is ∙ none))

  pub leads_by_flow : LeadsByFlow r.patience r.turns r.items r.m r.n
  leads_by_flow = record { flow = flow_of r; round = is_round r; moved = λ some. first r.items refl some }
    where
      first : (xs : List Item) → r.items ≡ xs → r.items ≢ [] → HasMoved r.m (flow_of r)
      first [] is some = absurd (some is)
      first (x ∷ xs) is some = moved_by x (among_contains x r.items (subst (λ (l : List Item). Among x l) (sym is) (inl refl)))

-- ---- where nothing was done

same_state : (m n : State) → n.setup ≡ m.setup → n.unsent ≡ m.unsent → n.inputs ≡ m.inputs → n.hands ≡ m.hands → n.cores ≡ m.cores → n.delivered ≡ m.delivered → n.dumped ≡ m.dumped → n ≡ m
same_state m n setup unsent inputs hands cores delivered dumped =
    ap (λ x. let s : State = record n { setup = x } in s) setup
    ∙ (ap (λ x. let s : State = record n { setup = m.setup; unsent = x } in s) unsent
    ∙ (ap (λ x. let s : State = record n { setup = m.setup; unsent = m.unsent; inputs = x } in s) inputs
    ∙ (ap (λ x. let s : State = record n { setup = m.setup; unsent = m.unsent; inputs = m.inputs; hands = x } in s) hands
    ∙ (ap (λ x. let s : State = record m { cores = x; delivered = n.delivered; dumped = n.dumped } in s) cores
    ∙ (ap (λ x. let s : State = record m { delivered = x; dumped = n.dumped } in s) delivered
    ∙ ap (λ x. let s : State = record m { dumped = x } in s) dumped)))))

pub still : (patience turns : ℕ) (items : List Item) (m n : State) → IsMesh m → IsPlayedBy patience turns items m n → items ≡ [] → n ≡ m
still patience turns items m n mesh played is = done (subst (λ (l : List Item). IsPlayedBy patience turns l m n) is played)
  where
    done : IsPlayedBy patience turns [] m n → n ≡ m
    done p =
        let inputs = mesh.input_lists in
        let cores = mesh.core_lists in
        let both_n = length-append n.inputs n.cores in
        let both_m = length-append m.inputs m.cores in
        let inputs_long = p.inputs_long in
        let cores_long = p.cores_long in
        let unsent_long = p.unsent_long in
        let queues : n.inputs ++ n.cores ≡ m.inputs ++ m.cores =
        same_lists (n.inputs ++ n.cores) (m.inputs ++ m.cores) (omega (arith, both_n, both_m, inputs_long, cores_long)) (λ q d below.
        let here : held_at m q ≡ held_at n q = sym (append-nil (held_at m q)) ∙ (p.queues q (omega (arith, below, both_n, inputs, cores, inputs_long, cores_long))).in_order in
        get_or_default (n.inputs ++ n.cores) q d [] below ∙ (sym here ∙ get_or_default (m.inputs ++ m.cores) q [] d (omega (arith, below, both_n, both_m, inputs_long, cores_long)))) in
        let unsent : n.unsent ≡ m.unsent =
        same_lists n.unsent m.unsent unsent_long (λ v d below.
        get_or_default n.unsent v d [] below ∙ (sym (p.unsent v) ∙ get_or_default m.unsent v [] d (omega (arith, below, unsent_long)))) in
        same_state m n p.setup unsent
        (sym (take-append_seam n.inputs n.cores) ∙ (ap₂ (λ i (l : List (List McCopy)). take i l) inputs_long queues ∙ take-append_seam m.inputs m.cores)) p.hands
        (sym (drop-append_seam n.inputs n.cores) ∙ (ap₂ (λ i (l : List (List McCopy)). drop i l) inputs_long queues ∙ drop-append_seam m.inputs m.cores))
        (p.delivered ∙ append-nil m.delivered) (p.dumped ∙ append-nil m.dumped)
