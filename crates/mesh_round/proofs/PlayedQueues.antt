-- What a round on threads does with each queue.
use Rattle.mesh_round.proofs.Common.{All, All-append, All-cons, All-contains, All-each, All-flat_map, All-from_flat_map, All-head, All-left, All-nil, All-replicate, All-right, Among, Chip, Contains}
use Rattle.mesh_round.proofs.Common.{Delivery, DumpRec, FitsQueue, IsDoneOn, IsLiveChip, IsLiveIndex, IsOutput, Item, List, McCopy, None, Option, Port, Queue, Served, Service, Setup, Some, WasFullAt}
use Rattle.mesh_round.proofs.Common.{[], among_contains, ap, arith, capacity_of, cases_lt, chip_of, cond_both, delivered_of, dumped_of, entered, entered_by, first_here, get_or_past, got, held_at}
use Rattle.mesh_round.proofs.Common.{held_in, here, last_hop, left, left_by, length, length-append, min, port_count, port_place, queue_at-below, recorded, records, refl, sent, sent_by, sent_in}
use Rattle.mesh_round.proofs.Common.{served, service_of, services, slice_get_within, slice_index_or, subst, sym, taking_of, takings, took, where_same, where_there, ℕ, ◌*◌, ◌++◌, ◌+◌, ◌<◌, ◌==◌, ◌∷◌}
use Rattle.mesh_round.proofs.Common.{◌≡◌, ◌≤◌}
use Rattle.mesh_round.proofs.{Done.inside_of, Done.place_is, Joined.among_into, Serving.served_fits, TheFlow.Round, TheFlow.Stands, TheFlow.found, TheFlow.beyond, TheFlow.dark, TheFlow.stands}
use Rattle.mesh_round.proofs.TheFlow.{by_place, goes, flow_of, nowhere_fulls}

abbrev IsSmall : McCopy → Type 0
IsSmall k = k.hop ≤ last_hop

abbrev IsNew : McCopy → Type 0
IsNew k = k.hop ≡ 0

-- what holds of items holds of them where two places are the same
fits_same : {X : Type 0} (P : X → Type 0) (p q : ℕ) (xs : List X) → All P xs → All P (where_same p q xs)
fits_same P p q xs all = cond_both (p == q) xs [] (All P) (λ same. all) (λ apart. All-nil P)

fits_there : {X : Type 0} (P : X → Type 0) (place : Option ℕ) (q : ℕ) (xs : List X) → All P xs → All P (where_there place q xs)
fits_there P None q xs all = All-nil P
fits_there P (Some p) q xs all = fits_same P p q xs all

-- one item, of which it is known what holds where the places are the same
one_here : {X : Type 0} (P : X → Type 0) (p : ℕ) (x : X) → All P (where_same p p (x ∷ [])) → P x
one_here P p x all = All-head P x [] (subst (All P) (here p p (x ∷ []) refl) all)

module _ (r : Round) where
  abbrev u : Setup
  u = r.m.setup

  pub done_of : (x : Item) → Contains r.items x → IsDoneOn u x
  done_of x has = All-contains (IsDoneOn u) r.items x r.played.turns_are.each has

  -- ---- the balance of each queue

  -- each queue gives its copies in the order in which it got them
  pub in_order : (q : Queue) → held_in r.m q ++ (flow_of r).entered q ≡ (flow_of r).left q ++ held_in r.n q
  in_order q = grind (arith, stands, Stands, by_place, found, goes, beyond, dark)

  pub full : (q : Queue) → All (WasFullAt r.m (flow_of r) q) ((flow_of r).fulls q)
  full q = by (stands r q)
    where
      IsMoment : List McCopy → List McCopy → ℕ × ℕ → Type 0
      IsMoment came went e = (e.0 ≤ length came) × (e.1 ≤ length went) × (length (held_in r.m q) + e.0 ≡ e.1 + capacity_of u q)

      by : (x : Stands r q) → All (IsMoment (by_place r q (λ p. entered p.at r.items) [] x) (by_place r q (λ p. left p.at r.items) [] x)) (by_place r q (λ p. (goes r q p).fulls) (nowhere_fulls r) x)
      by (found p) = grind (arith, goes r q p)
      by (beyond out some before after) = All-nil (IsMoment [] [])
      by (dark is) =
          let none = ap length (ap (held_in r.m) is) in
          let no_room = ap (capacity_of u) is in
          All-replicate (IsMoment [] []) (r.patience * length (records r.items)) (0, 0) (omega arith, omega arith, omega (arith, none, no_room))

  -- ---- hop numbers

  new_sent : (v : ℕ) → All IsNew (sent_by v r.items)
  new_sent v = All-left IsNew (sent_by v r.items) (slice_index_or r.n.unsent v []) (subst (All IsNew) (r.played.unsent v) was)
    where
      was : All IsNew (slice_index_or r.m.unsent v [])
      was = grind (arith, cases_lt v (length r.m.unsent), get_or_past r.m.unsent v, All-nil IsNew)

  small_entered : (q : ℕ) → All IsSmall (entered q r.items)
  small_entered q = All-flat_map IsSmall (entered_by q) r.items (All-each (λ x. All IsSmall (entered_by q x)) r.items by)
    where
      fits : (h : ℕ) → min (h + 1) last_hop ≤ last_hop
      fits h = omega arith

      by : (x : Item) → Contains r.items x → All IsSmall (entered_by q x)
      by (took i p k) has = All-nil IsSmall
      by (served i c place s) has = grind (arith, fits_there, All-cons, fits, All-nil)
      by (sent i v k) has =
          let new : k.hop ≡ 0 = one_here IsNew v k (All-contains (λ x. All IsNew (sent_in v x)) r.items (sent i v k) (All-from_flat_map IsNew (sent_in v) r.items (new_sent v)) has) in
          fits_same IsSmall _ q (k ∷ []) (All-cons IsSmall k [] (omega (arith, new)) (All-nil IsSmall))
      by (got i v place k) has = All-nil IsSmall

  small_held : (q : ℕ) → q < port_count u + length u.spots → All IsSmall (held_at r.m q)
  small_held q below = grind (arith, All-append (FitsQueue u.capacity) r.m.inputs r.m.cores r.mesh.inputs_within r.mesh.cores_within, length-append r.m.inputs r.m.cores)

  small_at : (q : ℕ) → q < port_count u + length u.spots → All IsSmall (left q r.items ++ held_at r.n q)
  small_at q below = grind (arith, All-append IsSmall (held_at r.m q) (entered q r.items) (small_held q below) (small_entered q), small_held q below, small_entered q)

  small_left : (q : ℕ) → q < port_count u + length u.spots → All IsSmall (left q r.items)
  small_left q below = All-left IsSmall (left q r.items) (held_at r.n q) (small_at q below)

  -- what a queue holds afterwards fits into it
  pub fits_after : (q : ℕ) → q < port_count u + length u.spots → FitsQueue u.capacity (held_at r.n q)
  fits_after q below = grind (arith, All-right IsSmall (left q r.items) (held_at r.n q) (small_at q below), small_at q below)

  pub hops_left : (q : Queue) → All (λ (k : McCopy). k.hop ≤ last_hop) ((flow_of r).left q)
  hops_left q = by (stands r q)
    where
      by : (x : Stands r q) → All IsSmall (by_place r q (λ p. left p.at r.items) [] x)
      by (found p) = small_left p.at p.below
      by (beyond out some before after) = All-nil IsSmall
      by (dark is) = All-nil IsSmall

  -- ---- records and deliveries

  small_taken : (i : ℕ) → All (λ (t : Port × McCopy). t.1.hop ≤ last_hop) (takings i r.items)
  small_taken i = All-flat_map P (taking_of i) r.items (All-each (λ x. All P (taking_of i x)) r.items by)
    where
      P : Port × McCopy → Type 0
      P t = t.1.hop ≤ last_hop

      by : (x : Item) → Contains r.items x → All P (taking_of i x)
      by (took j p k) has =
          let live : IsLiveIndex u j = done_of (took j p k) has in
          let place = place_is u j p in
          let low = queue_at-below u.machine (chip_of u.machine j) p (inside_of u j (chip_of u.machine j) live refl) in
          let q = port_place j p in
          let small : k.hop ≤ last_hop = one_here IsSmall q k
          (All-contains (λ x. All IsSmall (left_by q x)) r.items (took j p k) (All-from_flat_map IsSmall (left_by q) r.items (small_left q (omega (arith, place, low)))) has) in
          fits_same P j i ((p, k) ∷ []) (All-cons P (p, k) [] small (All-nil P))
      by (served j c place s) has = All-nil P
      by (sent j v k) has = All-nil P
      by (got j v place k) has = All-nil P

  -- what was served had been taken
  pub from_taken : (i : ℕ) (c : Chip) (place : Option ℕ) (s : Service) → Contains r.items (served i c place s) →
      (t : Port × McCopy) × Among t (takings i r.items) × (s.copy ≡ t.1) × (t.1.hop ≤ last_hop → s.copy.hop < last_hop)
  from_taken i c place s has =
      let among = among_into (service_of i) (served i c place s) s r.items has (first_here i i s refl) in
      served_fits u (chip_of u.machine i) (takings i r.items) (services i r.items) (r.played.turns_are.each_once i) s among

  pub at_outputs : All (λ (d : DumpRec). IsLiveChip u.machine d.chip × IsOutput d.out × (d.copy.hop < last_hop)) (flow_of r).dumped
  at_outputs = All-flat_map Fits dumped_of r.items (All-each (λ x. All Fits (dumped_of x)) r.items by)
    where
      Fits : DumpRec → Type 0
      Fits d = IsLiveChip u.machine d.chip × IsOutput d.out × (d.copy.hop < last_hop)

      of : (c : Chip) (s : Service) (f : Served) → IsLiveChip u.machine c → IsOutput s.out → s.copy.hop < last_hop → All Fits (recorded c s f)
      of c s f live is small = grind (arith, All-nil, Fits, All-cons)

      by : (x : Item) → Contains r.items x → All Fits (dumped_of x)
      by (took i p k) has = All-nil Fits
      by (served i c place s) has =
          let done = done_of (served i c place s) has in
          let from = from_taken i c place s has in
          let small = All-contains (λ (t : Port × McCopy). t.1.hop ≤ last_hop) (takings i r.items) from.0 (small_taken i) (among_contains from.0 (takings i r.items) from.1) in
          of c s s.fate (subst (IsLiveChip u.machine) (sym done.1) done.0.live) done.3 (from.3 small)
      by (sent i v k) has = All-nil Fits
      by (got i v place k) has = All-nil Fits

  pub to_vertices : All (λ (d : Delivery). d.vertex < length u.spots) (flow_of r).delivered
  to_vertices = All-flat_map Fits delivered_of r.items (All-each (λ x. All Fits (delivered_of x)) r.items by)
    where
      Fits : Delivery → Type 0
      Fits d = d.vertex < length u.spots

      by : (x : Item) → Contains r.items x → All Fits (delivered_of x)
      by x has = grind (arith, All-nil, Fits, done_of, All-cons, slice_get_within)
