-- A move keeps what the ledger says of one net: what comes in the place of a mark stands on the same trails.
use Rattle.mesh_core.proofs.Common.{All-contains, AllPairs-apart, Among, Bool, ByLink, Chip, ComesBy, ComesIn, Contains, Core, Dir, Edge, Exit, ExitLeads, IsBranch, IsKeyOf, IsLiveLink, IsOutput}
use Rattle.mesh_core.proofs.Common.{IsSite, IsWayOn, Link, List, Local, Mark, McCopy, NetPlan, None, Option, Out, Port, Route, Some, Spot, State, Station, [], add-zero, all_outs, among_filter}
use Rattle.mesh_core.proofs.Common.{among_map, among_only, and_from, and_parts, ap, arith, arrival_at, at_core, bit_at, both_ways, chip_eq, chip_eq_same, chip_eq_true, comes_by, comes_in_there}
use Rattle.mesh_core.proofs.Common.{count_by, count_by-cons, count_by-map, count_by-none, delivered, dumped, end_is_no_live_link, eq-eqb, eqb-true, exit_leads, exit_of, false, far_of}
use Rattle.mesh_core.proofs.Common.{get_or_from_slice_get, has, if◌then◌else◌, in_hand, in_queue, inl, inr, is_live_link, is_on_trail, is_wanted, last_hop, leaves_there, length, lookup, ltb-false}
use Rattle.mesh_core.proofs.Common.{ltb-true, map, min, nat_lt, no_high_bit, on_trail, one_edge_into, onward, opposite_of, out_eq, out_eq_same, out_eq_true, out_of, outputs, outs_of, outs_once}
use Rattle.mesh_core.proofs.Common.{port_eq, port_eq_same, port_eq_true, refl, same_exit, same_site, slice_get, slice_get_there, slice_get_within, subst, suc, sym, table_at, true, unsent}
use Rattle.mesh_core.proofs.Common.{vertex_behind, ℕ, ◌&&◌, ◌+◌, ◌<◌, ◌==◌, ◌∙◌, ◌∷◌, ◌≡◌, ◌≤◌}
use Rattle.mesh_core.proofs.{Moves.alone_or_taken, Moves.mark, Moves.Crosses, Moves.IsMove, Moves.IsMoveOf, Counting.counted, Ways.OnSomeTrail, Ways.Stands, Ways.vertex_at_stands, Ways.vertex_there}
use Rattle.mesh_core.proofs.Ways.{vertex_behind_stands, target_site, short_branch, onward_hop, one_place, branch_comes_in, exit_wanted, exit_is_output, wanted_on_branch}

-- ---- what the tests on a trail say

-- a mark in a hand, or dumped, on a trail: the branch leaves there
pub leaves_parts : (branch : List Exit) (hop : ℕ) (c : Chip) (o : Out) → leaves_there c o (slice_get branch hop) ≡ true →
    slice_get branch hop ≡ Some (record { chip = c; out = o })
leaves_parts branch hop c o on = by_exit (slice_get branch hop) refl on
  where
    by_exit : (x : Option Exit) → slice_get branch hop ≡ x → leaves_there c o x ≡ true → slice_get branch hop ≡ Some (record { chip = c; out = o })
    by_exit (Some x) at on' =
        let same_c : x.chip ≡ c = chip_eq_true x.chip c ((and_parts (chip_eq x.chip c) (out_eq x.out o) on').0) in
        let same_o : x.out ≡ o = out_eq_true x.out o ((and_parts (chip_eq x.chip c) (out_eq x.out o) on').1) in
        at ∙ ap Some (same_exit x (record { chip = c; out = o }) same_c same_o)
    by_exit None at on' = cc

-- and the other way round
pub leaves_from : (branch : List Exit) (hop : ℕ) (c : Chip) (o : Out) → slice_get branch hop ≡ Some (record { chip = c; out = o }) →
    leaves_there c o (slice_get branch hop) ≡ true
leaves_from branch hop c o at = rw at (and_from (chip_eq c c) (out_eq o o) (chip_eq_same c) (out_eq_same o))

-- a mark in a queue on a trail: the branch comes in there
pub record ComesThere (branch : List Exit) (hop : ℕ) (c : Chip) (port : Port) : Type 0 where
  pub exit : Exit
  pub at : slice_get branch hop ≡ Some exit
  pub chip : exit.chip ≡ c
  pub port_is : arrival_at branch hop ≡ port

pub comes_parts : (branch : List Exit) (hop : ℕ) (c : Chip) (port : Port) → comes_in_there branch hop c port (slice_get branch hop) ≡ true →
    ComesThere branch hop c port
comes_parts branch hop c port on = by_exit (slice_get branch hop) refl on
  where
    by_exit : (x : Option Exit) → slice_get branch hop ≡ x → comes_in_there branch hop c port x ≡ true → ComesThere branch hop c port
    by_exit (Some x) at on' = record {
      exit = x;
      at = at;
      chip = chip_eq_true x.chip c ((and_parts (chip_eq x.chip c) (port_eq (arrival_at branch hop) port) on').0);
      port_is = port_eq_true (arrival_at branch hop) port ((and_parts (chip_eq x.chip c) (port_eq (arrival_at branch hop) port) on').1);
    }
    by_exit None at on' = cc

pub comes_from : (branch : List Exit) (hop : ℕ) (c : Chip) (port : Port) → ComesThere branch hop c port →
    comes_in_there branch hop c port (slice_get branch hop) ≡ true
comes_from branch hop c port there = grind (arith, chip_eq_same c, port_eq_same port, and_from)

-- the edge of an exit has the exit's link
out_of_first : Option Exit → Option Out
out_of_first (Some x) = Some x.out
out_of_first None = None

same_dir : (f : Edge) (c : Chip) (d : Dir) → Some (exit_of f) ≡ Some (record { chip = c; out = Link d }) → f.dir ≡ d
unfolding out_of_first
same_dir f c d e = let outs : Some (Link f.dir) ≡ Some (Link d) = ap out_of_first e in cc

-- ---- one mark comes for one that leaves

-- an output that a route has is one that a route can name
has_is_output : (r : Route) (o : Out) → has r o ≡ true → IsOutput o
has_is_output r (Link d) yes' = tt
has_is_output r (Core p) yes' = by_size (nat_lt p 18) refl
  where
    by_size : (b : Bool) → nat_lt p 18 ≡ b → p < 18
    by_size true small = ltb-true p 18 small
    by_size false large =
        let high : 18 ≤ p = ltb-false p 18 large in
        let zero_bit : bit_at r.bits (6 + p) ≡ 0 = no_high_bit r (6 + p) (omega arith) in
        let one_bit : bit_at r.bits (6 + p) ≡ 1 = eqb-true (bit_at r.bits (6 + p)) 1 yes' in
        absurd (omega (arith, zero_bit, one_bit))

module _ (s : State) (net : NetPlan) (stands : Stands s net) where
  -- a way of the net
  abbrev Way : Spot → List Exit → ℕ → ℕ → Type 0
  Way target branch from to = IsWayOn s.setup.machine s.setup.spots net target branch from to

  -- ways of one net begin at one vertex
  same_source : (t u : Spot) (xs ys : List Exit) (from from' to to' : ℕ) → Way t xs from to → Way u ys from' to' → from ≡ from'
  same_source t u xs ys from from' to to' w w' = let e = w.begins in let e' = w'.begins in cc

  -- a hop number on a branch is small
  small_hop : (t : Spot) (xs : List Exit) (from to : ℕ) → Way t xs from to → (hop : ℕ) (x : Exit) → slice_get xs hop ≡ Some x → hop < 4096
  small_hop t xs from to w hop x at = grind (arith, slice_get_within xs hop x at, short_branch s net stands t xs w.is_branch)

  -- a copy on a trail has a hop number below the greatest, so it gets the outputs of lookup
  outputs_are : (t : Spot) (xs : List Exit) (from to : ℕ) → Way t xs from to → (c : Chip) (port : Port) (k : McCopy) →
      on_trail from to xs k.hop (in_queue c port) ≡ true →
      outputs s.setup c port k ≡ outs_of (lookup (table_at s.setup.machine s.setup.tables c) k.key port)
  outputs_are t xs from to w c port k on =
      let there = comes_parts xs k.hop c port on in
      let small : k.hop < 4096 = small_hop t xs from to w k.hop there.exit there.at in
      let other : (k.hop == last_hop) ≡ false = not_last k.hop small in
      ap (λ b. if b then [] else outs_of (lookup (table_at s.setup.machine s.setup.tables c) k.key port)) other
    where
      not_last : (n : ℕ) → n < 4096 → (n == last_hop) ≡ false
      not_last n few = grind arith

  -- what lookup gives where a trail comes in is what the net wants there
  routed : (t : Spot) (xs : List Exit) (from to : ℕ) → Way t xs from to → (c : Chip) (port : Port) (k : McCopy) → IsKeyOf net.block k.key →
      ComesThere xs k.hop c port → (o : Out) → IsOutput o → has (lookup (table_at s.setup.machine s.setup.tables c) k.key port) o ≡ is_wanted net.tree.edges net.targets c o
  routed t xs from to w c port k is_key there o valid =
      let comes_in : ComesIn s.setup.machine net.tree.root net.tree.edges c port =
      subst (λ (d : Chip). ComesIn s.setup.machine net.tree.root net.tree.edges d port) there.chip
      (subst (λ (p : Port). ComesIn s.setup.machine net.tree.root net.tree.edges there.exit.chip p) there.port_is
      (branch_comes_in s net t xs w.is_branch k.hop there.exit there.at)) in
      stands.right c port k.key o comes_in is_key valid

  -- Inject: the first place of every branch is the injection queue of the source's chip.
  inject_on : (t u : Spot) (xs ys : List Exit) (from from' to to' : ℕ) → Way t xs from to → Way u ys from' to' →
      (v : ℕ) (spot : Spot) (hop : ℕ) → slice_get s.setup.spots v ≡ Some spot → on_trail from to xs hop (unsent v) ≡ true →
      on_trail from' to' ys hop (in_queue spot.chip Local) ≡ on_trail from' to' ys hop (unsent v)
  inject_on t u xs ys from from' to to' w w' v spot hop is_spot on =
      let is_from : v ≡ from = eqb-true v from ((and_parts (v == from) (hop == 0) on).0) in
      let is_zero : hop ≡ 0 = eqb-true hop 0 ((and_parts (v == from) (hop == 0) on).1) in
      let one_from : from ≡ from' = same_source t u xs ys from from' to to' w w' in
      let stands_there : slice_get s.setup.spots from ≡ Some net.source = vertex_at_stands s.setup.spots net.source from w.begins in
      let same_spot : Some spot ≡ Some net.source = sym is_spot ∙ (ap (slice_get s.setup.spots) is_from ∙ stands_there) in
      let spot_is : spot ≡ net.source = cc in
      let right_side : on_trail from' to' ys hop (unsent v) ≡ true =
      and_from (v == from') (hop == 0) (eq-eqb v from' (is_from ∙ one_from)) (eq-eqb hop 0 is_zero) in
      let first = first_exit u ys w'.is_branch in
      let left_side : comes_in_there ys 0 spot.chip Local (slice_get ys 0) ≡ true =
      comes_from ys 0 spot.chip Local (record {
        exit = first.0;
        at = first.1;
        chip = first.2 ∙ (stands.root ∙ ap (λ (q : Spot). q.chip) (sym spot_is));
        port_is = refl;
      }) in
      ap (λ n. comes_in_there ys n spot.chip Local (slice_get ys n)) is_zero ∙ (left_side ∙ sym right_side)
    where
      first_exit : (t : Spot) (zs : List Exit) → IsBranch s.setup.machine net.tree.root net.tree.edges t zs →
          (x : Exit) × (slice_get zs 0 ≡ Some x) × (x.chip ≡ net.tree.root)
      first_exit t [] is = absurd is
      first_exit t (z ∷ zs) is = (z, refl, is.0)

  -- the link of an exit by a live link is an edge, and the branch goes on at the far end
  goes_on : (t : Spot) (xs : List Exit) (from to : ℕ) → Way t xs from to → (c : Chip) (d : Dir) → IsLiveLink s.setup.machine c d → (hop : ℕ) →
      slice_get xs hop ≡ Some (record { chip = c; out = Link d }) →
      Contains net.tree.edges (record { chip = c; dir = d }) × ((y : Exit) × (far_of s.setup.machine c d ≡ Some y.chip) × (slice_get xs (suc hop) ≡ Some y))
  goes_on t xs from to w c d live hop at =
      by_end (exit_leads s.setup.machine net.tree.edges t net.tree.root xs hop (record { chip = c; out = Link d }) w.is_branch at)
    where
      by_end : ExitLeads s.setup.machine net.tree.edges t xs hop (record { chip = c; out = Link d }) →
          Contains net.tree.edges (record { chip = c; dir = d }) × ((y : Exit) × (far_of s.setup.machine c d ≡ Some y.chip) × (slice_get xs (suc hop) ≡ Some y))
      by_end (inl (f, out, in_tree, (y, far, next))) =
          let same : f ≡ d = cc in (
            subst (λ (q : Dir). Contains net.tree.edges (record { chip = c; dir = q })) same in_tree,
            (y, subst (λ (q : Dir). far_of s.setup.machine c q ≡ Some y.chip) same far, next),
          )
      by_end (inr (chip, out, last)) =
          let dead : is_live_link s.setup.machine t.chip d ≡ false =
          end_is_no_live_link s.setup.machine t d (target_site s net stands t w.is_target) (sym out) in
          let lives : is_live_link s.setup.machine t.chip d ≡ true = ap (λ (q : Chip). is_live_link s.setup.machine q d) chip ∙ live in
          cc

  -- Crossing a live link: the branch goes on at the far end.
  link_on : (t u : Spot) (xs ys : List Exit) (from from' to to' : ℕ) → Way t xs from to → Way u ys from' to' →
      (c e : Chip) (d : Dir) (hop : ℕ) → IsLiveLink s.setup.machine c d → far_of s.setup.machine c d ≡ Some e → on_trail from to xs hop (in_hand c (Link d)) ≡ true →
      on_trail from' to' ys (min (hop + 1) last_hop) (in_queue e (ByLink (opposite_of d))) ≡ on_trail from' to' ys hop (in_hand c (Link d))
  link_on t u xs ys from from' to to' w w' c e d hop live is_far on =
      let at : slice_get xs hop ≡ Some (record { chip = c; out = Link d }) = leaves_parts xs hop c (Link d) on in
      let small : hop < 4096 = small_hop t xs from to w hop (record { chip = c; out = Link d }) at in
      let next : min (hop + 1) last_hop ≡ suc hop = onward_hop hop small ∙ plus_one hop in
      ap (λ n. comes_in_there ys n e (ByLink (opposite_of d)) (slice_get ys n)) next
      ∙ both_ways (comes_in_there ys (suc hop) e (ByLink (opposite_of d)) (slice_get ys (suc hop))) (leaves_there c (Link d) (slice_get ys hop))
      (back (goes_on t xs from to w c d live hop at).0) forth
    where
      edge : Edge
      edge = record { chip = c; dir = d }

      plus_one : (n : ℕ) → n + 1 ≡ suc n
      plus_one n = omega arith

      forth : leaves_there c (Link d) (slice_get ys hop) ≡ true → comes_in_there ys (suc hop) e (ByLink (opposite_of d)) (slice_get ys (suc hop)) ≡ true
      forth on' =
          let at : slice_get ys hop ≡ Some (record { chip = c; out = Link d }) = leaves_parts ys hop c (Link d) on' in
          let leads = goes_on u ys from' to' w' c d live hop at in
          let y : Exit = leads.1.0 in
          let by : ComesBy s.setup.machine net.tree.edges ys Local hop y.chip =
          comes_by s.setup.machine net.tree.edges u net.tree.root Local ys hop y w'.is_branch leads.1.2 in
          let same : Some (exit_of by.edge) ≡ Some (record { chip = c; out = Link d }) = sym by.before ∙ at in
          let same_d : by.edge.dir ≡ d = same_dir by.edge c d same in
          let same_e : Some y.chip ≡ Some e = sym leads.1.1 ∙ is_far in
          comes_from ys (suc hop) e (ByLink (opposite_of d)) (record {
            exit = y;
            at = leads.1.2;
            chip = cc;
            port_is = by.arrives ∙ ap (λ (q : Dir). ByLink (opposite_of q)) same_d;
          })

      back : Contains net.tree.edges edge → comes_in_there ys (suc hop) e (ByLink (opposite_of d)) (slice_get ys (suc hop)) ≡ true → leaves_there c (Link d) (slice_get ys hop) ≡ true
      back in_tree on' =
          let there = comes_parts ys (suc hop) e (ByLink (opposite_of d)) on' in
          let by : ComesBy s.setup.machine net.tree.edges ys Local hop there.exit.chip =
          comes_by s.setup.machine net.tree.edges u net.tree.root Local ys hop there.exit w'.is_branch there.at in
          let one : by.edge ≡ edge =
          one_edge_into s.setup.machine net.tree.root net.tree.edges (map (λ x. x.chip) net.targets) stands.tree by.edge edge e
          by.in_tree in_tree (by.leads ∙ ap Some there.chip) is_far in
          leaves_from ys hop c (Link d) (by.before ∙ ap (λ (f : Edge). Some (exit_of f)) one)

  -- Crossing to a vertex: the branch ends there.
  end_on : (t u : Spot) (xs ys : List Exit) (from from' to to' : ℕ) → Way t xs from to → Way u ys from' to' →
      (c : Chip) (o : Out) (v : ℕ) (hop : ℕ) → ((d : Dir) → o ≡ Link d → is_live_link s.setup.machine c d ≡ false) →
      vertex_behind s.setup.spots c o ≡ Some v → on_trail from to xs hop (in_hand c o) ≡ true →
      on_trail from' to' ys (min (hop + 1) last_hop) (at_core v) ≡ on_trail from' to' ys hop (in_hand c o)
  end_on t u xs ys from from' to to' w w' c o v hop dead is_vertex on =
      let at : slice_get xs hop ≡ Some (record { chip = c; out = o }) = leaves_parts xs hop c o on in
      let small : hop < 4096 = small_hop t xs from to w hop (record { chip = c; out = o }) at in
      ap (λ n. (v == to') && (n == length ys)) (onward_hop hop small)
      ∙ both_ways ((v == to') && (hop + 1 == length ys)) (leaves_there c o (slice_get ys hop)) back forth
    where
      -- the spot of the vertex there
      there : (q : Spot) × (slice_get s.setup.spots v ≡ Some q) × (q.chip ≡ c) × (out_of q.core ≡ o)
      there = vertex_behind_stands s.setup.spots c o v is_vertex

      -- the spot of the branch's target
      goal : slice_get s.setup.spots to' ≡ Some u
      goal = vertex_at_stands s.setup.spots u to' w'.ends

      site : IsSite s.setup.machine there.0
      site =
          subst (IsSite s.setup.machine) (get_or_from_slice_get s.setup.spots v there.0 there.0 there.1)
          (stands.mesh.sites v there.0 (slice_get_within s.setup.spots v there.0 there.1))

      ends : ExitLeads s.setup.machine net.tree.edges u ys hop (record { chip = c; out = o }) → ((v == to') && (hop + 1 == length ys)) ≡ true
      ends (inl (d, out, in_tree, next)) =
          let live : IsLiveLink s.setup.machine c d = All-contains (λ (f : Edge). IsLiveLink s.setup.machine f.chip f.dir) net.tree.edges
          (record { chip = c; dir = d }) stands.tree.edges_live in_tree in
          let not_live = dead d out in
          cc
      ends (inr (chip, out, last)) =
          let same : there.0 ≡ u = same_site s.setup.machine there.0 u site (target_site s net stands u w'.is_target) (there.2 ∙ sym chip) (there.3 ∙ out) in
          let same_v : v ≡ to' = AllPairs-apart s.setup.spots u stands.mesh.different v to' (there.1 ∙ ap Some same) goal in
          and_from (v == to') (hop + 1 == length ys) (eq-eqb v to' same_v) (eq-eqb (hop + 1) (length ys) (omega (arith, last)))

      forth : leaves_there c o (slice_get ys hop) ≡ true → ((v == to') && (hop + 1 == length ys)) ≡ true
      forth on' =
          ends (exit_leads s.setup.machine net.tree.edges u net.tree.root ys hop (record { chip = c; out = o }) w'.is_branch (leaves_parts ys hop c o on'))

      by_end : (x : Exit) → slice_get ys hop ≡ Some x → hop + 1 ≡ length ys → u ≡ there.0 →
          ExitLeads s.setup.machine net.tree.edges u ys hop x → leaves_there c o (slice_get ys hop) ≡ true
      by_end x at last u_is (inl (d, out, in_tree, (y, far, next))) =
          let past : suc hop < length ys = slice_get_within ys (suc hop) y next in absurd (omega arith)
      by_end x at last u_is (inr (chip, out, long)) =
          let same_c : x.chip ≡ c = sym chip ∙ (ap (λ (z : Spot). z.chip) u_is ∙ there.2) in
          let same_o : x.out ≡ o = out ∙ (ap (λ (z : Spot). out_of z.core) u_is ∙ there.3) in
          rw at (and_from (chip_eq x.chip c) (out_eq x.out o)
          (ap (λ (z : Chip). chip_eq z c) same_c ∙ chip_eq_same c)
          (ap (λ (z : Out). out_eq z o) same_o ∙ out_eq_same o))

      back : ((v == to') && (hop + 1 == length ys)) ≡ true → leaves_there c o (slice_get ys hop) ≡ true
      back both =
          let same_v : v ≡ to' = eqb-true v to' ((and_parts (v == to') (hop + 1 == length ys) both).0) in
          let last : hop + 1 ≡ length ys = eqb-true (hop + 1) (length ys) ((and_parts (v == to') (hop + 1 == length ys) both).1) in
          let target_is : Some u ≡ Some there.0 = sym goal ∙ (ap (slice_get s.setup.spots) (sym same_v) ∙ there.1) in
          let u_is : u ≡ there.0 = cc in
          let within : hop < length ys = omega arith in
          let exit = slice_get_there ys hop within in
          by_end exit.0 exit.1 last u_is
          (exit_leads s.setup.machine net.tree.edges u net.tree.root ys hop exit.0 w'.is_branch exit.1)

  -- Take: of the outputs that lookup gives, a branch that comes in there leaves by one, and any other by none.
  take_on : (t u : Spot) (xs ys : List Exit) (from from' to to' : ℕ) → Way t xs from to → Way u ys from' to' →
      (c : Chip) (port : Port) (k : McCopy) → IsKeyOf net.block k.key → on_trail from to xs k.hop (in_queue c port) ≡ true →
      count_by (is_on_trail from' to' ys) (map (λ o. mark k (in_hand c o)) (outputs s.setup c port k))
      ≡ (if on_trail from' to' ys k.hop (in_queue c port) then 1 else 0)
  take_on t u xs ys from from' to to' w w' c port k is_key on =
      ap (λ os. count_by (is_on_trail from' to' ys) (map (λ o. mark k (in_hand c o)) os)) (outputs_are t xs from to w c port k on)
      ∙ (count_by-map (is_on_trail from' to' ys) (λ o. mark k (in_hand c o)) (outs_of route)
      ∙ by_exit (slice_get ys k.hop) refl)
    where
      route : Route
      route = lookup (table_at s.setup.machine s.setup.tables c) k.key port

      there : ComesThere xs k.hop c port
      there = comes_parts xs k.hop c port on

      by_chip : (x : Exit) → slice_get ys k.hop ≡ Some x → (here : Bool) → chip_eq x.chip c ≡ here →
          count_by (λ o. here && out_eq x.out o) (outs_of route) ≡ (if here && port_eq (arrival_at ys k.hop) port then 1 else 0)
      by_chip x at false other = count_by-none (outs_of route)
      by_chip x at true same =
          let x_c : x.chip ≡ c = chip_eq_true x.chip c same in
          let valid : IsOutput x.out = exit_is_output s net u ys w'.is_branch k.hop x at in
          let wanted : is_wanted net.tree.edges net.targets x.chip x.out ≡ true = exit_wanted s net u w'.is_target ys w'.is_branch k.hop x at in
          let given : has route x.out ≡ true =
          routed t xs from to w c port k is_key there x.out valid ∙ (ap (λ (d : Chip). is_wanted net.tree.edges net.targets d x.out) (sym x_c) ∙ wanted) in
          let one = one_place s net stands t u xs ys w.is_branch w'.is_branch k.hop k.hop there.exit x there.at at (there.chip ∙ sym x_c) in
          let arrives : port_eq (arrival_at ys k.hop) port ≡ true = ap (λ (p : Port). port_eq p port) (sym one.1 ∙ there.port_is) ∙ port_eq_same port in
          outs_once route x.out valid ∙ (ap (λ b. if b then 1 else 0) given ∙ ap (λ b. if b then 1 else 0) (sym arrives))

      by_exit : (x : Option Exit) → slice_get ys k.hop ≡ x →
          count_by (λ o. leaves_there c o x) (outs_of route) ≡ (if comes_in_there ys k.hop c port x then 1 else 0)
      by_exit (Some x) at = by_chip x at (chip_eq x.chip c) refl
      by_exit None at = count_by-none (outs_of route)

  -- one mark in the place of one, with the same test
  one_for_one : (p : Mark → Bool) (x y : Mark) → p y ≡ p x → count_by p (y ∷ []) ≡ (if p x then 1 else 0)
  one_for_one p x y same = count_by-cons p y [] ∙ (add-zero (if p y then 1 else 0) ∙ ap (λ b. if b then 1 else 0) same)

  -- What comes stands on each trail of the net as often as what leaves.
  pub move_counts : (t u : Spot) (xs ys : List Exit) (from from' to to' : ℕ) → Way t xs from to → Way u ys from' to' →
      (x : Mark) (come : List Mark) → IsMove s x come → IsKeyOf net.block x.copy.key → is_on_trail from to xs x ≡ true →
      count_by (is_on_trail from' to' ys) come ≡ (if is_on_trail from' to' ys x then 1 else 0)
  move_counts t u xs ys from from' to to' w w' x come move is_key on = by_station x.copy x.station move is_key on
    where
      p : Mark → Bool
      p = is_on_trail from' to' ys

      -- a copy is on a trail in hand where it is on it dumped, and goes on from either
      crossing : (k : McCopy) (c : Chip) (o : Out) → Crosses s k c o come → on_trail from to xs k.hop (in_hand c o) ≡ true →
          count_by p come ≡ (if p (mark k (in_hand c o)) then 1 else 0)
      crossing k c o (inl (d, e, is_link, live, far, comes)) on' =
          let y : Mark = mark (onward k) (in_queue e (ByLink (opposite_of d))) in
          let on_link : on_trail from to xs k.hop (in_hand c (Link d)) ≡ true = ap (λ (q : Out). on_trail from to xs k.hop (in_hand c q)) (sym is_link) ∙ on' in
          ap (λ l. count_by p l) comes
          ∙ one_for_one p (mark k (in_hand c o)) y
          (link_on t u xs ys from from' to to' w w' c e d k.hop live far on_link ∙ ap (λ (q : Out). on_trail from' to' ys k.hop (in_hand c q)) (sym is_link))
      crossing k c o (inr (v, dead, vertex, comes)) on' =
          let y : Mark = mark (onward k) (at_core v) in
          ap (λ l. count_by p l) comes
          ∙ one_for_one p (mark k (in_hand c o)) y (end_on t u xs ys from from' to to' w w' c o v k.hop dead vertex on')

      by_station : (k : McCopy) (at : Station) → IsMoveOf s k at come → IsKeyOf net.block k.key → on_trail from to xs k.hop at ≡ true →
          count_by p come ≡ (if on_trail from' to' ys k.hop at then 1 else 0)
      by_station k (unsent v) m key on' =
          ap (λ l. count_by p l) m.2
          ∙ one_for_one p (mark k (unsent v)) (mark k (in_queue m.0.chip Local))
          (inject_on t u xs ys from from' to to' w w' v m.0 k.hop m.1 on')
      by_station k (in_queue c port) m key on' = ap (λ l. count_by p l) m ∙ take_on t u xs ys from from' to to' w w' c port k key on'
      by_station k (in_hand c o) (inl m) key on' =
          ap (λ l. count_by p l) m ∙ one_for_one p (mark k (in_hand c o)) (mark k (dumped c o)) refl
      by_station k (in_hand c o) (inr m) key on' = crossing k c o m on'
      by_station k (at_core v) m key on' = ap (λ l. count_by p l) m ∙ one_for_one p (mark k (at_core v)) (mark k (delivered v)) refl
      by_station k (delivered v) m key on' = absurd m
      by_station k (dumped c o) m key on' = crossing k c o m on'

  -- an output that lookup gives at a chip where a branch comes in lies on some branch, at the same place
  gives_trail : (t : Spot) (xs : List Exit) (from to : ℕ) → Way t xs from to → (c : Chip) (port : Port) (k : McCopy) →
      IsKeyOf net.block k.key → on_trail from to xs k.hop (in_queue c port) ≡ true → (o : Out) → Among o (outputs s.setup c port k) →
      OnSomeTrail s net (mark k (in_hand c o))
  gives_trail t xs from to w c port k is_key on o given =
      let there : ComesThere xs k.hop c port = comes_parts xs k.hop c port on in
      let route : Route = lookup (table_at s.setup.machine s.setup.tables c) k.key port in
      let in_route : Among o (outs_of route) = subst (λ (l : List Out). Among o l) (outputs_are t xs from to w c port k on) given in
      let has_it : has route o ≡ true = (among_filter (has route) o all_outs in_route).1 in
      let wanted : is_wanted net.tree.edges net.targets c o ≡ true =
      sym (routed t xs from to w c port k is_key there o (has_is_output route o has_it)) ∙ has_it in
      let other = wanted_on_branch s net stands (record { chip = c; out = o }) wanted in
      let one = one_place s net stands t other.target xs other.branch w.is_branch other.is_branch k.hop other.place there.exit
      (record { chip = c; out = o }) there.at other.at there.chip in
      let end = vertex_there s.setup.spots other.target (All-contains (Contains s.setup.spots) net.targets other.target stands.targets other.is_target) in
      record {
        target = other.target;
        branch = other.branch;
        from = from;
        to = end.0;
        way = record { is_target = other.is_target; is_branch = other.is_branch; begins = w.begins; ends = end.1 };
        on = leaves_from other.branch k.hop c o (ap (slice_get other.branch) one.0 ∙ other.at);
      }

  -- What comes is of the same packet, with the same key and payload, and stands on some trail of the net.
  pub record ComesRight (x y : Mark) : Type 0 where
    pub packet : y.copy.packet ≡ x.copy.packet
    pub key : y.copy.key ≡ x.copy.key
    pub payload : y.copy.payload ≡ x.copy.payload
    pub trail : OnSomeTrail s net y

  pub move_comes : (t : Spot) (xs : List Exit) (from to : ℕ) → Way t xs from to → (x : Mark) (come : List Mark) →
      IsMove s x come → IsKeyOf net.block x.copy.key → is_on_trail from to xs x ≡ true → (y : Mark) → Among y come → ComesRight x y
  move_comes t xs from to w x come move is_key on y is_come = elim (alone_or_taken s x.copy x.station come move) [
    | inl one ↦
        -- it is on the trail of the one that leaves, since one is
        let counts : count_by (is_on_trail from to xs) come ≡ 1 = move_counts t t xs xs from from to to w w x come move is_key on ∙ ap (λ b. if b then 1 else 0) on in
        let found = counted (is_on_trail from to xs) come (omega (arith, counts)) in
        let here : y ≡ one.comes = among_only one.comes y come one.alone is_come in
        let same : found.0 ≡ y = among_only one.comes found.0 come one.alone found.1 ∙ sym here in
        record {
          packet = ap (λ (z : Mark). z.copy.packet) here ∙ one.packet;
          key = ap (λ (z : Mark). z.copy.key) here ∙ one.key;
          payload = ap (λ (z : Mark). z.copy.payload) here ∙ one.payload;
          trail = record { target = t; branch = xs; from = from; to = to; way = w; on = ap (is_on_trail from to xs) (sym same) ∙ found.2 };
        }
    | inr (c, port, at, are) ↦
        let taken = among_map (λ o. mark x.copy (in_hand c o)) y (outputs s.setup c port x.copy) (subst (λ (l : List Mark). Among y l) are is_come) in
        let there : on_trail from to xs x.copy.hop (in_queue c port) ≡ true = ap (on_trail from to xs x.copy.hop) (sym at) ∙ on in
        record {
          packet = ap (λ (z : Mark). z.copy.packet) taken.2;
          key = ap (λ (z : Mark). z.copy.key) taken.2;
          payload = ap (λ (z : Mark). z.copy.payload) taken.2;
          trail = subst (λ (z : Mark). OnSomeTrail s net z) (sym taken.2) (gives_trail t xs from to w c port x.copy is_key there taken.0 taken.1);
        }
  ]
