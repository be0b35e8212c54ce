-- Nets have one plain table at a chip, and each of its rows has an output.
use Rattle.net_tables.proofs.Common.{All, All-contains, All-each, All-head, All-tail, AllPairs, AllPairs-map, AllPairs-permutation, AreOriginals, AreRoutedApart, ByLink, Chip, ComesIn, Contains}
use Rattle.net_tables.proofs.Common.{Contains-permutation, Contains-unmap, Core, Description, Edge, HasChip, Intersects, Intersects-sym, IsOriginalOf, IsOutput, IsPermutation, IsPermutation-sym}
use Rattle.net_tables.proofs.Common.{IsPlainTable, IsRoutingTree, IsRowNotAfter, Link, List, NetPlan, Original, Out, Port, Route, Row, Spot, [], ap, arith, bit_and, bit_at, bit_at-lt, bit_at-zero}
use Rattle.net_tables.proofs.Common.{cases_eq, cases_lt, dir_at, dir_number-dir_at, edge_wanted, end_wanted, eqb-true, eqb_tells, false≢true, generality, get_or, has, inl, inr, is_wanted, key_small}
use Rattle.net_tables.proofs.Common.{map, one_edge_into, opposite_of, out_number, out_of, out_of-has_bit, row_of, same_from_bits_below, same_in_order, same_route, slice_get_there, subst, sym, true}
use Rattle.net_tables.proofs.Common.{zero_of, ℕ, ◌*◌, ◌+◌, ◌-◌, ◌<◌, ◌==◌, ◌∙◌, ◌∷◌, ◌≡◌}
use Rattle.net_tables.proofs.{Trees.comes_in_tree, Whole.originals_apart, Whole.from_net}

-- ---- routes

-- two bits that are 1 alike are the same
same_bit : (x y : ℕ) → x < 2 → y < 2 → (x == 1) ≡ (y == 1) → x ≡ y
same_bit x y first second alike = grind (arith, eqb_tells x 1, eqb_tells y 1, eqb-true, zero_of)

same_bit_at : (a b : Route) → ((o : Out) → IsOutput o → has a o ≡ has b o) → (i : ℕ) → i < 24 → bit_at a.bits i ≡ bit_at b.bits i
same_bit_at a b alike i below = elim (cases_lt i 6) [
  | inl link ↦
      let number : out_number (Link (dir_at i)) ≡ i = dir_number-dir_at i link in
      subst (λ n. bit_at a.bits n ≡ bit_at b.bits n) number (at (Link (dir_at i)) tt)
  | inr core ↦
      let number : out_number (Core (i - 6)) ≡ i = omega (arith, core) in
      let valid : i - 6 < 18 = omega (arith, core, below) in
      subst (λ n. bit_at a.bits n ≡ bit_at b.bits n) number (at (Core (i - 6)) valid)
]
  where
    at : (o : Out) → IsOutput o → bit_at a.bits (out_number o) ≡ bit_at b.bits (out_number o)
    at o valid = same_bit (bit_at a.bits (out_number o)) (bit_at b.bits (out_number o)) (bit_at-lt a.bits (out_number o)) (bit_at-lt b.bits (out_number o)) (alike o valid)

-- a route is its outputs
pub same_outputs : (a b : Route) → ((o : Out) → IsOutput o → has a o ≡ has b o) → a ≡ b
same_outputs a b alike = same_route a b (same_from_bits_below 24 a.bits b.bits a.within b.within (same_bit_at a b alike))

-- a route with an output is not 0
not_zero : (r : Route) (o : Out) → has r o ≡ true → 0 < r.bits
not_zero r o hit = grind (arith, cases_eq r.bits 0, bit_at-zero (out_number o), false≢true)

-- ---- original blocks

-- packets of a net come in at a chip at one port
pub one_port : (m : Description) (root : Chip) (edges : List Edge) (targets : List Spot) → IsRoutingTree m root edges targets → (c : Chip) (p q : Port) →
    ComesIn m root edges c p → ComesIn m root edges c q → p ≡ q
one_port m root edges targets tree c p q (inl a) (inl b) = a.1 ∙ sym b.1
one_port m root edges targets tree c p q (inl a) (inr b) = grind (arith, All-contains)
one_port m root edges targets tree c p q (inr a) (inl b) = grind (arith, All-contains)
one_port m root edges targets tree c p q (inr a) (inr b) =
    let same : a.0 ≡ b.0 = one_edge_into m root edges (map (λ (s : Spot). s.chip) targets) tree a.0 b.0 c a.1 b.1 a.2 b.2 in
    a.3 ∙ (ap (λ (e : Edge). ByLink (opposite_of e.dir)) same ∙ sym b.3)

same_original : (o p : Original) → o.block ≡ p.block → o.port ≡ p.port → o.route ≡ p.route → o ≡ p
same_original o p blocks ports routes = grind arith

one_original : (m : Description) (net : NetPlan) (c : Chip) → IsRoutingTree m net.tree.root net.tree.edges net.targets → (o p : Original) →
    IsOriginalOf m net c o → IsOriginalOf m net c p → o ≡ p
one_original m net c tree o p a b = grind (arith, one_port m net.tree.root net.tree.edges net.targets tree c o.port p.port a.port b.port, same_original, same_outputs)

abbrev Routing : Description → NetPlan → Type 0
Routing m net = IsRoutingTree m net.tree.root net.tree.edges net.targets

one_list : (m : Description) (c : Chip) (nets : List NetPlan) → All (Routing m) nets → (os ps : List Original) → AreOriginals m c nets os → AreOriginals m c nets ps → os ≡ ps
one_list m c [] trees os ps a b = a ∙ sym b
one_list m c (n ∷ nets) trees os ps (inl x) (inl y) =
    x.4
    ∙ (ap (λ (o : Original). o ∷ x.3) (one_original m n c (All-head (Routing m) n nets trees) x.1 y.1 x.2 y.2)
    ∙ (ap (λ (l : List Original). y.1 ∷ l) (one_list m c nets (All-tail (Routing m) n nets trees) x.3 y.3 x.5 y.5)
    ∙ sym y.4))
one_list m c (n ∷ nets) trees os ps (inl x) (inr y) = absurd (y.0 x.0)
one_list m c (n ∷ nets) trees os ps (inr x) (inl y) = absurd (x.0 y.0)
one_list m c (n ∷ nets) trees os ps (inr x) (inr y) = one_list m c nets (All-tail (Routing m) n nets trees) os ps x.1 y.1

-- ---- rows in order

-- the number that orders the rows of a plain table
abbrev number : Row → ℕ
number r = generality r.block * 4294967296 + r.block.key

-- rows of equal generality and key meet at that key
meet : (r s : Row) → r.block.key ≡ s.block.key → Intersects r.block s.block
meet r s keys = grind (arith, key_small r.block, bit_and)

rises : (r s : Row) → IsRowNotAfter r s → ¬ (Intersects r.block s.block) → number r < number s
rises r s (inl less) apart = grind (arith, key_small r.block)
rises r s (inr same) apart = grind (arith, cases_eq r.block.key s.block.key, meet)

module _ (m : Description) (nets : List NetPlan) (routed : AreRoutedApart m nets) (c : Chip) where
  rows_apart : (os : List Original) (rows : List Row) → AreOriginals m c nets os → IsPermutation (map row_of os) rows →
      AllPairs (λ (r s : Row). ¬ (Intersects r.block s.block)) rows
  rows_apart os rows are moved =
      AllPairs-permutation (λ (r s : Row). ¬ (Intersects r.block s.block)) (λ r s none met. none (Intersects-sym s.block r.block met)) (map row_of os) rows moved
      (AllPairs-map row_of (λ (a b : Original). ¬ (Intersects a.block b.block)) (λ (r s : Row). ¬ (Intersects r.block s.block)) (λ a b none. none) os
      (originals_apart m c nets os are routed.apart))

  rows_rise : (rows : List Row) → IsPlainTable m nets c rows → AllPairs (λ r s. number r < number s) rows
  rows_rise rows is i j d less below = rises (get_or _ i d) (get_or _ j d) (is.in_order i j d less below) (rows_apart is.originals _ is.originals_are is.one_row_each i j d less below)

  carried : (os : List Original) (xs ys : List Row) → IsPermutation (map row_of os) xs → IsPermutation (map row_of os) ys → (r : Row) → Contains xs r → Contains ys r
  carried os xs ys a b r mine = Contains-permutation _ _ _ b (Contains-permutation _ _ _ (IsPermutation-sym _ _ a) mine)

  -- the nets have one plain table at the chip
  pub one_table : (xs ys : List Row) → IsPlainTable m nets c xs → IsPlainTable m nets c ys → xs ≡ ys
  one_table xs ys a b =
      let same : a.originals ≡ b.originals = one_list m c nets routed.trees a.originals b.originals a.originals_are b.originals_are in
      let of_x : IsPermutation (map row_of b.originals) xs = subst (λ (os : List Original). IsPermutation (map row_of os) xs) same a.one_row_each in
      same_in_order number xs ys (rows_rise xs a) (rows_rise ys b) (carried b.originals xs ys of_x b.one_row_each) (carried b.originals ys xs b.one_row_each of_x)

  -- ---- outputs

  -- a chip of a tree has an edge out of it, or is a target's
  some_out : (net : NetPlan) → Routing m net → HasChip m net c → (o : Out) × IsOutput o × (is_wanted net.tree.edges net.targets c o ≡ true)
  some_out net tree on = elim (tree.ends_are_targets c on) [
    | inl any ↦
        let e : Edge = any.1 in
        (Link e.dir, tt, subst (λ (k : Chip). is_wanted net.tree.edges net.targets k (Link e.dir) ≡ true) any.4 (edge_wanted net.tree.edges net.targets e (any.0, any.2, any.3)))
    | inr there ↦
        let target = Contains-unmap (λ (s : Spot). s.chip) net.targets c there in
        let s : Spot = target.0 in
        (out_of s.core, out_of-has_bit s.core, subst (λ (k : Chip). is_wanted net.tree.edges net.targets k (out_of s.core) ≡ true) target.2 (end_wanted net.tree.edges net.targets s target.1))
  ]

  -- so each original block has an output
  some_output : (net : NetPlan) → Routing m net → (o : Original) → IsOriginalOf m net c o → 0 < o.route.bits
  some_output net tree o is =
      let out = some_out net tree (comes_in_tree m net.tree.root net.tree.edges c o.port is.port) in
      not_zero o.route out.0 (is.outputs out.0 out.1 ∙ out.2)

  -- and each row of the plain table
  pub rows_lead : (rows : List Row) → IsPlainTable m nets c rows → All (λ (r : Row). 0 < r.route.bits) rows
  rows_lead rows is = All-each (λ (r : Row). 0 < r.route.bits) rows (λ r mine.
      let back : Contains (map row_of is.originals) r = Contains-permutation rows (map row_of is.originals) r (IsPermutation-sym (map row_of is.originals) rows is.one_row_each) mine in
      let from = Contains-unmap row_of is.originals r back in
      let o : Original = from.0 in
      let net = from_net m c nets is.originals is.originals_are o from.1 in
      let d : NetPlan = (slice_get_there nets net.0 net.1).0 in
      subst (λ (x : Row). 0 < x.route.bits) from.2 (some_output (get_or nets net.0 d) (routed.trees net.0 d net.1) o (net.2 d)))
