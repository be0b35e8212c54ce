-- Nets that are routed have one verdict on an image.
use Rattle.spin_checks.proofs.Common.{All, All-at, AreFineBefore, Block, Chip, Description, Entry, GetsRoute, GetsRouteThat, Image, IsFine, IsFineAll, IsFirstToMeet, IsInside, IsRouted, IsSplitAt}
use Rattle.spin_checks.proofs.Common.{IsTreeRoute, IsVerdict, IsWrong, LiesInside, List, Meets, NetPlan, Port, Right, Route, Some, Split, Verdict, Wrong, ap, arith, cases_order, chips_inside}
use Rattle.spin_checks.proofs.Common.{index_of, inl, inr, one_item_at, one_port, refl, rows_for, same_index, slice_get, subst, sym, ℕ, ◌∙◌, ◌≡◌}

-- ---- a block in rows

module _ (b : Block) (rows : List Entry) where
  -- one row is the first to meet a block
  one_first : (p q : ℕ) (e f : Entry) → IsFirstToMeet b rows p e → IsFirstToMeet b rows q f → (p ≡ q) × (e ≡ f)
  one_first p q e f x y = elim (cases_order p q) [
    | inl same ↦ (same, one_item_at rows p q e f same x.there y.there)
    | inr (inl less) ↦ absurd (y.first p e less x.there x.meets)
    | inr (inr more) ↦ absurd (x.first q f more y.there y.meets)
  ]

  -- its keys get one route
  one_route : (port : Port) (r s : Route) → GetsRoute b rows port r → GetsRoute b rows port s → r ≡ s
  one_route port r s (inl x) (inl y) = x.4 ∙ (ap (λ (e : Entry). e.route) (one_first x.0 y.0 x.1 y.1 x.2 y.2).1 ∙ sym y.4)
  one_route port r s (inl x) (inr y) = absurd (All-at (λ e. Meets b e → ⊥) rows x.0 x.1 y.0 x.2.there x.2.meets)
  one_route port r s (inr x) (inl y) = absurd (All-at (λ e. Meets b e → ⊥) rows y.0 y.1 x.0 y.2.there y.2.meets)
  one_route port r s (inr x) (inr y) = x.1 ∙ sym y.1

  -- or they are split
  not_split : (port : Port) (r : Route) (place : ℕ) → GetsRoute b rows port r → IsSplitAt b rows place → ⊥
  not_split port r place (inl x) split = split.2 (subst (LiesInside b) (one_first x.0 place x.1 split.0 x.2 split.1).1 x.3)
  not_split port r place (inr x) split = All-at (λ e. Meets b e → ⊥) rows place split.0 x.0 split.1.there split.1.meets

module _ (m : Description) (v : Image) where
  -- ---- a net at a chip

  module _ (net : NetPlan) (c : Chip) where
    not_wrong : IsRouted m net → IsFine m v net c → IsWrong m v net c → ⊥
    not_wrong routed fine wrong =
        let ports : fine.port ≡ wrong.port = one_port m net.tree.root net.tree.edges net.targets routed.tree c fine.port wrong.port fine.comes_in wrong.comes_in in
        let gets = subst (λ p. GetsRoute net.block (rows_for m v c) p fine.route) ports fine.gets in
        wrong.is (subst (IsTreeRoute net c) (one_route net.block (rows_for m v c) wrong.port fine.route wrong.route gets wrong.gets) fine.is)

    never_split : (Is : Route → Type 0) (row : ℕ) → GetsRouteThat m v net c Is → IsSplitAt net.block (rows_for m v c) row → ⊥
    never_split Is row gets split = not_split net.block (rows_for m v c) gets.port gets.route row gets.gets split

  -- ---- the first net and chip that are not fine

  module _ (nets : List NetPlan) (routed : All (IsRouted m) nets) where
    on_grid : (i : ℕ) (n : NetPlan) (c : Chip) → AreFineBefore m v nets i n c → IsInside m c
    on_grid i n c is =
        let of = All-at (IsRouted m) nets i n routed is.there in
        chips_inside m n.tree.root n.tree.edges n.targets of.tree of.root c is.on_tree

    -- one chip of a net
    same_chip_of : (i : ℕ) (n : NetPlan) (c d : Chip) → AreFineBefore m v nets i n c → (IsFine m v n c → ⊥) → AreFineBefore m v nets i n d → (IsFine m v n d → ⊥) → c ≡ d
    same_chip_of i n c d x bad y also = grind (arith, cases_order (index_of m c) (index_of m d), on_grid i n c x, on_grid i n d y, same_index)

    same_pair : (i j : ℕ) (n o : NetPlan) (c d : Chip) → AreFineBefore m v nets i n c → (IsFine m v n c → ⊥) → AreFineBefore m v nets j o d → (IsFine m v o d → ⊥) →
        (i ≡ j) × (n ≡ o) × (c ≡ d)
    same_pair i j n o c d x bad y also = grind (arith, cases_order i j, one_item_at, same_chip_of)

    -- ---- verdicts

    right_not_flawed : (i : ℕ) (n : NetPlan) (c : Chip) → All (IsFineAll m v) nets → AreFineBefore m v nets i n c → (IsFine m v n c → ⊥) → ⊥
    right_not_flawed i n c fine x bad = bad (All-at (IsFineAll m v) nets i n fine x.there c x.on_tree)

    wrong_is_bad : (i : ℕ) (n : NetPlan) (c : Chip) → AreFineBefore m v nets i n c → IsWrong m v n c → IsFine m v n c → ⊥
    wrong_is_bad i n c x wrong fine = not_wrong n c (All-at (IsRouted m) nets i n routed x.there) fine wrong

    split_is_bad : (n : NetPlan) (c : Chip) (row : ℕ) → IsSplitAt n.block (rows_for m v c) row → IsFine m v n c → ⊥
    split_is_bad n c row split fine = never_split n c (IsTreeRoute n c) row fine split

    wrong_not_split : (i j : ℕ) (c d : Chip) (key row : ℕ) → IsVerdict m nets v (Wrong i c key) → IsVerdict m nets v (Split j d row) → ⊥
    wrong_not_split i j c d key row x y =
        let same = same_pair i j x.0 y.0 c d x.1 (wrong_is_bad i x.0 c x.1 x.2) y.1 (split_is_bad y.0 d row y.2) in
        let wrong : IsWrong m v y.0 d = subst (λ e. IsWrong m v y.0 e) same.2 (subst (λ p. IsWrong m v p c) same.1 x.2) in
        never_split y.0 d (λ r. IsTreeRoute y.0 d r → ⊥) row wrong y.2

    pub one_verdict : (a b : Verdict) → IsVerdict m nets v a → IsVerdict m nets v b → a ≡ b
    one_verdict Right Right x y = refl
    one_verdict Right (Wrong j d key) x y = absurd (right_not_flawed j y.0 d x y.1 (wrong_is_bad j y.0 d y.1 y.2))
    one_verdict Right (Split j d row) x y = absurd (right_not_flawed j y.0 d x y.1 (split_is_bad y.0 d row y.2))
    one_verdict (Wrong i c key) Right x y = absurd (right_not_flawed i x.0 c y x.1 (wrong_is_bad i x.0 c x.1 x.2))
    one_verdict (Wrong i c key) (Wrong j d word) x y =
        grind (arith, same_pair i j x.0 y.0 c d x.1 (wrong_is_bad i x.0 c x.1 x.2) y.1 (wrong_is_bad j y.0 d y.1 y.2), wrong_is_bad i x.0 c x.1 x.2, wrong_is_bad j y.0 d y.1 y.2)
    one_verdict (Wrong i c key) (Split j d row) x y = absurd (wrong_not_split i j c d key row x y)
    one_verdict (Split i c row) Right x y = absurd (right_not_flawed i x.0 c y x.1 (split_is_bad x.0 c row x.2))
    one_verdict (Split i c row) (Wrong j d key) x y = absurd (wrong_not_split j i d c key row y x)
    one_verdict (Split i c row) (Split j d line) x y =
        let same = same_pair i j x.0 y.0 c d x.1 (split_is_bad x.0 c row x.2) y.1 (split_is_bad y.0 d line y.2) in
        let blocks : x.0.block ≡ y.0.block = ap (λ (p : NetPlan). p.block) same.1 in
        let there : IsSplitAt y.0.block (rows_for m v d) row =
        subst (λ e. IsSplitAt y.0.block (rows_for m v e) row) same.2 (subst (λ b. IsSplitAt b (rows_for m v c) row) blocks x.2) in
        let rows : row ≡ line = (one_first y.0.block (rows_for m v d) row line there.0 y.2.0 there.1 y.2.1).0 in
        λ k. Split (same.0 k) (same.2 k) (rows k)

-- the net that a wrong verdict names is the same for each list of memories
pub wrong_named : (m : Description) (v : Image) (nets : List NetPlan) (verdict : Verdict) (i : ℕ) (c : Chip) (key : ℕ)
    (Is : List (List Entry) → NetPlan → Type 0) (Loaded : List (List Entry) → Type 0) →
    IsVerdict m nets v verdict → verdict ≡ Wrong i c key →
    ((memories : List (List Entry)) → Loaded memories → (net : NetPlan) × (slice_get nets i ≡ Some net) × Is memories net) →
    (net : NetPlan) × (slice_get nets i ≡ Some net) × ((memories : List (List Entry)) → Loaded memories → Is memories net)
wrong_named m v nets verdict i c key Is Loaded told is each =
    let known : IsVerdict m nets v (Wrong i c key) = subst (IsVerdict m nets v) is told in
    (known.0, known.1.there, λ memories loaded. let of = each memories loaded in subst (Is memories) (one_item_at nets i i of.0 known.0 refl of.1 known.1.there) of.2)
