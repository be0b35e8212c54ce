-- A net has one list of targets, one of target chips, and one plan, where spots are sites.
use Rattle.net_plans.proofs.Common.{All, All-at, ArePlanned, AreTargetChips, AreTargets, Block, Chip, Contains, Description, Grown, IsBelow, IsGrown, IsInside, IsPlannedNet, IsRepaired, IsSite, List}
use Rattle.net_plans.proofs.Common.{Net, NetPlan, Some, Spot, [], ap, chip_key, ext_get_or, get_or, joined_chips, length, one_tree, refl, same_list, slice_get, slice_get-get_or, slice_get_there}
use Rattle.net_plans.proofs.Common.{slice_get_within, spot_key, subst, sym, ℕ, ◌<◌, ◌∙◌, ◌∷◌, ◌≡◌}
use Rattle.net_plans.proofs.{Ordering.not_both, Planning.all_inside, Repairs.one_repair}

pub one_targets : (spots : List Spot) (vertices : List ℕ) (xs ys : List Spot) → AreTargets spots vertices xs → AreTargets spots vertices ys → xs ≡ ys
one_targets spots vertices xs ys a b =
    same_list (λ s t. IsBelow (spot_key s) (spot_key t)) (λ s t. not_both (spot_key s) (spot_key t)) xs ys a.ascending b.ascending
    (λ s has. let from = a.only s has in b.each from.0 s from.1 from.2) (λ s has. let from = b.only s has in a.each from.0 s from.1 from.2)

pub one_target_chips : (m : Description) (root : Chip) (targets : List Spot) (xs ys : List Chip) → AreTargetChips m root targets xs → AreTargetChips m root targets ys → xs ≡ ys
one_target_chips m root targets xs ys a b =
    same_list (λ c d. IsBelow (chip_key m root c) (chip_key m root d)) (λ c d. not_both (chip_key m root c) (chip_key m root d)) xs ys a.ascending b.ascending
    (λ c has. let from = a.only c has in subst (Contains ys) from.2 (b.each from.0 from.1)) (λ c has. let from = b.only c has in subst (Contains xs) from.2 (a.each from.0 from.1))

pub same_source : (spots : List Spot) (i : ℕ) (s t : Spot) → slice_get spots i ≡ Some s → slice_get spots i ≡ Some t → s ≡ t
same_source spots i s t at also = cc

same_plan : (p q : NetPlan) → p.block ≡ q.block → p.source ≡ q.source → p.targets ≡ q.targets → p.tree.root ≡ q.tree.root → p.tree.edges ≡ q.tree.edges → p ≡ q
same_plan p q block source targets root edges = λ i. record { block = block i; source = source i; targets = targets i; tree = record { root = root i; edges = edges i } }

-- two lists as long as each other that have the same item at each place are the same
pub same_places : {X : Type 0} (xs ys : List X) → length xs ≡ length ys → ((i : ℕ) (x y : X) → slice_get xs i ≡ Some x → slice_get ys i ≡ Some y → x ≡ y) → xs ≡ ys
same_places [] [] long each = refl
same_places [] (y ∷ ys) long each = cc
same_places (x ∷ xs) [] long each = cc
same_places (x ∷ xs) (y ∷ ys) long each =
    ext_get_or x (x ∷ xs) (y ∷ ys) long (λ i less.
    let also : i < length (y ∷ ys) = subst (λ n. i < n) long less in
    each i (get_or (x ∷ xs) i x) (get_or (y ∷ ys) i x) (slice_get-get_or (x ∷ xs) i x less) (slice_get-get_or (y ∷ ys) i x also))

module _ (m : Description) (spots : List Spot) (sites : All (IsSite m) spots) where
  pub one_plan : (net : Net) (block : Block) (p q : NetPlan) → IsPlannedNet m spots net block p → IsPlannedNet m spots net block q → p ≡ q
  one_plan net block p q a b =
      let g : Grown = a.growth in
      let h : Grown = b.growth in
      let source : p.source ≡ q.source = same_source spots net.source p.source q.source a.source b.source in
      let targets : p.targets ≡ q.targets = one_targets spots net.targets p.targets q.targets a.targets b.targets in
      let chips : joined_chips g ≡ joined_chips h =
      one_target_chips m q.source.chip q.targets (joined_chips g) (joined_chips h)
      (subst (λ (s : Spot). AreTargetChips m s.chip q.targets (joined_chips g)) source (subst (λ ts. AreTargetChips m p.source.chip ts (joined_chips g)) targets a.chips)) b.chips in
      let inside : IsInside m q.source.chip = All-at (λ (s : Spot). IsInside m s.chip) spots net.source q.source (all_inside m spots sites) b.source in
      let grown : IsGrown m q.source.chip (joined_chips h) g.joins g.tree.edges =
      subst (λ (s : Spot). IsGrown m s.chip (joined_chips h) g.joins g.tree.edges) source (subst (λ cs. IsGrown m p.source.chip cs g.joins g.tree.edges) chips a.grown) in
      let edges : g.tree.edges ≡ h.tree.edges = (one_tree m q.source.chip (joined_chips h) g.joins h.joins g.tree.edges h.tree.edges inside grown b.grown).1 in
      let repaired : IsRepaired m q.source.chip h.tree.edges (joined_chips h) p.tree.edges =
      subst (λ (s : Spot). IsRepaired m s.chip h.tree.edges (joined_chips h) p.tree.edges) source
      (subst (λ cs. IsRepaired m p.source.chip h.tree.edges cs p.tree.edges) chips (subst (λ es. IsRepaired m p.source.chip es (joined_chips g) p.tree.edges) edges a.repaired)) in
      let root : p.source.chip ≡ q.source.chip = ap (λ (s : Spot). s.chip) source in
      same_plan p q (a.block ∙ sym b.block) source targets (a.root ∙ (root ∙ sym b.root))
      (one_repair m q.source.chip h.tree.edges (joined_chips h) p.tree.edges q.tree.edges repaired b.repaired)

  pub one_list_of_plans : (nets : List Net) (blocks : List Block) → length blocks ≡ length nets → (ps qs : List NetPlan) →
      ArePlanned m spots nets blocks ps → ArePlanned m spots nets blocks qs → ps ≡ qs
  one_list_of_plans nets blocks long ps qs a b =
      same_places ps qs (a.one_plan_each ∙ sym b.one_plan_each) (λ i p q p_at q_at.
      let below : i < length nets = subst (λ n. i < n) a.one_plan_each (slice_get_within ps i p p_at) in
      let net = slice_get_there nets i below in
      let block = slice_get_there blocks i (subst (λ n. i < n) (sym long) below) in
      one_plan net.0 block.0 p q (a.each i net.0 block.0 p net.1 block.1 p_at) (b.each i net.0 block.0 q net.1 block.1 q_at))
