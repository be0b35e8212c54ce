-- Where a net has a plan, none of its targets is cut off; and at most one net and target are the first that are.
use Rattle.net_plans.proofs.Common.{All, All-at, All-contains, AreTargetChips, AreTargets, Chip, Contains, Contains-at, Contains-map, Description, Edge, Err, HasNoneCutOff, IfErr, IfOk, IsBelow}
use Rattle.net_plans.proofs.Common.{IsCauseOne, IsCutOffIn, IsFirstCutOffIn, IsFirstNetCutOff, IsFirstOfList, IsLiveLink, IsNetCause, IsPath, IsRefusedBy, IsRepairCause, IsRoutingTree, IsTreeChip}
use Rattle.net_plans.proofs.Common.{IsWalkTo, List, Net, NetErr, Ok, RepairErr, Result, Some, Spot, [], ap, arith, cases_order, chip_key, far_of, get_or_from_slice_get, inl, inr, length, map, refl}
use Rattle.net_plans.proofs.Common.{slice_get, slice_get-get_or, slice_index_or, subst, sym, ℕ, ◌<◌, ◌∙◌, ◌∷◌, ◌≡◌}
use Rattle.link_detours.specs.declared.repairs.RepairErr.TheVariants as repairs
use Rattle.net_plans.specs.declared.nets.NetErr.TheVariants as nets
use Rattle.net_plans.proofs.{Determined.same_source, Ordering.same_from_neither, Ordering.not_both}

-- a path of live edges is a walk of live links
path_walk : (m : Description) (edges : List Edge) → All (λ (e : Edge). IsLiveLink m e.chip e.dir) edges → (path : List Edge) (from to : Chip) → IsPath m edges from path to →
    (walk : List Chip) × IsWalkTo m from to walk
path_walk m edges live [] from to same = ([], (tt, same))
path_walk m edges live (e ∷ path) from to (has, begins, (c, ends, rest)) =
    let further = path_walk m edges live path c to rest in
    let link : IsLiveLink m from e.dir = subst (λ (x : Chip). IsLiveLink m x e.dir) begins (All-contains (λ (e : Edge). IsLiveLink m e.chip e.dir) edges e live has) in
    let far : far_of m from e.dir ≡ Some c = subst (λ (x : Chip). far_of m x e.dir ≡ Some c) begins ends in
    (c ∷ further.0, (((e.dir, link, far), further.1.0), further.1.1))

module _ (m : Description) (spots : List Spot) (net : Net) where
  -- where a tree over live links leads to all targets of a net, none of them is cut off
  pub none_cut_off : (source : Spot) (targets : List Spot) (edges : List Edge) → slice_get spots net.source ≡ Some source → AreTargets spots net.targets targets →
      IsRoutingTree m source.chip edges targets → HasNoneCutOff m spots net
  none_cut_off source targets edges at are tree = λ other chip cut.
      let same : source ≡ other = same_source spots net.source source other at cut.from in
      let mine : Contains targets cut.spot = are.each cut.vertex cut.spot cut.is_target cut.at in
      let listed : Contains (map (λ (s : Spot). s.chip) targets) cut.spot.chip = Contains-map (λ (s : Spot). s.chip) targets cut.spot mine in
      let in_tree : IsTreeChip m source.chip edges chip =
      subst (IsTreeChip m source.chip edges) cut.on (All-contains (IsTreeChip m source.chip edges) (map (λ (s : Spot). s.chip) targets) cut.spot.chip tree.has_targets listed)
      in
      let path = tree.reached chip in_tree in
      let walk = path_walk m edges tree.edges_live path.0 source.chip chip path.1 in
      cut.cut_off walk.0 (subst (λ (s : Spot). IsWalkTo m s.chip chip walk.0) same walk.1)

  -- the first target chip of the list that is cut off is the first of the net
  pub first_cut_off : (source : Spot) (targets : List Spot) (chips : List Chip) (chip : Chip) → slice_get spots net.source ≡ Some source → AreTargets spots net.targets targets →
      AreTargetChips m source.chip targets chips → IsFirstOfList m source.chip chips chip → IsFirstCutOffIn m spots net chip
  first_cut_off source targets chips chip at are are_chips found =
      let target = are_chips.only chip (Contains-at chips found.place chip found.at_place) in
      let vertex = are.only target.0 target.1 in
      record {
        source = source;
        is = record { from = at; vertex = vertex.0; is_target = vertex.1; spot = target.0; at = vertex.2; on = target.2; cut_off = found.cut_off };
        first = λ other cut below.
            let listed : Contains chips other = subst (Contains chips) cut.on (are_chips.each cut.spot (are.each cut.vertex cut.spot cut.is_target cut.at)) in
            by_place other cut below listed.0 listed.1 listed.2;
      }
    where
      by_place : (other : Chip) → IsCutOffIn m spots net source other → IsBelow (chip_key m source.chip other) (chip_key m source.chip chip) → (j : ℕ) → j < length chips → slice_index_or chips j other ≡ other → ⊥
      by_place other cut below j within is = elim (cases_order j found.place) [
        | inl same ↦
            let there : slice_get chips j ≡ Some other = slice_get-get_or chips j other within ∙ ap Some is in
            let here : slice_get chips j ≡ Some chip = subst (λ k. slice_get chips k ≡ Some chip) (sym same) found.at_place in
            let one : other ≡ chip = cc in
            not_both (chip_key m source.chip chip) (chip_key m source.chip chip)
            (subst (λ c. IsBelow (chip_key m source.chip c) (chip_key m source.chip chip)) one below)
            (subst (λ c. IsBelow (chip_key m source.chip c) (chip_key m source.chip chip)) one below)
        | inr (inl before) ↦
            let there : slice_get chips j ≡ Some other = slice_get-get_or chips j other within ∙ ap Some is in
            let walk = found.others_joined j other before there in
            cut.cut_off walk.0 walk.1
        | inr (inr after) ↦
            let first : slice_index_or chips found.place other ≡ chip = get_or_from_slice_get chips found.place chip other found.at_place in
            let above = are_chips.ascending found.place j other after within in
            not_both (chip_key m source.chip other) (chip_key m source.chip chip) below
            (subst (λ c. IsBelow (chip_key m source.chip chip) (chip_key m source.chip c)) is
            (subst (λ c. IsBelow (chip_key m source.chip c) (chip_key m source.chip (slice_index_or chips j other))) first above))
      ]

  -- why repairing is refused is why the net has no plan
  pub cause_one : (source : Spot) (targets : List Spot) (chips : List Chip) → slice_get spots net.source ≡ Some source → AreTargets spots net.targets targets →
      AreTargetChips m source.chip targets chips → (e : RepairErr) → IsRepairCause m source.chip chips e → IsCauseOne m spots net e
  cause_one source targets chips at are are_chips (repairs.CutOff chip) found = first_cut_off source targets chips chip at are are_chips found
  cause_one source targets chips at are are_chips repairs.Memory found = tt

  pub one_first_target : (a b : Chip) → IsFirstCutOffIn m spots net a → IsFirstCutOffIn m spots net b → a ≡ b
  one_first_target a b first_a first_b =
      let same : first_b.source ≡ first_a.source = same_source spots net.source first_b.source first_a.source first_b.is.from first_a.is.from in
      let is_b : IsCutOffIn m spots net first_a.source b = subst (λ s. IsCutOffIn m spots net s b) same first_b.is in
      let is_a : IsCutOffIn m spots net first_b.source a = subst (λ s. IsCutOffIn m spots net s a) (sym same) first_a.is in
      let parts = same_from_neither (chip_key m first_a.source.chip a) (chip_key m first_a.source.chip b)
      (subst (λ (s : Spot). IsBelow (chip_key m s.chip a) (chip_key m s.chip b) → ⊥) same (first_b.first a is_a)) (first_a.first b is_b)
      in
      λ i. record { x = parts.1 i; y = parts.2 i }

  -- what a call says of one net decides what it answers where a target is cut off
  pub refused_one : {X : Type 0} (result : Result X RepairErr) → IfOk result (λ _. HasNoneCutOff m spots net) → IfErr result (IsCauseOne m spots net) →
      (target : Chip) → IsFirstCutOffIn m spots net target → IsRefusedBy result (repairs.CutOff target) repairs.Memory
  refused_one (Ok x) none cause target first = absurd (none first.source target first.is)
  refused_one (Err (repairs.CutOff other)) none cause target first = inl (ap (λ c. Err (repairs.CutOff c)) (one_first_target other target cause first))
  refused_one (Err repairs.Memory) none cause target first = inr refl

module _ (m : Description) (spots : List Spot) (ns : List Net) where
  pub one_first_net : (i j : ℕ) (a b : Chip) → IsFirstNetCutOff m spots ns i a → IsFirstNetCutOff m spots ns j b → (i ≡ j) × (a ≡ b)
  one_first_net i j a b first_a first_b = elim (cases_order i j) [
    | inl same ↦
        let there : slice_get ns j ≡ Some first_a.net = subst (λ k. slice_get ns k ≡ Some first_a.net) same first_a.is in
        let net : first_b.net ≡ first_a.net = cc in
        (same, one_first_target m spots first_a.net a b first_a.target (subst (λ n. IsFirstCutOffIn m spots n b) net first_b.target))
    | inr (inl less) ↦ absurd (first_b.before i first_a.net less first_a.is first_a.target.source a first_a.target.is)
    | inr (inr more) ↦ absurd (first_a.before j first_b.net more first_b.is first_b.target.source b first_b.target.is)
  ]

  pub refused_first : {X : Type 0} (result : Result X NetErr) → IfOk result (λ _. All (HasNoneCutOff m spots) ns) → IfErr result (IsNetCause m spots ns) →
      (i : ℕ) (target : Chip) → IsFirstNetCutOff m spots ns i target → IsRefusedBy result (nets.CutOff i target) nets.Memory
  refused_first (Ok x) none cause i target first = absurd (All-at (HasNoneCutOff m spots) ns i first.net none first.is first.target.source target first.target.is)
  refused_first (Err (nets.CutOff j other)) none cause i target first = grind (arith, one_first_net j i other target cause first)
  refused_first (Err nets.Memory) none cause i target first = inr refl
