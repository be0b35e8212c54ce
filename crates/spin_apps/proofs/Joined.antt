-- Where a net has a plan, live links lead to each of its targets.
use Rattle.spin_apps.proofs.Common.{All, All-append, All-cons, All-contains, All-each, All-nil, Block, Chip, Contains, Contains-cases, Contains-none, Description, Edge, HasNoneCutOff, IsDetour}
use Rattle.spin_apps.proofs.Common.{IsKeptEdge, IsLiveWalk, IsPlannedNet, IsRepaired, IsTreeChip, IsTreeLevel, IsWalkTo, Joins, LeadsTo, List, LiveEdgeStep, Net, NetPlan, Some, Spot, Steps, []}
use Rattle.spin_apps.proofs.Common.{end_of, inl, inr, joined_chips, last_of, refl, same_Some, same_source, subst, suc, sym, tree_cases, zero, ℕ, ◌++◌, ◌∙◌, ◌∷◌, ◌≡◌}

module _ (m : Description) (root : Chip) where
  -- a walk of live links leads from the root to the chip
  abbrev IsJoined : Chip → Type 0
  IsJoined c = (walk : List Chip) × IsWalkTo m root c walk

  longer : (b c : Chip) → LeadsTo m b c → (from : Chip) (walk : List Chip) → IsLiveWalk m (from ∷ walk) → last_of from walk ≡ b → IsWalkTo m from c (walk ++ c ∷ [])
  longer b c leads from [] lives is = ((subst (λ (x : Chip). LeadsTo m x c) (sym is) leads, tt), refl)
  longer b c leads from (x ∷ walk) lives is = let rest = longer b c leads x walk lives.1 is in ((lives.0, rest.0), rest.1)

  one_link_on : (b c : Chip) → IsJoined b → LeadsTo m b c → IsJoined c
  one_link_on b c joined leads = (joined.0 ++ c ∷ [], longer b c leads root joined.0 joined.1.0 joined.1.1)

  links_on : (n : ℕ) (b c : Chip) → IsJoined b → Steps (LeadsTo m) n b c → IsJoined c
  links_on zero b c joined steps = subst IsJoined steps joined
  links_on (suc n) b c joined steps = one_link_on steps.0 c (links_on n b steps.0 joined steps.1) steps.2

  edges_on : (edges : List Edge) (n : ℕ) (c : Chip) → Steps (LiveEdgeStep m edges) n root c → IsJoined c
  edges_on edges zero c steps = ([], (tt, steps))
  edges_on edges (suc n) c steps = let step = steps.2 in one_link_on steps.0 c (edges_on edges n steps.0 steps.1) (step.0, step.2, step.3)

  -- each edge leads to a chip that is joined
  abbrev EndJoined : Edge → Type 0
  EndJoined e = (c : Chip) → end_of m e ≡ Some c → IsJoined c

  tree_joined : (tree : List Edge) → All EndJoined tree → (c : Chip) → IsTreeChip m root tree c → IsJoined c
  tree_joined tree ends c on = elim (tree_cases m root tree c on) [
    | inl at ↦ ([], (tt, sym at))
    | inr into ↦ All-contains EndJoined tree into.0 ends into.1 c into.2
  ]

  level_joined : (tree : List Edge) → All EndJoined tree → (c : Chip) (n : ℕ) → IsTreeLevel m root tree c n → IsJoined c
  level_joined tree ends c n level = let by = level.reached in links_on n by.0 c (tree_joined tree ends by.0 by.1) by.2

  -- what is kept of a tree is joined
  kept_joined : (edges : List Edge) (e : Edge) → IsKeptEdge m root edges e → EndJoined e
  kept_joined edges e kept c leads = one_link_on e.chip c (edges_on edges kept.2.0 e.chip kept.2.1) (e.dir, kept.1, leads)

  -- so is a detour, and the target to which it leads
  detour_joined : (tree : List Edge) → All EndJoined tree → (walk : List Edge) (c : Chip) → IsDetour m root tree c walk → All EndJoined walk × IsJoined c
  detour_joined tree ends [] c on = (All-nil EndJoined, tree_joined tree ends c on)
  detour_joined tree ends (e ∷ walk) c detour =
      let link = detour.0 in
      let here : IsJoined c = level_joined tree ends c (suc link.level) link.here in
      let rest = detour_joined tree ends walk e.chip detour.1 in
      (All-cons EndJoined e walk (λ d leads. subst IsJoined (same_Some c d (sym link.leads ∙ leads)) here) rest.0, here)

  targets_joined : (targets : List Chip) (tree whole : List Edge) → All EndJoined tree → Joins m root tree targets whole → (t : Chip) → Contains targets t → IsJoined t
  targets_joined [] tree whole ends joins t has = absurd (Contains-none t has)
  targets_joined (target ∷ targets) tree whole ends joins t has =
      let detour = detour_joined tree ends joins.0 target joins.1 in
      elim (Contains-cases target targets t has) [
        | inl same ↦ subst IsJoined same detour.1
        | inr later ↦ targets_joined targets (tree ++ joins.0) whole (All-append EndJoined tree joins.0 ends detour.0) joins.2 t later
      ]

  repaired_joined : (edges : List Edge) (targets : List Chip) (result : List Edge) → IsRepaired m root edges targets result → (t : Chip) → Contains targets t → IsJoined t
  repaired_joined edges targets result is =
      targets_joined targets is.kept is.whole (All-each EndJoined is.kept (λ e has. kept_joined edges e ((is.kept_is e).0 has))) is.joined

-- so none of them is cut off
pub planned_joined : (m : Description) (spots : List Spot) (net : Net) (block : Block) (p : NetPlan) → IsPlannedNet m spots net block p → HasNoneCutOff m spots net
planned_joined m spots net block p planned source chip cut =
    let chips : List Chip = joined_chips planned.growth in
    let same : p.source ≡ source = same_source spots net.source p.source source planned.source cut.from in
    let has : Contains chips chip = subst (Contains chips) cut.on (planned.chips.each cut.spot (planned.targets.each cut.vertex cut.spot cut.is_target cut.at)) in
    let joined = repaired_joined m p.source.chip planned.growth.tree.edges chips p.tree.edges planned.repaired chip has in
    cut.cut_off joined.0 (subst (λ (s : Spot). IsWalkTo m s.chip chip joined.0) same joined.1)
