-- Edges from their other ends, and which of them a search from the targets reaches.
use Rattle.link_detours.proofs.Common.{All, All-contains, Bool, Chip, Contains, Contains-filter, Contains-filter_map, Contains-from_filter, Contains-from_filter_map, Contains-get_or, Description, Dir}
use Rattle.link_detours.proofs.Common.{Edge, EdgeStep, FlaggedStep, IsInside, IsReachedBy, LeadsToTarget, List, Option, Some, Steps, ap, arith, far_back, far_inside, far_of, filter, filter_map}
use Rattle.link_detours.proofs.Common.{get_or, is_flagged, is_marked, opposite_of, opposite_of-opposite, option_map, other_end_of, refl, same_Some, same_edge, subst, sym, true, ℕ, ◌↔◌, ◌∙◌, ◌≡◌}
use Rattle.link_detours.proofs.{Reaching.flagged_edges, Reaching.edges_flagged, Stepping.Steps-turn}

-- a turned edge leads back
pub turned_leads : (m : Description) (e f : Edge) → other_end_of m e ≡ Some f → (far_of m e.chip e.dir ≡ Some f.chip) × (f.dir ≡ opposite_of e.dir)
turned_leads m e f is = grind arith

pub turned_is : (m : Description) (e : Edge) (c : Chip) → far_of m e.chip e.dir ≡ Some c → other_end_of m e ≡ Some (record { chip = c; dir = opposite_of e.dir })
turned_is m e c leads = ap (λ (o : Option Chip). option_map (λ (x : Chip). let g : Edge = record { chip = x; dir = opposite_of e.dir } in g) o) leads

pub turned_back : (m : Description) (e f : Edge) → IsInside m e.chip → other_end_of m e ≡ Some f → other_end_of m f ≡ Some e
turned_back m e f inside is =
    let parts = turned_leads m e f is in
    let back : far_of m f.chip (opposite_of e.dir) ≡ Some e.chip = far_back m e.chip f.chip e.dir inside parts.0 in
    let leads : far_of m f.chip f.dir ≡ Some e.chip = ap (λ (o : Dir). far_of m f.chip o) parts.1 ∙ back in
    turned_is m f e.chip leads ∙ ap Some (same_edge (record { chip = e.chip; dir = opposite_of f.dir }) e refl (ap opposite_of parts.1 ∙ opposite_of-opposite e.dir))

module _ (m : Description) (whole : List Edge) (inside : All (λ e. IsInside m e.chip) whole) where
  pub edge_in : (e : Edge) → Contains whole e → IsInside m e.chip
  edge_in e has = All-contains (λ f. IsInside m f.chip) whole e inside has

  -- the turned edges begin inside the grid
  pub turned_inside : All (λ e. IsInside m e.chip) (filter_map (other_end_of m) whole)
  turned_inside k d h =
      let f : Edge = get_or (filter_map (other_end_of m) whole) k d in
      let from = Contains-from_filter_map (other_end_of m) whole f (Contains-get_or (filter_map (other_end_of m) whole) k d h) in
      let parts = turned_leads m from.0 f from.2 in
      far_inside m from.0.chip f.chip from.0.dir (edge_in from.0 from.1) parts.0

  -- a step by a turned edge is a step by an edge, the other way
  step_turned : (a b : Chip) → EdgeStep m (filter_map (other_end_of m) whole) a b → EdgeStep m whole b a
  step_turned a b step =
      let f : Edge = record { chip = a; dir = step.0 } in
      let from = Contains-from_filter_map (other_end_of m) whole f step.1 in
      let parts = turned_leads m from.0 f from.2 in
      let back = turned_leads m f from.0 (turned_back m from.0 f (edge_in from.0 from.1) from.2) in
      subst (λ (x : Chip). EdgeStep m whole x a) (same_Some from.0.chip b (sym back.0 ∙ step.2)) (from.0.dir, from.1, parts.0)

  turned_step : (a b : Chip) → EdgeStep m whole b a → EdgeStep m (filter_map (other_end_of m) whole) a b
  turned_step a b step =
      let e : Edge = record { chip = b; dir = step.0 } in
      let here = edge_in e step.1 in (
        opposite_of step.0,
        Contains-filter_map (other_end_of m) whole e (record { chip = a; dir = opposite_of step.0 }) step.1 (turned_is m e a step.2),
        far_back m b a step.0 here step.2,
      )

  module _ (table : List Bool) (targets : List Chip) (marks : List Bool)
      (flags : (e : Edge) → IsInside m e.chip → (is_flagged m table e.chip e.dir ≡ true) ↔ Contains (filter_map (other_end_of m) whole) e)
      (reached : (c : Chip) → IsInside m c → (is_marked m marks c ≡ true) ↔ ((n : ℕ) × IsReachedBy (FlaggedStep m table) (Contains targets) n c)) where
    -- a search from the targets marks the chips from which steps lead to one
    marked_leads : (c : Chip) → IsInside m c → (is_marked m marks c ≡ true) ↔ ((t : Chip) × Contains targets t × ((n : ℕ) × Steps (EdgeStep m whole) n c t))
    marked_leads c c_in = (
      λ marked.
          let way = (reached c c_in).0 marked in (
            way.1.0,
            way.1.1,
            (
              way.0,
              Steps-turn (FlaggedStep m table) (EdgeStep m whole) (λ a b step.
                  step_turned a b (flagged_edges m table (filter_map (other_end_of m) whole) flags a b step)) way.0 way.1.0 c way.1.2,
            ),
          ),
      λ leads. (reached c c_in).1 (
        leads.2.0,
        (
          leads.0,
          leads.1,
          Steps-turn (EdgeStep m whole) (FlaggedStep m table) (λ a b step.
              edges_flagged m table (filter_map (other_end_of m) whole) flags turned_inside b a (turned_step b a step)) leads.2.0 c leads.0 leads.2.1,
        ),
      ),
    )

    -- the turned edges that it reaches, turned again, are the edges that lead to a target
    pub left_leads : (e : Edge) → Contains (filter_map (other_end_of m) (filter (λ f. is_marked m marks f.chip) (filter_map (other_end_of m) whole))) e ↔
        (Contains whole e × LeadsToTarget m whole targets e)
    left_leads e = (
      λ has.
          let f = Contains-from_filter_map (other_end_of m) (filter (λ g. is_marked m marks g.chip) (filter_map (other_end_of m) whole)) e has in
          let kept = Contains-from_filter (λ g. is_marked m marks g.chip) (filter_map (other_end_of m) whole) f.0 f.1 in
          let from = Contains-from_filter_map (other_end_of m) whole f.0 kept.0 in
          let from_in = edge_in from.0 from.1 in
          let parts = turned_leads m from.0 f.0 from.2 in
          subst (λ (g : Edge). Contains whole g × LeadsToTarget m whole targets g) (same_Some from.0 e (sym (turned_back m from.0 f.0 from_in from.2) ∙ f.2))
          (from.1, (f.0.chip, parts.0, (marked_leads f.0.chip (far_inside m from.0.chip f.0.chip from.0.dir from_in parts.0)).0 kept.1)),
      λ known.
          let (has, (c, leads, on)) = known in
          let f : Edge = record { chip = c; dir = opposite_of e.dir } in
          let is : other_end_of m e ≡ Some f = turned_is m e c leads in
          let marked = (marked_leads c (far_inside m e.chip c e.dir (edge_in e has) leads)).1 on in
          Contains-filter_map (other_end_of m) (filter (λ g. is_marked m marks g.chip) (filter_map (other_end_of m) whole)) f e
          (Contains-filter (λ g. is_marked m marks g.chip) (filter_map (other_end_of m) whole) f (Contains-filter_map (other_end_of m) whole e f has is) marked)
          (turned_back m e f (edge_in e has) is),
    )
