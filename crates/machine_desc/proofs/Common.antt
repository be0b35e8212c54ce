-- The names that the proofs of this crate cite from outside of them, passed on from one place. Declares nothing.
pub use Rattle.machine_desc.specs.{Branch.Exit, Branch.GoesOn, Branch.IsBranch, Branch.IsWay, Branch.arrival_at, Branch.arrival_from, Branch.port_after, Described.described, Description.Description}
pub use Rattle.machine_desc.specs.{EdgeOrder.IsEdgeBefore, Equality.edge_eq, Flags.link_place, Live.IsInside, Live.IsLiveChip, Live.IsLiveLink, Live.IsSite, Live.IsUsable, Live.chip_of, Live.far_of}
pub use Rattle.machine_desc.specs.Live.{grid_chips, index_of, is_device_place, is_live_chip, is_live_link, live_count_of, other_than, stepped, x_step, y_step}
pub use Rattle.machine_desc.specs.{Outputs.is_wanted, Outputs.leads_to_spot, RoutingTree.IsPath, RoutingTree.IsRoutingTree, RoutingTree.IsTreeChip, RoutingTree.IsTreeTo, RoutingTree.end_of}
pub use Rattle.machine_desc.specs.Tables.{IsCoreOn, IsEdgeOn, IsOn, TellsChips, TellsCores, TellsLinks, TellsListed, chip_place, chip_total, core_place, edge_place}
pub use Rattle.machine_desc.specs.declared.{grids.Grid.Grid, steps.Step.Step, steps.Step.TheVariants.Ahead, steps.Step.TheVariants.Back, steps.Step.TheVariants.Stay, trees.Edge.Edge}
pub use Rattle.spin_base.proofs.{Counts.count_by-agree, Equality.chip_eq_same, Equality.chip_eq_true, Equality.dir_eq_same, Equality.dir_eq_true, Equality.out_eq_same, Equality.out_eq_true}
pub use Rattle.spin_base.proofs.{Equality.spot_eq_same, Equality.spot_eq_true, Places.slice_get-mapped, Places.slice_get_there, Spots.dir_at-dir_number, Spots.same_number, Spots.spot_of_link}
pub use Rattle.spin_base.specs.{Equality.chip_eq, Equality.spot_eq, Links.dir_at, Links.opposite_of, Outputs.out_of, declared.chips.Chip.Chip, declared.chips.Dir.Dir, declared.chips.Port.Port}
pub use Rattle.spin_base.specs.declared.{chips.Port.TheVariants.Link as ByLink, chips.Port.TheVariants.Local, chips.Spot.Spot, routes.Out.Out, routes.Out.TheVariants.Link}
pub use Rattle.std.proofs.Common.{Bool, List, None, Option, Some, [], ap, arith, cond, count_by, eqb, false, get_or, inl, inr, length, map, not, refl, rules, set, subst, suc, sym, take, true, zero, ℕ}
pub use Rattle.std.proofs.Common.{◌%◌, ◌&&◌, ◌*◌, ◌++◌, ◌+◌, ◌-◌, ◌<◌, ◌||◌, ◌∙◌, ◌∷◌, ◌≡◌, ◌≢◌, ◌≤◌, ◌⊎◌}
pub use Rattle.std.proofs.{Math.Bool.or-false, Math.Bool.true-and, Math.ListN.length-set, Math.Nat.add-mod_right, Math.Nat.mod-eq_of_lt, Math.Nat.mod_self, lemmas.Bool.and_from, lemmas.Bool.and_parts}
pub use Rattle.std.proofs.lemmas.Bool.{cases_Bool, cases_eq, cases_lt, cases_order, cond-false, cond-true, eq-eqb, eqb-true, false_from_ne_true, false≢true, le-ltb, leb-true, lt-ltb, ltb-true, ne_eqb}
pub use Rattle.std.proofs.lemmas.{Bool.not-true, Bool.or_cases, Bool.or_left, Bool.or_right, List.Elements.All-contains, List.Elements.All-from_get_or, List.Elements.All-weaker}
pub use Rattle.std.proofs.lemmas.List.{Elements.Contains-append_left, Elements.Contains-push, Elements.Contains-push_cases, Folds.Any-from_list_any, Folds.list_any_at, Folds.list_any_more}
pub use Rattle.std.proofs.lemmas.List.{FromFn.get_or-map-range_with_len, FromFn.length-map-range_with_len, ext_get_or, get_or-map, get_or-replicate, get_or-set_other, get_or-set_same, get_or_default}
pub use Rattle.std.proofs.lemmas.{List.get_or_past, List.length-append, List.length-map, List.length-replicate, List.map-append, Map.Keys.IsDistinct-from_apart}
pub use Rattle.std.proofs.lemmas.{Map.Steps.length-le_from_distinct_below, Map.Views.Contains-from_any, Nat.div-add-mod', Nat.div_below, Nat.mod_below, Nat.mul-add-lt, Nat.mul-le, Nat.same_from_place}
pub use Rattle.std.proofs.lemmas.Option.{get_or_from_slice_get}
pub use Rattle.std.specs.{List.All, List.Contains, List.list_any, List.slice_get, Prelude.replicate}
