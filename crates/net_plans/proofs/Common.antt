-- The names that the proofs of this crate cite from outside of them, passed on from one place. Declares nothing.
pub use Rattle.app_graph.specs.declared.graphs.Net.{Net}
pub use Rattle.link_detours.proofs.Unchanged.{whole_repaired}
pub use Rattle.link_detours.specs.{Cause.IsRepairCause, Repair.EdgeStep, Repair.IsDetour, Repair.IsFirstTargetCutOff as IsFirstOfList, Repair.IsLastLink, Repair.IsRepaired, Repair.IsTreeLevel}
pub use Rattle.link_detours.specs.{Repair.IsWalkTo, Repair.Joins, Repair.LeadsToTarget, Steps.Steps, declared.repairs.RepairErr.RepairErr}
pub use Rattle.machine_desc.proofs.{EdgePlaces.before_place, Far.far_back, Far.live_ends, Far.live_inside, Same.same_dir, Same.same_edge, Sites.site_parts, TreeLemmas.tree_cases, TreeLemmas.tree_end}
pub use Rattle.machine_desc.specs.{Description.Description, Flags.link_place, Live.IsInside, Live.IsLiveChip, Live.IsLiveLink, Live.IsSite, Live.far_of, RoutingTree.IsPath, RoutingTree.IsRoutingTree}
pub use Rattle.machine_desc.specs.{RoutingTree.IsTreeChip, RoutingTree.IsTreeTo, RoutingTree.end_of, declared.nets.NetPlan.NetPlan, declared.trees.Edge.Edge, declared.trees.Tree.Tree}
pub use Rattle.ner_trees.proofs.{Determined.one_tree, Ordered.same_list}
pub use Rattle.ner_trees.specs.{Geometry.distance_of, Growth.IsGrown, Growth.distance_sum, declared.growths.Grown.Grown}
pub use Rattle.net_plans.specs.{Boards.AreOnBefore, Boards.HasCoreAt, Boards.HasCoresOf, Boards.HasPlace, Boards.IsPutOn, Boards.board_place, Boards.core_at, Cause.IsCauseOne, Cause.IsNetCause}
pub use Rattle.net_plans.specs.{Cause.IsRefusedBy, CutOffTargets.HasNoneCutOff, CutOffTargets.IsCutOffIn, CutOffTargets.IsFirstCutOffIn, CutOffTargets.IsFirstNetCutOff, Keys.AreChipKeys}
pub use Rattle.net_plans.specs.{Keys.AreNumbersOf, Keys.IsChipOfOne, Keys.chip_of_key, Keys.nowhere, Keys.spot_number, Keys.spot_numbered, NetPlans.ArePlanned, NetPlans.IsPlannedNet}
pub use Rattle.net_plans.specs.{NetPlans.joined_chips, Order.IsBelow, Targets.AreTargetChips, Targets.AreTargets, Targets.chip_key, Targets.spot_key, Ways.AreRoutedNets, Ways.CanRouteAt}
pub use Rattle.net_plans.specs.{Ways.HasTreeAndPlan, Ways.HaveWays, Ways.IsFirstCut, Ways.IsFirstWithout, Ways.IsRoutedNet, Ways.IsRoutingAnswer, declared.nets.NetErr.NetErr}
pub use Rattle.net_plans.specs.declared.nets.{NetErr.TheVariants.CutOff, NetErr.TheVariants.Memory, RoutedNet.RoutedNet}
pub use Rattle.rayon.proofs.{ListFacts.IfOk-then, ToStd.nat_range-All}
pub use Rattle.rayon.specs.Numbers.{nat_range}
pub use Rattle.spin_base.proofs.{Ascending.same_in_order, Equality.same_chip, Equality.same_spot, Members.Contains-at, Members.Contains-first, Members.Contains-later, Members.Contains-map}
pub use Rattle.spin_base.proofs.{Members.Contains-none, Members.Contains-unmap, Pairs.AllPairs-nil, Places.All-at, Places.All-each, Places.AllZip-at_second, Places.map_more_at}
pub use Rattle.spin_base.proofs.Places.{slice_get-push_cases, slice_get_there, take_more_at}
pub use Rattle.spin_base.specs.{Links.dir_number, Links.opposite_of, declared.blocks.Block.Block, declared.chips.Chip.Chip, declared.chips.Dir.Dir, declared.chips.Spot.Spot}
pub use Rattle.std.proofs.Common.{Equal, Err, Greater, IfErr, IfOk, Less, List, Ok, Ordering, Result, Some, [], ap, arith, drop, get_or, inl, inr, length, map, nat_cmp, refl, rules, set, subst, suc}
pub use Rattle.std.proofs.Common.{sym, take, true, zero, ℕ, ◌%◌, ◌*◌, ◌++◌, ◌+◌, ◌-◌, ◌/◌, ◌<◌, ◌^◌, ◌∙◌, ◌∷◌, ◌≡◌, ◌≢◌, ◌≤◌, ◌⊎◌}
pub use Rattle.std.proofs.lemmas.{Bool.cases_eq, Bool.cases_lt, Bool.cases_order, Cmp.ranked, List.Elements.All-cons, List.Elements.All-contains, List.Elements.All-contains_itself}
pub use Rattle.std.proofs.lemmas.List.Elements.{All-nil, Contains-append_cases, Contains-append_left, Contains-append_right, Contains-get_or, Contains-push, Contains-push_cases}
pub use Rattle.std.proofs.lemmas.List.{Filters.dedup_is, FromFn.get_or-range_with_len, FromFn.length-range_with_len, Kept.AllPairs-cons, Kept.Any-dedup, Kept.Contains-from_dedup}
pub use Rattle.std.proofs.lemmas.List.{Kept.IsStrictlySortedBy-dedup, Quantifiers.all_pairs_push, Sorted.Contains-permutation, Sorted.IsPermutation-sym, ext_get_or, get_or-set_other, get_or-set_same}
pub use Rattle.std.proofs.lemmas.{List.length-append, List.length-set, List.map_push, Nat.Bits.bit_at-zero, Nat.Bits.bit_at_set_other, Nat.Bits.bit_at_set_same, Nat.Bits.shr_and_one}
pub use Rattle.std.proofs.lemmas.{Option.get_or_from_slice_get, Option.same_Some, Option.slice_get-get_or, Option.slice_get_within, Result.IfErr-weaker, Result.IfOk-weaker, Slice.Zip.AllZip-long}
pub use Rattle.std.specs.{Int.RustNames.bit_or, Int.bit_at, Int.w32, List.All, List.AllByRecursion, List.AllPairs, List.AllZip, List.Any, List.Contains, List.Sorted.IsStrictlySortedBy}
pub use Rattle.std.specs.{List.range_with_len, List.slice_get, List.slice_index_or, Ordering.MatchOrdering, Ordering.is_eq, Ordering.ordering_then, Vec.Iter.into_iter_items}
pub use mir.Val.{bits}
