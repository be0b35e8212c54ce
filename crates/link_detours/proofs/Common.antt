-- The names that the proofs of this crate cite from outside of them, passed on from one place. Declares nothing.
pub use Rattle.link_detours.specs.{Cause.IsRepairCause, LiveRoads.AreRoadsOf, Repair.AreInPlaceOrder, Repair.EdgeStep, Repair.IsCutOff, Repair.IsDetour, Repair.IsFirstTargetCutOff, Repair.IsKeptEdge}
pub use Rattle.link_detours.specs.Repair.{IsLastLink, IsRepaired, IsTreeLevel, IsWalkTo, Joins, LeadsToTarget, LiveEdgeStep, last_of}
pub use Rattle.link_detours.specs.{Steps.IsReachedBy, Steps.IsStepLevel, Steps.Steps, Usable.FlaggedStep, Usable.is_marked, Usable.other_end_of, Waves.AreWaves, Waves.HasBitOf, Waves.IsBestStep}
pub use Rattle.link_detours.specs.{Waves.IsIn, Waves.IsSpread, Waves.IsSpreadAt, Waves.IsSpreadBut, Waves.IsStepFrom, Waves.IsWave, Waves.IsWithinLinks, Waves.LeadsInto, Whole.GoesOnFrom}
pub use Rattle.link_detours.specs.{Whole.IsWholeTree, declared.repairs.RepairErr.RepairErr, declared.repairs.RepairErr.TheVariants.CutOff, declared.repairs.RepairErr.TheVariants.Memory}
pub use Rattle.link_detours.specs.declared.{repairs.RepairErr.TheVariants.Memory as NoMemory, roads.Roads.Roads}
pub use Rattle.machine_desc.proofs.{Branches.edge_down, Far.far_back, Far.far_inside, Far.far_parts, Far.index_below, Far.inside_from, Far.inside_parts, Far.live_back, Far.live_ends, Far.live_inside}
pub use Rattle.machine_desc.proofs.{Far.opposite_of-opposite, Far.same_index, Listing.Tells-more, Listing.Tells-none, Live.chip_of-inside, Live.index_of-chip_of, Same.below_six}
pub use Rattle.machine_desc.proofs.{Same.chip_eq-from_same, Same.edge_eq-true, Same.edge_eq_self, Same.same_chip, Same.same_dir, Same.same_edge, TreeLemmas.chip_in, TreeLemmas.more_chips}
pub use Rattle.machine_desc.proofs.TreeLemmas.{path_more, tree_cases, tree_end, tree_push_cases}
pub use Rattle.machine_desc.specs.{Description.Description, Equality.edge_eq, Flags.is_flagged, Flags.link_place, Live.IsInside, Live.IsLiveLink, Live.IsLiveWalk, Live.LeadsTo, Live.chip_of}
pub use Rattle.machine_desc.specs.{Live.far_of, Live.index_of, Live.is_live_link, Live.stepped, Live.x_step, Live.y_step, RoutingTree.IsPath, RoutingTree.IsTreeChip, RoutingTree.IsTreeTo}
pub use Rattle.machine_desc.specs.{RoutingTree.end_of, Tables.TellsListed, declared.steps.Step.Step, declared.steps.Step.TheVariants.Ahead, declared.steps.Step.TheVariants.Back}
pub use Rattle.machine_desc.specs.declared.{steps.Step.TheVariants.Stay, trees.Edge.Edge}
pub use Rattle.spin_base.proofs.{Ascending.same_in_order, Equality.chip_eq_same, Equality.chip_eq_true, Members.Contains-cases, Members.Contains-filter, Members.Contains-filter_map}
pub use Rattle.spin_base.proofs.Members.{Contains-first, Contains-from_filter, Contains-from_filter_map, Contains-later, Contains-map, Contains-none, Contains-only, Contains-unmap}
pub use Rattle.spin_base.proofs.{Pairs.AllPairs-from_map, Spots.dir_number-dir_at}
pub use Rattle.spin_base.specs.{Equality.chip_eq, Links.all_dirs, Links.dir_at, Links.dir_number, Links.opposite_of, declared.chips.Chip.Chip, declared.chips.Dir.Dir}
pub use Rattle.spin_base.specs.declared.chips.Dir.TheVariants.{East}
pub use Rattle.std.proofs.Common.{Bool, IfErr, List, None, Option, Some, [], add-one, ap, append-nil, append_assoc, arith, drop, eqb, false, get_or, inl, inr, length, lit<, map, refl, replicate}
pub use Rattle.std.proofs.Common.{rules, set, subst, suc, sym, take, tests, true, zero, ℕ, ◌%◌, ◌*◌, ◌++◌, ◌+◌, ◌-◌, ◌/◌, ◌<◌, ◌^◌, ◌↔◌, ◌∙◌, ◌∷◌, ◌≡◌, ◌≢◌, ◌≤◌, ◌⊎◌}
pub use Rattle.std.proofs.{Math.Nat.add-mod_right, Math.Nat.add-zero, Math.Nat.mod-eq_of_lt, Math.Nat.mod_self, lemmas.Bool.cases_Bool, lemmas.Bool.cases_eq, lemmas.Bool.cases_lt}
pub use Rattle.std.proofs.lemmas.Bool.{cases_order, cond-false, cond-true, eq-eqb, false_from_ne_true, false≢true, le-ltb, lt-ltb, ne_eqb}
pub use Rattle.std.proofs.lemmas.Iterator.{Consumers.YieldsList-from_filter, Consumers.map_from_collect, YieldsList-from_map_by, YieldsList-from_range, YieldsList-from_slice, items_from_collect}
pub use Rattle.std.proofs.lemmas.List.Elements.{All-append, All-contains, All-filter, All-map, All-more, All-push, All-set, All-weaker, Contains-append_cases, Contains-append_left}
pub use Rattle.std.proofs.lemmas.List.{Elements.Contains-append_right, Elements.Contains-get_or, Elements.Contains-push, Elements.Contains-push_cases, Filters.dedup_is, Folds.list_any_at}
pub use Rattle.std.proofs.lemmas.List.{FromFn.get_or-range_with_len, FromFn.length-range_with_len, Kept.AllPairs-filter, Kept.AllPairs-from_increasing, Kept.Contains-dedup_nat}
pub use Rattle.std.proofs.lemmas.List.{Kept.Contains-from_dedup, Quantifiers.all_pairs_push, Sorted.Contains-permutation, Sorted.IsPermutation-sym, Sums.sum_by-cons, Sums.sum_by-le, Sums.sum_by-set}
pub use Rattle.std.proofs.lemmas.List.{drop_at, ext_get_or, get_or-replicate, get_or-set_other, get_or-set_same, get_or-take, get_or_append_left, get_or_at, get_or_default, get_or_past, length-append}
pub use Rattle.std.proofs.lemmas.List.{length-replicate, length-set, length-take, map-append, map-id, take_all, take_at, take_more}
pub use Rattle.std.proofs.lemmas.{Map.Keys.IsStrictlyIncreasing-dedup, Map.Views.Contains-from_any, Nat.Bits.bit_at-lt, Nat.Bits.bit_at-suc, Nat.Bits.bit_at-trailing_zeros, Nat.Bits.bit_at-zero}
pub use Rattle.std.proofs.lemmas.Nat.Bits.{bit_at_above, bit_at_and, bit_at_cat_high, bit_at_cat_low, bit_at_clear_other, bit_at_clear_same, bit_at_ones, bit_at_ones_above, bit_at_or}
pub use Rattle.std.proofs.lemmas.Nat.{Bits.bit_at_set_other, Bits.bit_at_set_same, and_le_l, div-add-mod', le_or_l, mod_below, mul-le, one_shl, pow_pos, same_from_place}
pub use Rattle.std.proofs.lemmas.{Option.get_or_from_slice_get, Option.same_Some, Option.slice_get-get_or, Option.slice_get_within, Result.IfErr-weaker, Result.IfOk-at_ok, Slice.between_to_end}
pub use Rattle.std.specs.{Int.RustNames.bit_or, Int.bit_at, Int.bit_not, Int.trailing_zeros, Int.w64, List.All, List.AllPairs, List.Any, List.Contains, List.between, List.dedup, List.filter}
pub use Rattle.std.specs.{List.filter_map, List.range_with_len, List.slice_get, List.sum_by, Option.option_map}
pub use lib.Bits.{bit_and}
pub use mir.Val.{bits}
