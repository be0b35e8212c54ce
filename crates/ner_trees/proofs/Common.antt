use Rattle.std.proofs.Common.{arith}
-- The names that the proofs of this crate cite from outside of them, passed on from one place. Declares nothing.
pub use Rattle.machine_desc.proofs.{Far.far_from, Far.far_inside, Far.index_below, Far.inside_from, Far.inside_parts, Far.same_index, Same.below_six, Same.same_chip, Same.same_edge}
pub use Rattle.machine_desc.proofs.TreeLemmas.{chip_in, more_chips, more_path, path_in, path_more, tree_cases, tree_end}
pub use Rattle.machine_desc.specs.{Description.Description, Description.HasSize, EdgeOrder.IsEdgeBefore, Live.IsInside, Live.IsLiveLink, Live.chip_at, Live.far_of, Live.index_of, Live.stepped}
pub use Rattle.machine_desc.specs.{Live.x_step, Live.y_step, RoutingTree.IsPath, RoutingTree.IsTreeChip, RoutingTree.IsTreeTo, RoutingTree.end_of, declared.steps.Step.Step}
pub use Rattle.machine_desc.specs.declared.{steps.Step.TheVariants.Ahead, steps.Step.TheVariants.Back, steps.Step.TheVariants.Stay, trees.Edge.Edge}
pub use Rattle.ner_trees.specs.{EdgeNumbers.IsEdgeNumber, EdgeNumbers.edge_number, EdgeNumbers.edge_numbered, Geometry.IsSmall, Geometry.ahead_by, Geometry.back, Geometry.disp}
pub use Rattle.ner_trees.specs.Geometry.{displacement_of, distance_of, first_differs, forth, is_before, length_of, lesser_disp, on_torus}
pub use Rattle.ner_trees.specs.Growth.{Grows, IsAdded, IsGrown, IsJoinedBy, IsNear, IsNotFarther, IsWithoutDead, distance_sum, end_of_walk, links_of, next_of, or_stay}
pub use Rattle.ner_trees.specs.LongestFirst.{is_ahead, is_back, ldf_of, link_run_of, longest_first, median, put_run, run_links, runs_of, sum_of}
pub use Rattle.ner_trees.specs.Search.{AreAllOn, AreOn, AtOffsets, AtStep, IsBetter, IsCutAt, IsLeastNearness, IsMarkedBy, IsNearestOn, IsNoneNearer, IsOnWithin, TellsTree, is_on, is_there, nearness}
pub use Rattle.ner_trees.specs.{Search.place_at, declared.displacements.Disp.Disp, declared.growths.Join.Join, declared.walks.Run.Run}
pub use Rattle.spin_base.proofs.{Equality.chip_eq_true, Equality.dir_eq_true, Members.Contains-cases, Members.Contains-first, Members.Contains-later, Members.Contains-none, Pairs.AllPairs-head}
pub use Rattle.spin_base.proofs.{Pairs.AllPairs-permutation, Pairs.AllPairs-tail, Spots.dir_at-dir_number}
pub use Rattle.spin_base.specs.{Equality.chip_eq, Links.all_dirs, Links.dir_at, Links.dir_number, Links.opposite_of, declared.chips.Chip.Chip, declared.chips.Dir.Dir}
pub use Rattle.spin_base.specs.declared.chips.Dir.TheVariants.{East, North, NorthEast, South, SouthWest, West}
pub use Rattle.std.proofs.Common.{Bool, Err, Global, IfOk, List, None, Ok, Option, Result, Some, Vec, [], ap, arith, cond, eqb, false, get_or, inl, inr, leb, length, ltb, map, max, min, not, of_z}
pub use Rattle.std.proofs.Common.{refl, replicate, set, subst, suc, sym, take, to_z, true, w32, ℕ, ◌%◌, ◌*◌, ◌++◌, ◌+◌, ◌-◌, ◌/◌, ◌<◌, ◌||◌, ◌∙◌, ◌∷◌, ◌≡◌, ◌≢◌, ◌≤◌, ◌⊎◌}
pub use Rattle.std.proofs.{Math.ListN.get_or-eq_default, Math.Logic.∥∥₁_elim, Math.Logic.∥∥₁_map, Math.Nat.add-mod_right, Math.Nat.mod-eq_of_lt, Math.Nat.mod_self, Props.props, lemmas.Bool.and_from}
pub use Rattle.std.proofs.lemmas.Bool.{cases_Bool, cases_eq, cases_lt, cases_order, cond-false, cond-true, eq-eqb, eqb-false, eqb-true, le-ltb, lt-ltb, ltb-false, ltb-true, ne_eqb, or_left, or_right}
pub use Rattle.std.proofs.lemmas.{Bool.true≢false, Int.ints, List.Elements.All-append, List.Elements.All-cons, List.Elements.All-contains, List.Elements.All-get_or, List.Elements.All-head}
pub use Rattle.std.proofs.lemmas.List.Elements.{All-nil, All-push, All-tail, Contains-append_cases, Contains-append_left, Contains-append_right, Contains-get_or, Contains-push, Contains-push_cases}
pub use Rattle.std.proofs.lemmas.List.{Folds.sum_by-replicate, Quantifiers.all_pairs_push, Sorted.All-permutation, Sorted.Contains-permutation, Sorted.IsNonDecreasingBy-from_sort}
pub use Rattle.std.proofs.lemmas.List.{Sorted.IsPermutation-map, Sorted.IsPermutation-sym, Sorted.length_permutation, Sums.sum_by-append, Sums.sum_by-cons, append-nil, append_assoc, get_or-map}
pub use Rattle.std.proofs.lemmas.List.{get_or-replicate, get_or-set_other, get_or-set_same, length-append, length-map, length-replicate, length-set, map_push, take_all, take_more}
pub use Rattle.std.proofs.lemmas.{Nat.mod-mul-add, Nat.mul-le, Option.none-some, Option.same_Some}
pub use Rattle.std.specs.{Int.int_max, Int.int_min, List.All, List.AllPairs, List.Any, List.Contains, List.Sorted.IsNonDecreasing, List.Sorted.IsPermutation, List.count_by, List.flat_map}
pub use Rattle.std.specs.{List.slice_index_or, List.sum_by, Option.IfNone, Option.IfSome, Prelude.if◌then◌else◌, Prelude.neg_ℤ, Prelude.negsuc, Prelude.pos, Prelude.unsigned_abs, Prelude.ℤ}
pub use Rattle.std.specs.Prelude.{◌-ℤ◌}
