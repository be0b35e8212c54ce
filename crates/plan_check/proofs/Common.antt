-- The names that the proofs of this crate cite from outside of them, passed on from one place. Declares nothing.
pub use Rattle.cover_merge.proofs.{Legal.legal_from_checks, Lists.All-flat_map, Lists.All-from_flat_map, Lists.All-left, Lists.All-right, Positions.All-has, Positions.rows_at-from}
pub use Rattle.cover_merge.proofs.Positions.{rows_at-has}
pub use Rattle.cover_merge.specs.{Covering.Covers, Covering.IsChosen, Covering.merged, Covering.places_of, Covering.short, Covering.stuck, Merge.IsLegal, Merge.after, Merge.has_row}
pub use Rattle.cover_merge.specs.{Merge.insert_place, Merge.kept, Merge.merge_rows, Merge.merged_row, Merge.picked, Merge.rows_at, Refinement.Refines, Refinement.ends_empty, Refinement.ends_legal}
pub use Rattle.cover_merge.specs.Refinement.{goes_down, goes_up, keeps}
pub use Rattle.default_routes.specs.{KeptRows.AreKept, KeptRows.IsStrippable, KeptRows.KeptFrom, KeptRows.ends, KeptRows.goes, KeptRows.stays, declared.stripping.Final.Final}
pub use Rattle.link_detours.specs.{Repair.EdgeStep, Steps.Steps}
pub use Rattle.machine_desc.proofs.{Far.far_inside, Far.index_below, Far.live_ends, Far.live_inside, Far.same_index, Live.chip_of-inside, Live.index_of-chip_of, TreeLemmas.path_in_tree}
pub use Rattle.machine_desc.proofs.TreeLemmas.{path_more, root_lives_with_edge, tree_cases}
pub use Rattle.machine_desc.specs.{Description.Description, Live.IsInside, Live.IsLiveLink, Live.chip_of, Live.index_of, Live.is_inside, RightTables.AreRight, RightTables.IsKeyOf}
pub use Rattle.machine_desc.specs.{RightTables.table_at, RoutingTree.IsPath, RoutingTree.IsRoutingTree, RoutingTree.IsTreeChip, RoutingTree.end_of, declared.nets.NetPlan.NetPlan}
pub use Rattle.machine_desc.specs.declared.trees.Edge.{Edge}
pub use Rattle.net_tables.proofs.{Determined.one_port, Determined.same_outputs, Trees.chips_inside, Trees.comes_in_tree, Whole.has_original, Whole.not_after, Whole.originals_apart}
pub use Rattle.net_tables.specs.{Marks.IsRouted, Marks.TellsPort, Marks.TellsPorts, Marks.TellsRoutes, PlainTable.AreRoutedApart, PlainTable.HasChip, PlainTable.IsPlainTable, PlainTable.row_of}
pub use Rattle.plan_check.specs.{Boards.IsAmiss, Boards.IsAmissAt, Boards.IsFineBelow, Boards.IsFirstFlaw, Boards.IsFlaw, Boards.IsFlawBy, Boards.entries_at, Boards.verdict_on, MadeImages.IsFinalAt}
pub use Rattle.plan_check.specs.{MadeImages.IsImageOf, Marks.AreMarks, Marks.EntersAnew, Marks.EntersNone, Marks.EntersOnce, Marks.IsAlone, Marks.IsMarkedChip, Marks.IsReachedChip, Marks.going_on}
pub use Rattle.plan_check.specs.{Marks.mark_at, Verdicts.AreFineBefore, Verdicts.GetsRoute, Verdicts.GetsRouteThat, Verdicts.IsFine, Verdicts.IsFineAll, Verdicts.IsFirstToMeet, Verdicts.IsMisrouted}
pub use Rattle.plan_check.specs.{Verdicts.IsTreeRoute, Verdicts.IsVerdict, Verdicts.IsWrong, Verdicts.LiesInside, Verdicts.Meets, Verdicts.NoneMeets, Verdicts.rows_for, declared.flaws.Flaw.Flaw}
pub use Rattle.plan_check.specs.declared.{flaws.Flaw.TheVariants.Split, flaws.Flaw.TheVariants.Wrong, verdicts.Verdict.TheVariants.Right, verdicts.Verdict.Verdict}
pub use Rattle.spin_base.proofs.{Lookups.lookup_hit, Lookups.lookup_miss, Members.Contains-first, Members.Contains-map, Members.Contains-none, Members.Contains-unmap, Pairs.All-from_map}
pub use Rattle.spin_base.proofs.{Pairs.AllPairs-head, Pairs.AllPairs-map, Pairs.AllPairs-nil, Pairs.AllPairs-permutation, Pairs.AllPairs-tail, Places.All-at, Places.slice_get_there}
pub use Rattle.spin_base.proofs.{RouteBits.same_route, Tests.answers_no, Tests.fails}
pub use Rattle.spin_base.specs.{Lookup.default_route, Lookup.lookup, Lookup.matches, Outputs.has, Outputs.nothing, declared.blocks.Block.Block, declared.blocks.ChipTable.ChipTable}
pub use Rattle.spin_base.specs.declared.{blocks.Entry.Entry, chips.Chip.Chip, chips.Port.Port, chips.Spot.Spot, routes.Route.Route}
pub use Rattle.std.proofs.Common.{Bool, IsTrue, List, None, Option, Some, [], ap, arith, cond, drop, false, get_or, get_or-drop, get_or-take, inl, inr, length, length-drop, length-take, map, not}
pub use Rattle.std.proofs.Common.{refl, replicate, rules, set, subst, suc, sym, take, true, zero, ℕ, ◌*◌, ◌++◌, ◌+◌, ◌-◌, ◌<◌, ◌==◌, ◌↔◌, ◌∙◌, ◌∷◌, ◌≡◌, ◌≢◌, ◌≤◌}
pub use Rattle.std.proofs.{Math.Seq.drop-cons, lemmas.Bool.cases_Bool, lemmas.Bool.cases_eq, lemmas.Bool.cases_lt, lemmas.Bool.cond-false, lemmas.Bool.cond-true, lemmas.Bool.eq-eqb}
pub use Rattle.std.proofs.lemmas.{Bool.eqb-true, Bool.false_from_ne_true, Bool.false≢true, Bool.not_from_false, List.Elements.All-append, List.Elements.All-cons, List.Elements.All-contains}
pub use Rattle.std.proofs.lemmas.List.Elements.{All-filter, All-head, All-map, All-nil, All-tail, All-weaker, Contains-append_cases, Contains-append_left, Contains-append_right}
pub use Rattle.std.proofs.lemmas.List.{Kept.AllPairs-cons, Sorted.All-permutation, Sorted.Contains-permutation, drop_all, get_or-replicate, get_or-set_other, get_or-set_same, get_or_default}
pub use Rattle.std.proofs.lemmas.{List.length-map, List.length-replicate, List.length-set, Nat.mul-add-lt, Option.get_or_from_slice_get, Option.none-some, Option.slice_get-get_or}
pub use Rattle.std.proofs.lemmas.Option.{slice_get_within}
pub use Rattle.std.specs.{List.Contains, List.cons_option, List.flat_map, Option.option_map_or, Prelude.All, Prelude.AllPairs, Prelude.bit_and, Prelude.find, Prelude.slice_get}
pub use Rattle.table_load.specs.{Images.IsRow, Images.IsTable, Images.IsValid, Memories.IsLoaded, Memories.loaded, Memories.rows_of_index, Memories.table_index, declared.tables.Image.Image}
pub use Rattle.tcam_find.proofs.MemoryLemmas.{unused_matches}
pub use Rattle.tcam_find.specs.Memory.{unused}
pub use Rattle.tern_word.proofs.BlockLaws.{Intersects-sym, key_small}
pub use Rattle.tern_word.specs.{Entries.entry_of, SoundTable.IsSound, SoundTable.Original, SoundTable.served, SoundTable.served_by, Ternary.Intersects, Ternary.LiesIn, declared.tables.Alias.Alias}
pub use Rattle.tern_word.specs.declared.tables.Row.{Row}
