-- The names that the proofs of this crate cite from outside of them, passed on from one place. Declares nothing.
pub use Rattle.app_graph.specs.declared.graphs.{Graph.Graph, Net.Net, Vertex.Vertex}
pub use Rattle.cover_merge.specs.{Covering.HasNoLegalPair, Merge.rows_at}
pub use Rattle.default_routes.proofs.{Determined.one_table, FinalLemmas.ended_where_long, ShortTables.short_final, ShortTables.short_routes, ShortTables.short_serves}
pub use Rattle.default_routes.specs.{FinalTable.IsFinalOf, FinalTable.IsShortened, FinalTable.MatchesNoKey, FinalTable.RoutesAlone, KeptRows.AreKept, KeptRows.IsStrippable, KeptRows.KeptFrom}
pub use Rattle.default_routes.specs.{KeptRows.ends, KeptRows.goes, KeptRows.stays, declared.stripping.Final.Final}
pub use Rattle.key_alloc.specs.KeyBlocks.{AreRightBlocks, HasKeys}
pub use Rattle.machine_desc.proofs.{Far.index_below, Far.inside_parts, Far.live_inside, Far.same_index, Live.chip_of-inside, Live.index_of-chip_of, Sites.site_parts}
pub use Rattle.machine_desc.specs.{Description.Description, Description.HasSize, Live.IsInside, Live.IsSite, Live.IsUsable, Live.chip_of, Live.index_of, NetsOn.AreNetsOn, NetsOn.HaveDisjointBlocks}
pub use Rattle.machine_desc.specs.{Outputs.is_wanted, RightTables.AreRight, RoutingTree.IsRoutingTree, declared.nets.NetPlan.NetPlan}
pub use Rattle.net_plans.proofs.{CutOffLaws.none_cut_off, CutOffLaws.one_first_net, Determined.one_list_of_plans, Determined.same_places, Ordering.not_both}
pub use Rattle.net_plans.specs.{CutOffTargets.HasNoneCutOff, CutOffTargets.IsFirstNetCutOff, NetPlans.ArePlanned, NetPlans.IsEachPlanned, NetPlans.IsPlannedNet, Order.IsBelow, Targets.spot_key}
pub use Rattle.net_tables.proofs.{Determined.one_port, Determined.rows_lead, Trees.chips_inside, Trees.comes_in_tree, Whole.few_marks, Whole.few_rows, Whole.has_original, Whole.is_plain}
pub use Rattle.net_tables.proofs.Whole.{marks_apart, serves_them, sound_table}
pub use Rattle.net_tables.specs.Marks.{AreApart, AreBlocksOf, AreTurningBlocksOf, IsTableOf, goes_straight, original_of, row_of_mark, table_of_sorted, turns}
pub use Rattle.net_tables.specs.{PlainTable.AreOriginals, PlainTable.AreRoutedApart, PlainTable.HasChip, PlainTable.IsRowNotAfter, declared.marks.Mark.Mark}
pub use Rattle.par_compile.specs.Compiled.{HasCutOff, HasLongTable, IsCompileCause, IsPlanOf, IsRefusedWhere, IsRoutingOf, blocks_of}
pub use Rattle.par_compile.specs.Finals.{AreBlocksFor, AreCoverable, AreFinals, GivesFinal, HasFinal, IsFinalFor, IsStillPlain, IsWorked, KeepsRows, is_long, loaded_of}
pub use Rattle.par_compile.specs.{Imaging.CanBeImaged, Imaging.FillTables, Imaging.image_in, Imaging.listed, Imaging.tables_from, ShortTables.kept_entries, declared.compiling.CompileErr.CompileErr}
pub use Rattle.par_compile.specs.declared.compiling.CompileErr.TheVariants.{CutOff, KeysOut, Memory, NoRoom, TableLong}
pub use Rattle.par_compile.specs.declared.{compiling.Plan.Plan, workers.Work.TheVariants.Refused, workers.Work.Work}
pub use Rattle.place_fit.specs.{Placement.IsPlacement, declared.placing.Placement.Placement}
pub use Rattle.spin_base.proofs.{Gathering.gathered_more, Members.Contains-at, Members.Contains-from_filter, Pairs.AllPairs-from_map, Pairs.AllPairs-head, Pairs.AllPairs-map, Pairs.AllPairs-nil}
pub use Rattle.spin_base.proofs.{Pairs.AllPairs-permutation, Pairs.AllPairs-tail, Places.All-at, Places.All-each, Places.AllZip-at_second, Places.slice_get-mapped, Places.slice_get_there}
pub use Rattle.spin_base.proofs.RouteBits.{same_route}
pub use Rattle.spin_base.specs.{Lookup.lookup, Lookup.straight_on, Outputs.has, declared.blocks.Block.Block, declared.blocks.ChipTable.ChipTable, declared.blocks.Entry.Entry, declared.chips.Chip.Chip}
pub use Rattle.spin_base.specs.declared.{chips.Dir.Dir, chips.Port.Port, chips.Port.TheVariants.Link, chips.Spot.Spot, routes.Out.Out, routes.Route.Route}
pub use Rattle.std.proofs.Common.{Bool, Err, IfErr, IfOk, List, None, Ok, Result, Some, [], ap, arith, bit_and, drop, false, filter, get_or, inl, inr, length, map, nat_lt, refl, replicate, rules}
pub use Rattle.std.proofs.Common.{subst, suc, sym, take, true, zero, ℕ, ◌*◌, ◌++◌, ◌+◌, ◌-◌, ◌/◌, ◌<◌, ◌==◌, ◌^◌, ◌∙◌, ◌∷◌, ◌≡◌, ◌≢◌, ◌≤◌, ◌⊎◌}
pub use Rattle.std.proofs.{Math.Seq.take-append_seam, lemmas.Bool.cases_Bool, lemmas.Bool.cases_lt, lemmas.Bool.cases_order, lemmas.Bool.cond-false, lemmas.Bool.cond-true, lemmas.Bool.eq-eqb}
pub use Rattle.std.proofs.lemmas.{Bool.eqb-true, Bool.false_from_ne_true, Bool.false≢true, Bool.lt-ltb, Bool.ltb-true, Bool.true≢false, Grind.common_steps, List.Elements.All-append}
pub use Rattle.std.proofs.lemmas.List.Elements.{All-cons, All-contains, All-head, All-map, All-nil, All-tail, All-weaker, Contains-get_or}
pub use Rattle.std.proofs.lemmas.List.{Filters.length-filter_both, Kept.AllPairs-cons, Kept.AllPairs-filter, Quantifiers.position-Some, Sorted.All-permutation, Sorted.Contains-permutation}
pub use Rattle.std.proofs.lemmas.List.Sorted.{IsPermutation-append_right, IsPermutation-cons, IsPermutation-filter_both, IsPermutation-insert, IsPermutation-refl, IsPermutation-trans}
pub use Rattle.std.proofs.lemmas.List.{Sorted.length_permutation, Sums.fails_before_first, append-nil, append_assoc, get_or_push, length-append, length-map, take_all}
pub use Rattle.std.proofs.lemmas.{Nat.mod_below, Nat.mul-le, Option.get_or_from_slice_get, Option.slice_get-get_or, Option.slice_get_within, Result.IfOk-weaker, Slice.Zip.AllZip-long}
pub use Rattle.std.proofs.lemmas.Slice.Zip.{all_zipped_more}
pub use Rattle.std.specs.{List.All, List.AllPairs, List.AllZip, List.Contains, List.Sorted.IsPermutation, List.cons_option, List.position, List.slice_get, List.slice_index_or, Prelude.MatchResult}
pub use Rattle.std.specs.{Prelude.if◌then◌else◌, Vec.Iter.into_iter_items}
pub use Rattle.table_load.specs.{Images.IsChipBefore, Images.IsRow, Images.IsTable, Images.IsValid, Images.Spells, Memories.IsLoaded, Memories.loaded, Memories.rows_of_index}
pub use Rattle.table_load.specs.declared.{faults.ImageErr.ImageErr, faults.ImageErr.TheVariants.Memory as NoMemory, tables.Image.Image}
pub use Rattle.tcam_find.proofs.MemoryLemmas.{unused_matches}
pub use Rattle.tcam_find.specs.Memory.{unused}
pub use Rattle.tern_word.proofs.BlockLaws.{Intersects-sym}
pub use Rattle.tern_word.specs.{Entries.entry_of, SoundTable.IsSound, SoundTable.Misses, SoundTable.Original, SoundTable.served, Ternary.Intersects, Ternary.Matches, Ternary.generality}
pub use Rattle.tern_word.specs.declared.tables.Row.{Row}
