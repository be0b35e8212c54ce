-- The names that the proofs of this crate cite from outside of them, passed on from one place. Declares nothing.
pub use Rattle.app_graph.specs.declared.graphs.{Graph.Graph, Net.Net, Vertex.Vertex}
pub use Rattle.key_alloc.specs.{Cause.IsKeysCause, declared.alloc.KeyErr.KeyErr}
pub use Rattle.link_detours.specs.Repair.{AreInPlaceOrder}
pub use Rattle.machine_desc.proofs.{EdgePlaces.before_place, Far.live_inside, Far.same_index, Same.edge_eq-true, Same.edge_eq_self, Same.same_chip, Same.same_dir, Same.same_edge, Sites.site_parts}
pub use Rattle.machine_desc.specs.{Description.Description, EdgeOrder.IsEdgeBefore, EdgeOrder.edge_key, Equality.edge_eq, Live.IsInside, Live.IsSite, Live.index_of, RightTables.AreRight}
pub use Rattle.machine_desc.specs.{RoutingTree.IsRoutingTree, declared.nets.NetPlan.NetPlan, declared.trees.Edge.Edge, declared.trees.Tree.Tree}
pub use Rattle.net_plans.proofs.{Determined.one_targets, Determined.same_places, Determined.same_source, Ordering.same_from_neither}
pub use Rattle.net_plans.specs.{Cause.IsRefusedBy, NetPlans.IsPlannedNet}
pub use Rattle.net_tables.proofs.{Determined.one_port, Trees.chips_inside, Trees.edges_inside}
pub use Rattle.net_tables.specs.{Marks.IsRouted, PlainTable.AreRoutedApart}
pub use Rattle.par_compile.proofs.Unique.{routed_of}
pub use Rattle.par_compile.specs.{Compiled.IsPlanOf, Compiled.blocks_of, declared.compiling.Plan.Plan}
pub use Rattle.place_fit.specs.{Cause.IsPlacementCause, Placement.IsPlacement, declared.placing.PlaceErr.PlaceErr}
pub use Rattle.plan_check.specs.{MadeImages.IsImageOf, Verdicts.AreFineBefore, Verdicts.GetsRoute, Verdicts.GetsRouteThat, Verdicts.IsFine, Verdicts.IsFineAll, Verdicts.IsFirstToMeet}
pub use Rattle.plan_check.specs.Verdicts.{IsMisrouted, IsSplitAt, IsTreeRoute, IsVerdict, IsWrong, LiesInside, Meets, rows_for}
pub use Rattle.plan_check.specs.declared.verdicts.Verdict.{TheVariants.Right, TheVariants.Split, TheVariants.Wrong, Verdict}
pub use Rattle.run_report.proofs.HexDigits.{word_text}
pub use Rattle.run_report.specs.{ReportText.line, declared.causes.Refusal.Refusal, declared.causes.Refusal.TheVariants.KeysOut, declared.causes.Refusal.TheVariants.Memory}
pub use Rattle.run_report.specs.declared.causes.Refusal.TheVariants.{NoRoom}
pub use Rattle.spin_base.proofs.{Pairs.AllPairs-head, Pairs.AllPairs-tail, Places.All-at, Places.All-each, Places.one_item_at, Places.slice_get-mapped, Places.slice_get-push_cases}
pub use Rattle.spin_base.proofs.{Places.slice_get_there, Tests.fails}
pub use Rattle.spin_base.specs.declared.{blocks.Block.Block, blocks.Entry.Entry, chips.Chip.Chip, chips.Port.Port, chips.Spot.Spot, routes.Route.Route, wants.Memory.Memory as WantsMemory}
pub use Rattle.spin_checks.specs.{Answers.HasNoAnswer, Answers.IsAnswer, Answers.IsJobRefusal, Answers.NamesMisrouted, Answers.RoutesRight, Answers.keys_out, Answers.no_room, Findings.HasGoodTree}
pub use Rattle.spin_checks.specs.{Findings.IsFinding, Findings.IsFirstBad, Findings.IsOfGrid, Findings.finding_line, Findings.right_line, Naming.key_refusal, Naming.net_in, Naming.place_refusal}
pub use Rattle.spin_checks.specs.{Naming.vertex_in, Nets.AreNetsWith, Nets.IsEachNetWith, Nets.IsNetWith, Nets.IsTreeOf, Nets.StandsOnSites, Plans.HasKeptRows, Plans.trees_of}
pub use Rattle.spin_checks.specs.declared.findings.Finding.{Finding, TheVariants.BadImage, TheVariants.BadTree, TheVariants.Judged, TheVariants.OtherMachine}
pub use Rattle.std.proofs.Common.{Bool, Err, IfErr, IfOk, List, None, Ok, Option, Ordering, Result, Some, [], ap, append-nil, arith, codes, false, get_or, inl, inr, is_lt, length, nat_cmp, refl}
pub use Rattle.std.proofs.Common.{rules, string_bytes, subst, sym, true, ℕ, ◌++◌, ◌+◌, ◌<◌, ◌∙◌, ◌∷◌, ◌≡◌, ◌≤◌}
pub use Rattle.std.proofs.lemmas.{Bool.cases_lt, Bool.cases_order, Bool.true≢false, Cmp.nat_cmp_total, Cmp.on_total, Cmp.ranked, Cmp.then_total, List.Elements.All-cons, List.Elements.All-weaker}
pub use Rattle.std.proofs.lemmas.List.Sorted.{IsPermutation-refl, IsPermutation-sym, IsPermutation-trans, answers_always, ranks_by, sorted_far, sum_by-IsPermutation}
pub use Rattle.std.proofs.lemmas.{List.Sums.sum_by-cons, List.Sums.sum_by-le, List.length-map, List.length_push, Option.slice_get-get_or, Option.slice_get_within}
pub use Rattle.std.specs.{Cmp.IsTotalOrder, List.All, List.AllPairs, List.Sorted.IsPermutation, List.Sorted.IsSortedByKey, List.slice_get, List.sum_by, Option.option_map_or, Ordering.ordering_then}
pub use Rattle.std.specs.Prelude.{MatchResult}
pub use Rattle.table_load.specs.{Images.Spells, Memories.IsLoaded, Reading.fault_of, declared.tables.Image.Image}
