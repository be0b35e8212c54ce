-- The names that the proofs of this crate cite from outside of them, passed on from one place. Declares nothing.
pub use Rattle.app_graph.proofs.Keys.{keys_of-at}
pub use Rattle.app_graph.specs.{RunPart.IsPacketOf as IsRunPacket, RunPart.key_count_of, ValidGraph.IsValidNet, declared.graphs.Net.Net, declared.graphs.Vertex.Vertex}
pub use Rattle.app_loads.proofs.{Alike.alike_moved, Alike.alike_too, Alike.alike_unloaded, Alike.same_spots, Alike.waits_too, OneClaim.one_block, SpotsOf.same_tests, SpotsOf.spots_beside}
pub use Rattle.app_loads.proofs.SpotsOf.{spots_usable}
pub use Rattle.app_loads.specs.{Alike.AreAlike, Alike.IsQuiet, Applications.AreApps, Applications.IsLoadedOn, Claims.AreBlocks, Claims.AreFirstServed, Claims.AreServed, Claims.IsLeastOpenRange}
pub use Rattle.app_loads.specs.{Claims.IsOpenRange, Claims.IsRefusalDue, Claims.claims_of, Host.Host, Host.all_ranges, Host.all_spots, Host.is_free_spot, Host.is_loaded, Host.is_spot_taken}
pub use Rattle.app_loads.specs.{Host.net_with, Leaving.NoneUnderWay, Leaving.is_delivery_of, Leaving.is_record_of, Leaving.others_than, Loading.HasLoaded, Loading.sent_by_vertex, Opening.bare_host}
pub use Rattle.app_loads.specs.{Opening.grid_spots, Opening.spot_of, Plans.IsAppNet, Plans.IsPacketOfApp, Plans.IsPlan, Plans.MayLoad, Unloading.HasUnloaded, Unloading.WaitsFor}
pub use Rattle.app_loads.specs.declared.answers.{Ended.Ended, LoadRefusal.LoadRefusal, LoadRefusal.TheVariants.KeysOut, LoadRefusal.TheVariants.Loaded, LoadRefusal.TheVariants.MemoryOut}
pub use Rattle.app_loads.specs.declared.{answers.LoadRefusal.TheVariants.RowsOut, loaded.Claim.Claim, loaded.LoadedApp.LoadedApp, loaded.Range.Range, plans.AppNet.AppNet, plans.AppPlan.AppPlan}
pub use Rattle.job_requests.specs.{Steps.is_load, Valid.HasFirstMachine, Valid.IsValidJob, Valid.IsValidStep, declared.steps.AppJob.AppJob, declared.steps.Step.Step}
pub use Rattle.job_requests.specs.declared.steps.Step.TheVariants.{Load, Run, Unload}
pub use Rattle.link_detours.specs.{LiveRoads.AreRoadsOf, Repair.IsDetour, Repair.IsKeptEdge, Repair.IsRepaired, Repair.IsTreeLevel, Repair.IsWalkTo, Repair.Joins, Repair.LiveEdgeStep, Repair.last_of}
pub use Rattle.link_detours.specs.{Steps.Steps, declared.repairs.RepairErr.RepairErr}
pub use Rattle.machine_desc.proofs.{Far.index_below, Same.same_spot, Sites.usable_site, TreeLemmas.tree_cases}
pub use Rattle.machine_desc.specs.{Description.Description, Live.IsInside, Live.IsLiveWalk, Live.IsSite, Live.IsUsable, Live.LeadsTo, Live.chip_of, Live.index_of, Live.is_live_chip, Live.is_usable}
pub use Rattle.machine_desc.specs.{RoutingTree.IsRoutingTree, RoutingTree.IsTreeChip, RoutingTree.end_of, declared.nets.NetPlan.NetPlan, declared.trees.Edge.Edge}
pub use Rattle.mesh_core.proofs.{Fixed.setup_after, Moves.chip_of-index_of}
pub use Rattle.mesh_core.specs.State.{Hand, Setup, State}
pub use Rattle.net_plans.proofs.{CutOffLaws.one_first_net, Determined.same_places, Determined.same_source}
pub use Rattle.net_plans.specs.{Cause.IsCauseOne, Cause.IsNetCause, CutOffTargets.HasNoneCutOff, CutOffTargets.IsFirstNetCutOff, NetPlans.IsPlannedNet, NetPlans.joined_chips}
pub use Rattle.net_plans.specs.declared.nets.NetErr.{NetErr}
pub use Rattle.place_fit.proofs.UsableSpots.{any_usable}
pub use Rattle.place_fit.specs.{Boards.AreFreeOn, Boards.HaveOneGrid, Boards.IsWith, Boards.IsWithout, Cause.IsPlacementCause as IsPlaceCause, Placement.HasDeviceRoom, Placement.HasNoRoom}
pub use Rattle.place_fit.specs.{Placement.IsCoreFor, Placement.IsPlacement, Placement.core_spot, Placement.device_spot, declared.boards.Board.Board, declared.placing.PlaceErr.PlaceErr}
pub use Rattle.spin_apps.specs.Answers.{Answers, AreAnswered, AreAnsweredFrom, HasDrained, HasGot, IsDone, IsLoadAnswer, IsUnloadAnswer, host_at}
pub use Rattle.spin_apps.specs.{Free.free_but, Free.free_machine, Free.unusable_spots, Hosting.FindHosts, Hosting.FindsHost, Hosting.HasAddedLine, Hosting.HasNumbersFor, Hosting.IsAnsweredBy}
pub use Rattle.spin_apps.specs.{Hosting.IsTaken, Hosting.packet_count_of, Lines.load_line, Lines.run_line, Lines.unload_line, Making.HasFreeCores, Making.IsNoPlanOn, Making.IsPlaced, Making.unplaced}
pub use Rattle.spin_apps.specs.{Making.unrouted, Making.unrouted_net, Plans.HasCutOffOnHost, Plans.IsNetFor, Plans.IsPlanFor, Plans.IsWhyUnplanned, declared.answers.Answered.Answered}
pub use Rattle.spin_apps.specs.declared.hosts.LoadAnswer.{LoadAnswer, TheVariants.CutOff, TheVariants.Done, TheVariants.NoRoom, TheVariants.Refused}
pub use Rattle.spin_apps.specs.declared.hosts.UnloadAnswer.{TheVariants.Got, TheVariants.NotLoaded, TheVariants.Waiting, UnloadAnswer}
pub use Rattle.spin_apps.specs.declared.plans.PlanErr.{PlanErr}
pub use Rattle.spin_base.proofs.{Equality.spot_eq_same, Equality.spot_eq_true, Members.Contains-at, Members.Contains-cases, Members.Contains-filter, Members.Contains-from_filter}
pub use Rattle.spin_base.proofs.{Members.Contains-none, Members.among_any, Members.among_contains, Members.among_right, Members.any_among, Members.contains_among, Places.All-at, Places.All-each}
pub use Rattle.spin_base.proofs.{Places.AllZip-at_first, Places.AllZip-at_second, Places.one_item_at, Places.slice_get_there, Places.take_more_at, Ranges.slice_get-map_range}
pub use Rattle.spin_base.specs.{Equality.spot_eq, declared.blocks.Block.Block, declared.chips.Chip.Chip, declared.chips.Spot.Spot, declared.copies.McCopy.McCopy, declared.copies.Packet.Packet}
pub use Rattle.spin_base.specs.declared.wants.Memory.{Memory}
pub use Rattle.std.proofs.Common.{Bool, Err, IfOk, IfSome, List, None, Ok, OnErr, OnOk, Option, Result, Some, [], ap, append-nil, ap₂, arith, cond, drop, false, get_or, inl, inr, length, map, nat_le}
pub use Rattle.std.proofs.Common.{not, refl, rules, string_bytes, subst, suc, sym, take, true, zero, ℕ, ◌%◌, ◌&&◌, ◌*◌, ◌++◌, ◌+◌, ◌-◌, ◌/◌, ◌<◌, ◌==◌, ◌^◌, ◌||◌, ◌∙◌, ◌∷◌, ◌≡◌, ◌≤◌}
pub use Rattle.std.proofs.{Math.Bool.and-true, Math.Bool.or-false, Math.Bool.or-true, Math.Bool.or_assoc, lemmas.Bool.and_from, lemmas.Bool.and_parts, lemmas.Bool.both_ways, lemmas.Bool.cases_Bool}
pub use Rattle.std.proofs.lemmas.{Bool.cases_lt, Bool.cases_order, Bool.eq-eqb, Bool.false≢true, Bool.leb-true, Bool.not-true, Bool.or_from, Bool.or_parts, Bool.true≢false, List.Elements.All-append}
pub use Rattle.std.proofs.lemmas.List.{Elements.All-cons, Elements.All-contains, Elements.All-head, Elements.All-nil, Elements.All-push, Elements.All-tail, Elements.All-weaker, Folds.list_any-append}
pub use Rattle.std.proofs.lemmas.{List.append_assoc, List.drop_all, List.get_or_default, List.length-map, List.length-replicate, List.take_all, Option.same_Some, Option.slice_get-get_or}
pub use Rattle.std.proofs.lemmas.{Option.slice_get_read, Option.slice_get_within, Slice.Zip.AllZip-long, Slice.Zip.all_zipped_more}
pub use Rattle.std.specs.{List.All, List.AllZip, List.Contains, List.filter, List.list_any, List.slice_get, Prelude.IsOk, Prelude.MatchOption, Prelude.is_some, Prelude.option_map, Prelude.replicate}
