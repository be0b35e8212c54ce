-- The names that the proofs of this crate cite from outside of them, passed on from one place. Declares nothing.
pub use Rattle.chip_node.proofs.{Flows.goes_none, Flows.goes_on, Flows.holds_sender_on, Stays.end_before, Stays.stays_same}
pub use Rattle.chip_node.specs.Acting.{BankActs, BankMoves, GetsOne, IsReadyBank, IsReadyRouter, RouterActs, RoutesOne, SendsOne, place_at_router, place_in, service_items}
pub use Rattle.chip_node.specs.Going.{AreEndsOf, EndGoes, Goes, HoldsSender, IsEndOf, IsFullMoment, LaneGoes, SenderGoes, Stays, TakerGoes}
pub use Rattle.chip_node.specs.Items.{Item, Service, brought, deliveries, dumped_of, entered, entered_by, getting_of, gettings, got, injection_place, left, left_by, lost_at, lost_by, port_place}
pub use Rattle.chip_node.specs.Items.{records, sending_of, sendings, sent, sent_by, sent_in, served, service_of, services, taking_of, takings, took, where_same, where_there}
pub use Rattle.chip_node.specs.{Routing.outputs_at, declared.ends.End.End, declared.ends.End.TheVariants.Away, declared.ends.End.TheVariants.Own, declared.ends.End.TheVariants.Sends}
pub use Rattle.chip_node.specs.declared.{ends.End.TheVariants.Takes, ends.InEnd.InEnd, ends.OutEnd.OutEnd, ends.Served.Served, ends.Served.TheVariants.Dumped, flags.Flags.Flags}
pub use Rattle.chip_node.specs.declared.holdings.{Holdings.Holdings, Turn.TheVariants.Moved, Turn.TheVariants.Nothing, Turn.TheVariants.Waits, Turn.Turn}
pub use Rattle.chip_node.specs.declared.nodes.{Behind.Behind, CoreBank.CoreBank, RouterNode.RouterNode}
pub use Rattle.link_queue.specs.{Ends.IsRx, Ends.IsTx, Ends.cap_of, Ends.sending, Ends.taking, TheRule.IsFullNote, TheRule.put_of, Ups.NoNotes, Ups.Rests, declared.links.Link.Link}
pub use Rattle.link_queue.specs.declared.links.{Link.Link as QueueLink, LinkEnds.LinkEnds, Rx.Rx, Tx.Tx}
pub use Rattle.machine_desc.proofs.{Far.far_back, Far.far_inside, Far.far_parts, Far.index_below, Far.live_back, Far.live_ends, Far.live_inside, Far.opposite_of-opposite, Live.chip_of-inside}
pub use Rattle.machine_desc.proofs.Live.{index_of-chip_of}
pub use Rattle.machine_desc.specs.{Description.Description, Description.HasSize, Live.IsInside, Live.IsLiveLink, Live.IsSite, Live.chip_of, Live.far_of, Live.index_of, Live.is_live_chip}
pub use Rattle.machine_desc.specs.{Live.is_live_link, RightTables.table_at}
pub use Rattle.mesh_core.proofs.{Changes.queue_at-below, Keeping.core_is_somewhere, Keeping.input_is_no_core, Keeping.input_is_somewhere, Keeping.same_core, Keeping.same_input}
pub use Rattle.mesh_core.proofs.{VertexTableLaws.few_sites, VertexTableLaws.site_inside, Ways.vertex_at_stands, Ways.vertex_behind_stands, Ways.vertex_there}
pub use Rattle.mesh_core.specs.State.{FitsQueue, IsMesh, Setup, State, behind, behind_link, core, core_queue_of, input, nowhere, queue_at, vertex_behind}
pub use Rattle.mesh_core.specs.Step.{outputs}
pub use Rattle.mesh_run.specs.Crossing.{AreCuts, AreLaid, AreSameButEnds, Deals, HoldsCollected, HoldsNoEnds, IsLaid, IsOfCut, IsUncut, PutsEnd, SameButEnds}
pub use Rattle.mesh_run.specs.Floors.{AddsBehind, AreVerticesOf, IsBankOf, IsFloorOf, IsFloorSoFar, IsRouterOf, grid_size, live_if, live_one, place_of_slot, vertex_on, vertices_by}
pub use Rattle.mesh_run.specs.{Gathering.AreEmptied, Gathering.FitsLogs, Gathering.HasRoomForLogs, Gathering.IsAnyMoved, Gathering.IsEmptied, Homes.AreCutsOf, Homes.AreHomesOf, Homes.AreHomesTo}
pub use Rattle.mesh_run.specs.Homes.{AreShareRuns, HaveSenders, IsBefore, IsInTable, IsShareTable, MayCut, MayGrow, SetsSender, homes_of_ports, run_start}
pub use Rattle.mesh_run.specs.{Layouts.IsLayoutOf, Played.AreTurns, Played.IsDoneOn, Played.IsLiveIndex, Played.IsPlayedBy, Played.QueueGoes, Played.held_at, Played.owed_on, Played.place_behind}
pub use Rattle.mesh_run.specs.{Played.port_count, Played.queue_place_of, Played.vertex_place, Queues.AreEnds, Queues.AreUp, Queues.DownTo, Queues.HasPlaces, Queues.IsDown, Queues.IsUp, Queues.RestAll}
pub use Rattle.mesh_run.specs.{Queues.RestsAt, Queues.StayUp, Queues.UpAt, Queues.WasUp, Queues.free_places_of, Queues.is_empty, Queues.places_for, Queues.queue_of_link, Raised.IsRaisedFrom}
pub use Rattle.mesh_run.specs.{Raised.IsRoomyFrom, Raised.PlaysTo, Rooms.AreSameCopies, Rooms.SameCopies, Rooms.SameEnd, Shares.ActsAt, Shares.AreOf, Shares.DoesAt, Shares.IsInRun, Shares.IsNoted}
pub use Rattle.mesh_run.specs.Shares.{IsShareOf, MovesAt, PlaysAndStays, PlaysOne, PlaysRound, PlaysTurns, SharePlays, actor_of, bank_place, router_place}
pub use Rattle.mesh_run.specs.Split.{AreShared, HaveNoLogs, HoldLanes, HoldUnsent, cut_queues, end_at, end_in, unsent_at, unsent_in}
pub use Rattle.mesh_run.specs.Splitting.{AreInside, AreSameButUnsent, AreSameHolds, AreSameRuns, FitHomes, HoldNothing, IsEmptyHand, MayPutLane, MayTakeLane, MovesIn, MovesOut, PutsUnsent}
pub use Rattle.mesh_run.specs.{Splitting.SameButCopies, Splitting.SameButUnsent, Splitting.SameRun, Splitting.SetsQueue, Splitting.SetsUnsent, Standing.HoldsAll, Standing.LacksEnds, Standing.RisenTo}
pub use Rattle.mesh_run.specs.declared.{floors.Floor.Floor, gathering.MeshLogs.MeshLogs, homes.Cut.Cut, homes.Home.Home, queues.Rested.Rested, raised.RaisedMesh.RaisedMesh, shares.Share.Share}
pub use Rattle.mesh_run.specs.declared.standing.{Rising.Rising, Standing.Standing}
pub use Rattle.spin_base.proofs.{Counts.count_by-append, Counts.count_by-map, Equality.chip_eq_same, Equality.out_eq_same, Members.Among, Members.Contains-at, Members.Contains-filter_map}
pub use Rattle.spin_base.proofs.{Members.Contains-from_filter_map, Members.among_either, Members.among_map, Members.contains_among, Once.outs_once, Outputs.out_number_below}
pub use Rattle.spin_base.proofs.{Outputs.out_number_injective, Pairs.All-from_map, Pairs.AllPairs-apart, Places.All-at, Places.All-each, Places.both_none, Places.one_item_at, Places.set-slice_get}
pub use Rattle.spin_base.proofs.Places.{slice_get-append_left, slice_get-mapped, slice_get-push_cases, slice_get-pushed, slice_get-set_other, slice_get-set_same, slice_get_there, take_more_at}
pub use Rattle.spin_base.proofs.{Spots.dir_number-dir_at, Spots.out_of-has_bit, Spots.same_link, Tests.answers_none}
pub use Rattle.spin_base.specs.{Equality.chip_eq, Equality.out_eq, Hops.last_hop, Links.dir_at, Links.opposite_of, Links.port_number, Lookup.lookup, Outputs.IsOutput, Outputs.all_outs, Outputs.has}
pub use Rattle.spin_base.specs.{Outputs.out_number, Outputs.out_of, Outputs.outs_of, WithRoom.WithRoom, declared.blocks.Entry.Entry, declared.chips.Chip.Chip, declared.chips.Dir.Dir}
pub use Rattle.spin_base.specs.declared.{chips.Port.Port, chips.Port.TheVariants.Link as ByLink, chips.Port.TheVariants.Local, chips.Spot.Spot, copies.McCopy.McCopy, routes.Out.Out}
pub use Rattle.spin_base.specs.declared.routes.Out.TheVariants.{Core}
pub use Rattle.std.proofs.Common.{Bool, Err, List, None, Ok, OnErr, Option, Result, Some, [], ap, append-nil, append_assoc, ap₂, arith, count_by, drop, false, get_or, if◌then◌else◌, inl, inr, length}
pub use Rattle.std.proofs.Common.{length-append, map, min, nat_eq, refl, replicate, rules, set, subst, suc, sym, take, true, zero, ℕ, ◌%◌, ◌&&◌, ◌*◌, ◌++◌, ◌+◌, ◌-◌, ◌/◌, ◌<◌, ◌==◌, ◌^◌, ◌||◌, ◌∙◌}
pub use Rattle.std.proofs.Common.{◌∷◌, ◌≡◌, ◌≢◌, ◌≤◌, ◌⊎◌}
pub use Rattle.std.proofs.{Math.Nat.mul-le-mul_left, Math.Seq.drop-append_seam, Math.Seq.take-append_seam, lemmas.Bool.cases_Bool, lemmas.Bool.cases_eq, lemmas.Bool.cases_lt, lemmas.Bool.cond-false}
pub use Rattle.std.proofs.lemmas.{Bool.cond_both, Bool.eqb-true, Grind.flat_map-append, List.Elements.All-append, List.Elements.All-cons, List.Elements.All-contains, List.Elements.All-filter}
pub use Rattle.std.proofs.lemmas.List.{Elements.All-head, Elements.All-map, Elements.All-nil, Elements.All-push, Elements.All-replicate, Elements.All-tail, Elements.All-weaker, Folds.list_all_more}
pub use Rattle.std.proofs.lemmas.List.{FromFn.get_or-range_with_len, FromFn.length-range_with_len, Sums.sum_by-cons, get_or-append_right, get_or-map, get_or-replicate, get_or-set_other}
pub use Rattle.std.proofs.lemmas.List.{get_or-set_same, get_or_append_left, get_or_default, get_or_past, get_or_push, length-map, length-replicate, length-set, length_push, map-append, map-set}
pub use Rattle.std.proofs.lemmas.List.{same_from_push, same_lists, set-append_left, set-append_right, set-set, take-set-le, take_all, take_more, with_items_is}
pub use Rattle.std.proofs.lemmas.{Nat.div-add-mod', Nat.mod_below, Option.get_or_from_slice_get, Option.none-some, Option.same_Some, Option.slice_get-get_or, Option.slice_get_past}
pub use Rattle.std.proofs.lemmas.Option.{slice_get_within}
pub use Rattle.std.specs.{Global.Vec, List.All, List.AllPairs, List.flat_map, List.list_all, List.list_any, List.range_with_len, List.slice_get, List.slice_index_or, List.sum_by, Vec.with_items}
