-- The names that the proofs of this crate cite from outside of them, passed on from one place. Declares nothing.
pub use Rattle.chip_node.specs.Items.{Item, Service, brought, delivered_of, deliveries, dumped_of, entered, entered_by, getting_of, gettings, got, injection_place, left, left_by, lost, lost_at}
pub use Rattle.chip_node.specs.Items.{lost_by, port_place, recorded, records, sending_of, sendings, sent, sent_by, sent_in, served, service_of, services, taking_of, takings, took, where_same}
pub use Rattle.chip_node.specs.{Items.where_there, declared.ends.Served.Served, declared.ends.Served.TheVariants.Dumped, declared.ends.Served.TheVariants.Sent}
pub use Rattle.machine_desc.proofs.{Branches.ExitLeads, Branches.comes_by, Branches.exit_leads, Branches.same_place, Branches.way_first, Far.far_back, Far.far_inside, Far.index_below, Far.live_back}
pub use Rattle.machine_desc.proofs.{Far.live_ends, Far.live_inside, Far.opposite_of-opposite, Live.chip_of-index_of, Live.chip_of-inside, Live.index_of-chip_of, Sites.end_is_no_live_link}
pub use Rattle.machine_desc.proofs.{Sites.same_site, Sites.site_parts, TreeLemmas.tree_cases, TreeLemmas.tree_end}
pub use Rattle.machine_desc.specs.{Branch.Exit, Branch.IsBranch, Branch.arrival_at, Description.Description, Live.IsInside, Live.IsLiveChip, Live.IsLiveLink, Live.IsSite, Live.chip_of, Live.far_of}
pub use Rattle.machine_desc.specs.{Live.grid_chips, Live.index_of, Live.is_live_chip, Live.is_live_link, NetsOn.AreNetsOn, NetsOn.IsWayOn, RightTables.AreRight, RightTables.IsKeyOf}
pub use Rattle.machine_desc.specs.{RightTables.table_at, RoutingTree.IsRoutingTree, RoutingTree.IsTreeChip, RoutingTree.end_of, declared.nets.NetPlan.NetPlan}
pub use Rattle.mesh_core.proofs.{AskedPackets.IsAsked, AskedPackets.asked_of_net, AskedPackets.asked_parts, AskedPackets.net_in_list, Changes.port_below, Changes.queue_at-below, Counting.count_all}
pub use Rattle.mesh_core.proofs.{Counting.count_covered, Counting.counted, Events.arrives, EventsLaw.IsMesh-after_put_back, EventsLaw.put_back_keeps, EventsLaw.put_back_keeps_job, EventsLaw.same_room}
pub use Rattle.mesh_core.proofs.{FewMoves.few_come, Heavy.heavy_grows, Heavy.light, Heavy.one_heavy, Keeping.core_is_somewhere, Keeping.input_is_no_core, Keeping.input_is_somewhere}
pub use Rattle.mesh_core.proofs.{Keeping.same_input, Law.comes_from, Law.comes_parts, Law.leaves_parts, Law.move_comes, Law.move_counts, LedgerLaw.Bag, LedgerLaw.IsRight, LedgerLaw.Moved}
pub use Rattle.mesh_core.proofs.LedgerLaw.{bag_adds_no_packet, bag_keeps_ledger, bag_keeps_packets, count_come, count_left, one_net, right_before, right_come, stands}
pub use Rattle.mesh_core.proofs.{MarkTests.below_last, MarkTests.mark_eq, MarkTests.mark_eq_same, MarkTests.mark_eq_true, MarkTests.move_raises, MarkTests.rank, Moves.Crosses, Moves.IsMove}
pub use Rattle.mesh_core.proofs.{Moves.IsMoveOf, Moves.dumped_out, Moves.mark, Moves.port_of-port_number, Moves.station_of_queue, Standing.dumped_mark, Standing.port_number-port_of, Ways.Stands}
pub use Rattle.mesh_core.proofs.Ways.{leads_to, one_place, some_way, vertex_at_stands, vertex_behind_stands, vertex_behind_there}
pub use Rattle.mesh_core.specs.{Expected.IsAtRest, Ledger.Asked, Ledger.Label, Ledger.MeetsLedger, Ledger.MeetsLedgerFor, Ledger.all_hand_marks, Ledger.all_ports, Ledger.core_marks}
pub use Rattle.mesh_core.specs.Ledger.{delivered_marks, dumped_marks, hand_marks, input_marks, label_of, marks_at, marks_of, port_of, unsent_marks}
pub use Rattle.mesh_core.specs.{Opened.MeetsJobLedger, Opened.asked_by, Opened.opened_mesh, PutBack.after_put_back, PutBack.put_back_of, State.FitsHand, State.FitsQueue, State.Hand, State.IsMesh}
pub use Rattle.mesh_core.specs.{State.Queue, State.Setup, State.State, State.behind, State.behind_link, State.core, State.input, State.nowhere, State.queue_at, State.vertex_behind, Step.has_room}
pub use Rattle.mesh_core.specs.{Step.has_room_behind, Step.outputs, Step.push_behind, Trail.Mark, Trail.Station, Trail.at_core, Trail.delivered, Trail.dumped, Trail.in_hand, Trail.in_queue}
pub use Rattle.mesh_core.specs.{Trail.is_on_trail, Trail.is_packet_on_trail, Trail.leaves_there, Trail.on_trail, Trail.unsent, declared.places.Did.TheVariants.Idle}
pub use Rattle.mesh_round.specs.{Bound.HasMovingRounds, Bound.MoveEach, Bound.most_moves, Bound.moves_of_packet, Bound.rounds_in, OnThreads.HasSome, OnThreads.LeadsByFlow, OnThreads.LeadsByRound}
pub use Rattle.mesh_round.specs.{OnThreads.MayGoOn, OnThreads.MeshOnLayout, OnThreads.has_none, OnThreads.holds_none, Reinjecting.HasPasses, Reinjecting.put_back, Reinjecting.put_back_answer}
pub use Rattle.mesh_round.specs.{Reinjecting.round, RoundFlow.Flow, RoundFlow.HasMoved, RoundFlow.HasNoHand, RoundFlow.HasRounds, RoundFlow.IsQueueOf, RoundFlow.IsRound, RoundFlow.Passes}
pub use Rattle.mesh_round.specs.RoundFlow.{WasFullAt, at_port, capacity_of, delivered_to, dumped_at, got_on, held_in, leaves_by, more, none, none as no_round, none as no_rounds, of_chip, sent_on}
pub use Rattle.mesh_round.specs.{RoundFlow.taken_for, Work.moves_left, Work.to_go, Work.work_in}
pub use Rattle.mesh_run.proofs.Apart.{by_wire, elsewhere, first_here, here, no_injection, not_there, one_output, port_is_no_vertex, there}
pub use Rattle.mesh_run.specs.{Layouts.IsLayoutOf, Played.IsDoneOn, Played.IsLiveIndex, Played.IsPlayedBy, Played.IsVertexOn, Played.QueueGoes, Played.held_at, Played.owed_on, Played.place_behind}
pub use Rattle.mesh_run.specs.{Played.port_count, Played.queue_place_of, Played.vertex_place, Raised.IsRaisedFrom, Raised.PlaysTo, Shares.IsNoted, declared.paces.Pace.Pace}
pub use Rattle.mesh_run.specs.declared.raised.RaisedMesh.{RaisedMesh}
pub use Rattle.spin_base.proofs.{Counts.count_by-append, Counts.count_by-cons, Equality.chip_eq_same, Equality.chip_eq_true, Equality.link_is_not_local, Equality.nat_eq_same, Equality.out_eq_same}
pub use Rattle.spin_base.proofs.{Equality.out_eq_true, Equality.port_eq_same, Equality.port_eq_true, Exchange.PutIn, Exchange.TakenOut, Gathering.among_gathered, Gathering.gathered_among}
pub use Rattle.spin_base.proofs.{Gathering.gathered_of_none, Members.Among, Members.Contains-filter, Members.among_any, Members.among_at, Members.among_contains, Members.among_either}
pub use Rattle.spin_base.proofs.Members.{among_filter, among_left, among_map, among_only, among_right, any_among, contains_among, map_among}
pub use Rattle.spin_base.proofs.{Once.all_once, Once.outs_once, Pairs.All-flat_map, Pairs.All-from_flat_map, Pairs.All-left, Pairs.All-right, Pairs.AllPairs-apart, Places.All-at, Places.All-each}
pub use Rattle.spin_base.proofs.{Places.both_none, Places.slice_get_there, Spots.out_of-has_bit, Tests.answers_none}
pub use Rattle.spin_base.specs.{Equality.chip_eq, Equality.out_eq, Equality.port_eq, Gathered.gathered, Hops.last_hop, Hops.onward, Links.opposite_of, Links.port_number, Lookup.lookup}
pub use Rattle.spin_base.specs.{Outputs.IsOutput, Outputs.all_outs, Outputs.has, Outputs.out_of, Outputs.outs_of, declared.blocks.Block.Block, declared.chips.Chip.Chip, declared.chips.Dir.Dir}
pub use Rattle.spin_base.specs.declared.{chips.Port.Port, chips.Port.TheVariants.Link as ByLink, chips.Port.TheVariants.Local, chips.Spot.Spot, copies.Delivery.Delivery, copies.DumpRec.DumpRec}
pub use Rattle.spin_base.specs.declared.{copies.McCopy.McCopy, copies.Packet.Packet, routes.Out.Out, routes.Out.TheVariants.Link, wants.Memory.Memory}
pub use Rattle.std.proofs.Common.{Bool, List, None, Option, Some, [], add-one, ap, ap₂, arith, cond, count_by, drop, false, get_or, if◌then◌else◌, inl, inr, is_some, length, map, min, nat_lt, not}
pub use Rattle.std.proofs.Common.{refl, replicate, rules, subst, suc, sym, take, true, unwrap_or, zero, zero-add, ℕ, ◌%◌, ◌&&◌, ◌*◌, ◌++◌, ◌+◌, ◌-◌, ◌/◌, ◌<◌, ◌==◌, ◌∙◌, ◌∷◌, ◌≡◌, ◌≢◌, ◌≤◌, ◌⊎◌}
pub use Rattle.std.proofs.{Math.Nat.mul-le-mul_left, Math.Seq.drop-append_seam, Math.Seq.take-append_seam, lemmas.Bool.and_from, lemmas.Bool.and_parts, lemmas.Bool.cases_Bool, lemmas.Bool.cases_eq}
pub use Rattle.std.proofs.lemmas.Bool.{cases_lt, cases_order, cond-false, cond-true, cond_both, eq-eqb, eqb-true, false_from_ne_true, le-ltb, lt-ltb, ltb-true, ne_eqb, true≢false}
pub use Rattle.std.proofs.lemmas.{Grind.flat_map-append, List.Concat.flat_map_single, List.Elements.All-append, List.Elements.All-cons, List.Elements.All-contains, List.Elements.All-head}
pub use Rattle.std.proofs.lemmas.List.{Elements.All-nil, Elements.All-replicate, Elements.All-tail, Elements.filter-append, FromFn.length-range_with_len, Sorted.All-permutation}
pub use Rattle.std.proofs.lemmas.List.Sorted.{IsPermutation-append_comm, IsPermutation-append_left, IsPermutation-append_right, IsPermutation-cons, IsPermutation-map, IsPermutation-middle}
pub use Rattle.std.proofs.lemmas.List.{Sorted.IsPermutation-refl, Sorted.IsPermutation-sym, Sorted.IsPermutation-trans, Sorted.length_permutation, Sorted.sum_by-IsPermutation, Sums.count_by-le-length}
pub use Rattle.std.proofs.lemmas.List.{Sums.length-filter, Sums.sum_by-append, Sums.sum_by-cons, append-nil, append_assoc, get_or-append-add, get_or_append_left, get_or_default, get_or_past}
pub use Rattle.std.proofs.lemmas.{List.length-append, List.length-map, List.length-replicate, List.map-append, List.same_lists, Option.get_or_from_slice_get, Option.none-some, Option.same_Some}
pub use Rattle.std.proofs.lemmas.{Option.slice_get-get_or, Option.slice_get_within, Result.IfErr-weaker, Result.IfOk-weaker}
pub use Rattle.std.specs.{Cmp.both_ways, List.All, List.Contains, List.Sorted.IsPermutation, List.filter, List.flat_map, List.list_all, List.list_any, List.range_with_len, List.slice_get}
pub use Rattle.std.specs.{List.slice_index_or, List.sum_by, Prelude.Err, Prelude.IfErr, Prelude.IfOk, Prelude.IfSome, Prelude.Ok, Prelude.Result, Prelude.bit_and, Prelude.◌^◌}
