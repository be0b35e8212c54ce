-- The names that the proofs of this crate cite from outside of them, passed on from one place. Declares nothing.
pub use Rattle.machine_desc.proofs.{Branches.length_le_from_apart, Far.index_below, Far.live_ends, Far.live_inside, Live.index_of-chip_of, Sites.site_parts}
pub use Rattle.machine_desc.specs.{Description.Description, Live.IsInside, Live.IsLiveChip, Live.IsSite, Live.chip_of, Live.far_of, Live.index_of, Live.is_live_chip, Live.is_live_link}
pub use Rattle.machine_desc.specs.{NetsOn.vertex_at, RightTables.table_at, declared.nets.NetPlan.NetPlan}
pub use Rattle.mesh_core.proofs.{Changes.queue_at-below, Events.event_exchange, EventsLaw.IsMesh-after_events, EventsLaw.event_keeps, EventsLaw.events_keep, FewMoves.few_come, Fixed.after_event_setup}
pub use Rattle.mesh_core.proofs.Fixed.{after_events-append, by_collect, by_dump, by_send, by_take, dumped_stays, push_behind_leaves, setup_after}
pub use Rattle.mesh_core.proofs.{Heavy.heavy_grows, Heavy.light, Heavy.one_heavy, Keeping.core_is_somewhere, Keeping.input_is_no_core, Keeping.input_is_somewhere, Keeping.same_core, Moves.Crosses}
pub use Rattle.mesh_core.proofs.{Moves.IsMove, Moves.mark, Queued.FreeBehind, Queued.free_behind, ServingLaws.vertex_at-below, Standing.StandsAt, Standing.held_mark, Standing.mark_stands}
pub use Rattle.mesh_core.proofs.{Standing.port_number-port_of, VertexTableLaws.same_spot_place, VertexTableLaws.site_inside, VertexTableLaws.spot_place-below, Ways.vertex_behind_stands}
pub use Rattle.mesh_core.proofs.Ways.{vertex_there}
pub use Rattle.mesh_core.specs.{Expected.IsAtRest, Expected.NothingWaits, HasRun.DropsNone, Ledger.marks_of, Ledger.port_of, Opened.AreOfNets, Opened.copy_from, Opened.empty_mesh, Opened.first_copy}
pub use Rattle.mesh_core.specs.{Opened.opened_mesh, State.FitsHand, State.FitsQueue, State.Hand, State.IsMesh, State.Queue, State.Setup, State.State, State.behind, State.behind_link, State.core}
pub use Rattle.mesh_core.specs.{State.core_queue_of, State.input, State.nowhere, State.queue_at, State.vertex_behind, Step.after_event, Step.after_events, Step.after_serving, Step.answer}
pub use Rattle.mesh_core.specs.Step.{collect_of, dump_of, has_room, has_room_behind, in_hand, inject_of, outputs, outs_without, push_at, push_behind, send_of, serves, step_of, take_of}
pub use Rattle.mesh_core.specs.Trail.{IsUnderWayAt, Mark, Station, at_core, delivered, dumped, in_hand as held_at, in_queue, unsent}
pub use Rattle.mesh_core.specs.{VertexTable.spot_place, Waiting.queue_of, declared.places.Did.Did, declared.places.Did.TheVariants.Idle, declared.places.Did.TheVariants.Moved}
pub use Rattle.mesh_drain.specs.Draining.{AreCollected, AreRoutedAlike, DropsAtNoVertex, HasBrought, IsAfter, IsMoved, IsOnward, IsReachedDropless, IsReachedOnward, IsSameBesidesCores}
pub use Rattle.mesh_drain.specs.Draining.{LeadsToNoVertex, MaySend, MeetsSomeLedger, SendAlone, SendsNone, collected_from, of_packet}
pub use Rattle.mesh_drain.specs.{Opening.source_vertex_of, UnderWay.IsServing, UnderWay.WaitsAlone, UnderWay.far_port, UnderWay.next_place, UnderWay.outs_in, UnderWay.stage, UnderWay.times}
pub use Rattle.mesh_drain.specs.{UnderWay.weight_in, UnderWay.work, Waiting.HasCopies, Waiting.IsNextOut, Waiting.IsWaiting, declared.draining.Waiting.Waiting}
pub use Rattle.mesh_drain.specs.declared.waiting.Waits.{TheVariants.AtPort, TheVariants.InCore, TheVariants.InHand, Waits}
pub use Rattle.spin_base.proofs.{Counts.count_by-append, Counts.count_by-cons, Equality.nat_eq_same, Equality.out_eq_same, Exchange.PutIn, Exchange.TakenOut, Exchange.among_taken_out, Members.Among}
pub use Rattle.spin_base.proofs.{Members.among_any, Members.among_contains, Members.among_only, Members.contains_among, Outputs.dir_number_below, Pairs.All-left, Pairs.All-right, Places.All-at}
pub use Rattle.spin_base.proofs.{Places.enumerate_push, Places.set-slice_get, Places.set_put_back, Places.slice_get-set_other, Places.slice_get-set_same, Places.slice_get_there, Ranges.set-map_range}
pub use Rattle.spin_base.proofs.{Ranges.slice_get-map_range, Spots.dir_at-dir_number}
pub use Rattle.spin_base.specs.{Equality.out_eq, Hops.last_hop, Hops.onward, Links.dir_at, Links.dir_number, Links.opposite_of, Links.port_number, Lookup.lookup, Outputs.outs_of}
pub use Rattle.spin_base.specs.declared.{blocks.Entry.Entry, chips.Chip.Chip, chips.Dir.Dir, chips.Port.Port, chips.Port.TheVariants.Link as ByLink, chips.Port.TheVariants.Local, chips.Spot.Spot}
pub use Rattle.spin_base.specs.declared.copies.{Delivery.Delivery, DumpRec.DumpRec, Event.Event, Event.TheVariants.Collect, Event.TheVariants.Dump, Event.TheVariants.Inject, Event.TheVariants.Send}
pub use Rattle.spin_base.specs.declared.{copies.Event.TheVariants.Take, copies.McCopy.McCopy, copies.Packet.Packet, routes.Out.Out, routes.Out.TheVariants.Core, routes.Out.TheVariants.Link}
pub use Rattle.spin_base.specs.declared.wants.Memory.{Memory}
pub use Rattle.std.proofs.Common.{Bool, IfNone, IfSome, List, None, Option, Some, [], ap, append-nil, arith, cond, drop, false, get_or, if◌then◌else◌, inl, inr, length, map, min, nat_lt, not, refl}
pub use Rattle.std.proofs.Common.{replicate, rules, set, subst, suc, sym, take, true, zero, ℕ, ◌%◌, ◌&&◌, ◌*◌, ◌++◌, ◌+◌, ◌-◌, ◌/◌, ◌<◌, ◌==◌, ◌^◌, ◌||◌, ◌∙◌, ◌∷◌, ◌≡◌, ◌≢◌, ◌≤◌}
pub use Rattle.std.proofs.{Math.Nat.mul-le-mul_left, Math.Seq.drop-cons, lemmas.Bool.and_from, lemmas.Bool.cases_Bool, lemmas.Bool.cases_eq, lemmas.Bool.cases_order, lemmas.Bool.eq-eqb}
pub use Rattle.std.proofs.lemmas.{Bool.eqb-true, Bool.lt-ltb, Bool.ltb-false, Bool.ltb-true, Bool.ne_eqb, List.Elements.All-append, List.Elements.All-cons, List.Elements.All-contains}
pub use Rattle.std.proofs.lemmas.List.{Elements.All-head, Elements.All-nil, Elements.All-set, Elements.All-tail, Elements.All-weaker, Elements.filter_map-append, Sums.sum_by-append, Sums.sum_by-cons}
pub use Rattle.std.proofs.lemmas.List.{append_assoc, drop_all, drop_at, get_or-map, get_or-set_other, get_or-set_same, get_or_default, get_or_past, length-append, length-map, length-take-le}
pub use Rattle.std.proofs.lemmas.{List.map-append, List.map-set, List.set-get_or, List.take_more, Option.get_or_from_slice_get, Option.none-some, Option.same_Some, Option.slice_get-get_or}
pub use Rattle.std.proofs.lemmas.Option.{slice_get-map, slice_get_within}
pub use Rattle.std.specs.List.{All, Contains, cons_option, enumerate_from, filter_map, list_any, range_with_len, slice_get, slice_index_or, slice_set, sum_by}
pub use Rattle.std.specs.{Option.option_map, Option.option_to_list, Prelude.Err, Prelude.Ok, Prelude.OnOk, Prelude.Result, Prelude.is_some, Prelude.unwrap_or}
