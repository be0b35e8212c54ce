-- The names that the proofs of this crate cite from outside of them, passed on from one place. Declares nothing.
pub use Rattle.machine_desc.proofs.Branches.{ComesBy, ExitLeads, branch_inside, branch_short, comes_by, end_on_branch, exit_leads, exit_of, last_exit, length_le_from_apart, link_on_branch, same_exit}
pub use Rattle.machine_desc.proofs.{Branches.same_place, Branches.way_first, Far.far_inside, Far.index_below, Far.live_back, Far.live_ends, Far.live_inside, Far.same_index, Live.index_of-chip_of}
pub use Rattle.machine_desc.proofs.{Same.same_spot, Sites.end_is_no_live_link, Sites.same_site, Sites.site_parts, TreeLemmas.one_edge_into, Wanted.edge_wanted, Wanted.end_wanted, Wanted.spot_of_out}
pub use Rattle.machine_desc.proofs.Wanted.{wanted_cases}
pub use Rattle.machine_desc.specs.{Branch.Exit, Branch.IsBranch, Branch.arrival_at, Description.Description, Description.HasSize, Live.IsInside, Live.IsLiveChip, Live.IsLiveLink, Live.IsSite}
pub use Rattle.machine_desc.specs.{Live.chip_of, Live.far_of, Live.index_of, Live.is_live_chip, Live.is_live_link, NetsOn.AreNetsOn, NetsOn.HaveDisjointBlocks, NetsOn.IsWayOn, NetsOn.vertex_at}
pub use Rattle.machine_desc.specs.{Outputs.ComesIn, Outputs.is_wanted, Outputs.leads_to_spot, RightTables.AreRight, RightTables.IsKeyOf, RightTables.RoutesByTree, RightTables.table_at}
pub use Rattle.machine_desc.specs.{RoutingTree.IsRoutingTree, RoutingTree.end_of, declared.nets.NetPlan.NetPlan, declared.trees.Edge.Edge}
pub use Rattle.mesh_core.specs.Expected.{AreAsExpected, IsAskedFor, IsAtRest, IsDeliveryNotAfter, deliveries_of, delivery_at, expected_count, expected_deliveries, targets_of_net, without_hop}
pub use Rattle.mesh_core.specs.{HasRun.DropsNone, Ledger.Asked, Ledger.Label, Ledger.MeetsLedger, Ledger.MeetsLedgerFor, Ledger.OnlyUnderWay, Ledger.all_hand_marks, Ledger.core_marks}
pub use Rattle.mesh_core.specs.Ledger.{delivered_marks, dumped_marks, hand_marks, input_marks, label_of, marks_at, marks_of, port_of, unsent_marks}
pub use Rattle.mesh_core.specs.Opened.{AreOfNets, MeetsJobLedger, asked_at, asked_by, asked_in, copy_from, empty_mesh, first_copy, label_in, opened_mesh, unsent_of}
pub use Rattle.mesh_core.specs.{PutBack.after_put_back, PutBack.put_back_of, Queues.drop_front, Queues.front_of, Searches.IsEdgeInto, Searches.IsFound, Searches.IsMarkThere, Searches.IsOfCore}
pub use Rattle.mesh_core.specs.{Searches.IsOfOutput, Searches.IsOfPort, Searches.is_held, Searches.port_behind, Serving.cores_after, Serving.hands_after, Serving.inputs_after, State.FitsHand}
pub use Rattle.mesh_core.specs.State.{FitsQueue, Hand, IsMesh, Queue, Setup, State, behind, behind_link, core, core_queue_of, input, nowhere, queue_at, vertex_behind}
pub use Rattle.mesh_core.specs.Step.{after_event, after_events, after_serving, answer, collect_of, dump_of, has_room, has_room_behind, in_hand as held_for, outputs, outs_without, push_at, push_behind}
pub use Rattle.mesh_core.specs.{Step.send_of, Step.serves, Step.step_of, Step.take_of, Trail.IsUnderWayAt, Trail.Mark, Trail.Station, Trail.at_core, Trail.comes_in_there, Trail.delivered}
pub use Rattle.mesh_core.specs.{Trail.dumped, Trail.in_hand, Trail.in_queue, Trail.is_on_trail, Trail.is_packet_on_trail, Trail.leaves_there, Trail.on_trail, Trail.unsent, VertexTable.IsSpotPlace}
pub use Rattle.mesh_core.specs.{VertexTable.TellsVertices, VertexTable.spot_place, Waiting.queue_of, Whereabouts.IsFoundThere, Whereabouts.IsTracked, Whereabouts.IsWhere, Whereabouts.TellsStation}
pub use Rattle.mesh_core.specs.{Whole.state_of, declared.places.Did.Did, declared.places.Did.TheVariants.Idle, declared.places.Did.TheVariants.Moved, declared.places.Place.TheVariants.CoreQueue}
pub use Rattle.mesh_core.specs.declared.places.{Place.TheVariants.Hand as HandAt, Place.TheVariants.InQueue, Where.TheVariants.At, Where.TheVariants.Delivered, Where.TheVariants.Dumped}
pub use Rattle.mesh_core.specs.declared.places.Where.{TheVariants.Unsent, Where}
pub use Rattle.spin_base.proofs.{Counts.count_by-agree, Counts.count_by-append, Counts.count_by-cons, Counts.count_by-map, Counts.count_by-none, Equality.chip_eq_same, Equality.chip_eq_true}
pub use Rattle.spin_base.proofs.Equality.{out_eq_same, out_eq_true, port_eq_same, port_eq_true, port_number_injective, spot_eq_same, spot_eq_true}
pub use Rattle.spin_base.proofs.Exchange.{PutIn, TakenOut, among_taken_out, count_put_in, count_taken_out, put_in_after, put_in_before, taken_out_after, taken_out_before}
pub use Rattle.spin_base.proofs.Gathering.{among_chosen, among_gathered, among_gathered_from, among_made, chosen_among, count_chosen_none, count_chosen_one, count_made_one, gathered_among}
pub use Rattle.spin_base.proofs.{Gathering.gathered_nothing, Gathering.gathered_of_none, Gathering.made_among, Members.Among, Members.Contains-filter, Members.Contains-unmap, Members.among_any}
pub use Rattle.spin_base.proofs.Members.{among_contains, among_either, among_filter, among_left, among_map, among_only, among_right, any_among, contains_among, map_among, position_nowhere}
pub use Rattle.spin_base.proofs.{Members.position_there, Once.outs_once, Outputs.dir_number_below, Outputs.no_high_bit, Pairs.AllPairs-apart, Pairs.AllPairs-head, Pairs.AllPairs-tail, Places.All-at}
pub use Rattle.spin_base.proofs.{Places.All-each, Places.set-slice_get, Places.slice_get-mapped, Places.slice_get-set_other, Places.slice_get-set_same, Places.slice_get_there, Spots.dir_at-dir_number}
pub use Rattle.spin_base.proofs.Spots.{out_of-core, out_of-device, out_of-has_bit, spot_of_core, spot_of_link}
pub use Rattle.spin_base.specs.{Equality.chip_eq, Equality.out_eq, Equality.port_eq, Equality.spot_eq, Gathered.gathered, Hops.last_hop, Hops.onward, Links.dir_number, Links.opposite_of}
pub use Rattle.spin_base.specs.{Links.port_number, Lookup.lookup, Outputs.IsOutput, Outputs.all_outs, Outputs.has, Outputs.out_of, Outputs.outs_of, declared.blocks.Entry.Entry}
pub use Rattle.spin_base.specs.declared.chips.{Chip.Chip, Dir.Dir, Dir.TheVariants.East, Dir.TheVariants.North, Dir.TheVariants.NorthEast, Dir.TheVariants.South, Dir.TheVariants.SouthWest}
pub use Rattle.spin_base.specs.declared.{chips.Dir.TheVariants.West, chips.Port.Port, chips.Port.TheVariants.Link as ByLink, chips.Port.TheVariants.Local, chips.Spot.Spot, copies.Delivery.Delivery}
pub use Rattle.spin_base.specs.declared.copies.{DumpRec.DumpRec, Event.Event, Event.TheVariants.Collect, Event.TheVariants.Dump, Event.TheVariants.Inject, Event.TheVariants.Send}
pub use Rattle.spin_base.specs.declared.{copies.Event.TheVariants.Take, copies.McCopy.McCopy, copies.Packet.Packet, routes.Out.Out, routes.Out.TheVariants.Core, routes.Out.TheVariants.Link}
pub use Rattle.spin_base.specs.declared.routes.Route.{Route}
pub use Rattle.std.proofs.Common.{Bool, IsNone, IsTrue, List, None, Option, Some, [], ap, append-nil, arith, cond, count_by, false, get_or, if◌then◌else◌, inl, inr, is_some, length, map, min, nat_lt}
pub use Rattle.std.proofs.Common.{not, option_to_list, refl, rules, set, subst, suc, sym, take, true, zero, zero-add, ℕ, ◌%◌, ◌&&◌, ◌*◌, ◌++◌, ◌+◌, ◌-◌, ◌/◌, ◌<◌, ◌==◌, ◌^◌, ◌||◌, ◌↔◌, ◌∙◌, ◌∷◌, ◌≡◌}
pub use Rattle.std.proofs.Common.{◌≢◌, ◌≤◌, ◌⊎◌}
pub use Rattle.std.proofs.{Math.Bool.and-false, Math.Nat.add-zero, Math.Nat.mul-le-mul_left, lemmas.Bool.and_from, lemmas.Bool.and_parts, lemmas.Bool.cases_eq, lemmas.Bool.cases_order}
pub use Rattle.std.proofs.lemmas.{Bool.eq-eqb, Bool.eqb-false, Bool.eqb-true, Bool.lt-ltb, Bool.ltb-false, Bool.ltb-true, Bool.ne_eqb, Iterator.Adapters.position_from-zero, List.Elements.All-contains}
pub use Rattle.std.proofs.lemmas.List.Elements.{All-head, All-map, All-nil, All-push, All-replicate, All-set, All-tail, Contains-get_or}
pub use Rattle.std.proofs.lemmas.List.{FromFn.get_or-range_with_len, FromFn.length-map-range_with_len, FromFn.length-range_with_len, Quantifiers.position-Some, Sorted.Contains-permutation}
pub use Rattle.std.proofs.lemmas.List.{Sorted.IsPermutation-sym, Sorted.sum_by-IsPermutation, Sums.count_by-le-length, Sums.length-filter, Sums.sum_by-cons, get_or-replicate, get_or-take}
pub use Rattle.std.proofs.lemmas.List.{get_or_default, length-append, length-map, length-replicate, length-set, length-take-le, length_push, map-append, same_lists, set-set, take_more, with_items_is}
pub use Rattle.std.proofs.lemmas.Option.{get_or_from_slice_get, none-some, same_Some, slice_get-get_or, slice_get_within}
pub use Rattle.std.specs.{Cmp.both_ways, Int.bit_at, List.All, List.Contains, List.Sorted.IsPermutation, List.filter, List.list_any, List.position_from, List.range_with_len, List.slice_get}
pub use Rattle.std.specs.{List.slice_index_or, List.slice_set, List.sum_by, Option.option_map_or, Prelude.AllPairs, Prelude.Err, Prelude.IfOk, Prelude.IfSome, Prelude.Ok, Prelude.OnErr, Prelude.OnOk}
pub use Rattle.std.specs.{Prelude.Result, Prelude.position, Prelude.remove, Prelude.replicate, Prelude.unwrap_or, Vec.with_item, Vec.with_items}
