use Rattle.std.proofs.Common.{arith}
-- The names that the proofs of this crate cite from outside of them, passed on from one place. Declares nothing.
pub use Rattle.chip_node.specs.Acting.{BankActs, BankMoves, CannotGet, GetsOne, HalfActs, IsReadyBank, IsReadyRouter, IsUnsentAt, RoutesOne, SendsOne, ServesOuts, place_at_router, place_in}
pub use Rattle.chip_node.specs.{Acting.service_items, Acting.turn_of_both, Ends.IsInEndOf, Ends.IsOutEndOf, Going.AreEndsOf, Going.EndGoes, Going.EndHasRoom, Going.EndStays, Going.Goes}
pub use Rattle.chip_node.specs.Going.{HasAmpleRoom, HoldsSender, IsEndOf, IsFullEnd, IsFullMoment, IsIdle, IsIdleAt, IsSending, LaneGoes, SenderGoes, Stays, TakerGoes}
pub use Rattle.chip_node.specs.Items.{Item, Service, brought, delivered_of, deliveries, dumped_of, entered, entered_by, got, injection_place, left, left_by, lost, lost_at, lost_by, port_place}
pub use Rattle.chip_node.specs.{Items.recorded, Items.records, Items.sent, Items.sent_by, Items.sent_in, Items.served, Items.took, Items.where_same, Offers.RefusesOffers, Offers.Sends as SendsOffer}
pub use Rattle.chip_node.specs.Passing.{EndLacks, EndRefuses, EndSends, EndServes, EndTakes, IsSeen, SendsBehind, SendsThere}
pub use Rattle.chip_node.specs.{Routing.outputs_at, Taking.AreOuts, Taking.HasRoomBehind, Taking.HasRoomForOuts, Taking.HasRoomIn, Taking.Looks, declared.ends.End.End}
pub use Rattle.chip_node.specs.declared.ends.{End.TheVariants.Away, End.TheVariants.Own, End.TheVariants.Sends, End.TheVariants.Takes, InEnd.InEnd, OutEnd.OutEnd, Seen.TheVariants.Front}
pub use Rattle.chip_node.specs.declared.{ends.Served.Served, ends.Served.TheVariants.Dumped, ends.Served.TheVariants.Sent, holdings.Holdings.Holdings, holdings.Turn.TheVariants.Moved}
pub use Rattle.chip_node.specs.declared.{holdings.Turn.TheVariants.Nothing, holdings.Turn.TheVariants.Waits, holdings.Turn.Turn, nodes.Behind.Behind, nodes.CoreBank.CoreBank}
pub use Rattle.chip_node.specs.declared.{nodes.RouterNode.RouterNode, routers.Look.Look, routers.Look.TheVariants.Empty, routers.Look.TheVariants.NoRoom, routers.Look.TheVariants.Took}
pub use Rattle.link_queue.specs.{Ends.IsRx, Ends.IsTx, Ends.sending, Ends.taking, Moves.RefusesOffer, TheRule.put_of, declared.known.Known.Known, declared.links.Link.Link, declared.links.Rx.Rx}
pub use Rattle.link_queue.specs.declared.links.Tx.{Tx}
pub use Rattle.spin_base.proofs.{Outputs.dir_number_below, Outputs.out_number_below, Places.All-at, Places.All-each, Places.one_item_at, Places.slice_get-set_other, Places.slice_get-set_same}
pub use Rattle.spin_base.proofs.Places.{slice_get_there}
pub use Rattle.spin_base.specs.{Hops.last_hop, Hops.onward, Links.dir_number, Links.port_number, Lookup.lookup, Outputs.IsOutput, Outputs.all_outs, Outputs.has, Outputs.out_number, Outputs.outs_of}
pub use Rattle.spin_base.specs.{WithRoom.WithRoom, declared.blocks.Entry.Entry, declared.chips.Chip.Chip, declared.chips.Dir.TheVariants.East, declared.chips.Dir.TheVariants.North}
pub use Rattle.spin_base.specs.declared.chips.{Dir.TheVariants.NorthEast, Dir.TheVariants.South, Dir.TheVariants.SouthWest, Dir.TheVariants.West, Port.Port, Port.TheVariants.Local}
pub use Rattle.spin_base.specs.declared.{copies.Delivery.Delivery, copies.DumpRec.DumpRec, copies.McCopy.McCopy, routes.Out.Out, routes.Out.TheVariants.Core, routes.Route.Route}
pub use Rattle.std.proofs.Common.{Bool, List, None, Option, Some, [], ap, append-nil, append_assoc, arith, cond, false, filter, get_or, inl, inr, length, length-append, map, option_to_list, refl}
pub use Rattle.std.proofs.Common.{replicate, set, slice_set, subst, suc, sym, take, true, zero, ℕ, ◌%◌, ◌*◌, ◌++◌, ◌+◌, ◌<◌, ◌==◌, ◌∙◌, ◌∷◌, ◌≡◌, ◌≢◌, ◌≤◌, ◌⊎◌}
pub use Rattle.std.proofs.{Math.ListN.length-set, lemmas.Bool.cases_eq, lemmas.Bool.cases_lt, lemmas.Bool.cond-false, lemmas.Bool.cond-true, lemmas.Bool.eq-eqb, lemmas.Bool.ne_eqb}
pub use Rattle.std.proofs.lemmas.{Grind.flat_map-append, List.Elements.All-append, List.Elements.All-cons, List.Elements.All-contains, List.Elements.All-filter, List.Elements.All-map}
pub use Rattle.std.proofs.lemmas.List.{Elements.All-nil, Elements.All-replicate, Elements.All-set, Elements.All-weaker, get_or-set_other, get_or-set_same, get_or_default, length-map, length-replicate}
pub use Rattle.std.proofs.lemmas.{List.map-append, List.replicate_more, List.take_all, List.take_more, List.take_rest, Option.get_or_from_slice_get, Option.same_Some, Option.slice_get-get_or}
pub use Rattle.std.proofs.lemmas.Option.{slice_get_read, slice_get_within}
pub use Rattle.std.specs.{List.All, List.AllPairs, List.AllWithin, List.Contains, List.range_with_len, List.slice_get, List.slice_index_or, Option.IfSome, Option.IsNone, Prelude.IsTrue}
