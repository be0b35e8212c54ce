-- The names that the proofs of this crate cite from outside of them, passed on from one place. Declares nothing.
pub use Rattle.app_graph.specs.declared.graphs.Net.{Net}
pub use Rattle.machine_desc.specs.{Description.Description, Live.chip_of, declared.nets.NetPlan.NetPlan}
pub use Rattle.mesh_core.proofs.{DeliveredLaw.delivered_as_expected, ExpectedList.in_order_is_list}
pub use Rattle.mesh_core.specs.{Expected.IsAtRest, Expected.IsDeliveryNotAfter, Expected.expected_deliveries, Expected.without_hop, Opened.MeetsJobLedger, State.IsMesh, State.State}
pub use Rattle.mesh_core.specs.declared.places.{Did.Did, Place.Place, Place.TheVariants.CoreQueue, Place.TheVariants.Hand}
pub use Rattle.run_report.specs.{Keys.delivery_numbers, Keys.dump_numbers, Keys.wait_numbers, Listed.vertex_names, Named.named_delivery, Orders.IsSortedStably, ReportText.did_word}
pub use Rattle.run_report.specs.{ReportText.event_front, ReportText.event_line, ReportText.got_line, ReportText.row_total, ReportText.tens_digits, RunReport.IsDeliveredOf, RunReport.chip_waits}
pub use Rattle.run_report.specs.RunReport.{copies_at, core_waits, delivery_key, dump_key, queue_waits, unsent_by, waits_at}
pub use Rattle.spin_base.proofs.{Gathering.gathered_more, Places.zip_more}
pub use Rattle.spin_base.specs.{Gathered.gathered, declared.blocks.ChipTable.ChipTable, declared.chips.Spot.Spot, declared.copies.Delivery.Delivery, declared.copies.DumpRec.DumpRec}
pub use Rattle.spin_base.specs.declared.copies.{McCopy.McCopy, Packet.Packet}
pub use Rattle.std.proofs.Common.{All, Bool, Equal, List, Ordering, Some, [], ap, append-nil, append_assoc, ap₂, arith, codes, eq-eqb, eq-zero-or-pos, false, get_or, if◌then◌else◌, inl, inr, is_lt}
pub use Rattle.std.proofs.Common.{length, map, map-id, min, nat_cmp, ne_eqb, refl, replicate, rules, subst, suc, sum_by, sym, take, zero, ℕ, ◌%◌, ◌*◌, ◌++◌, ◌+◌, ◌-◌, ◌/◌, ◌<◌, ◌^◌, ◌∙◌, ◌∷◌, ◌≡◌}
pub use Rattle.std.proofs.Common.{◌≤◌}
pub use Rattle.std.proofs.{Math.Seq.take-append-add, lemmas.Cmp.nat_list_cmp_total, lemmas.Cmp.ranked, lemmas.Fmt.decimal_digit, lemmas.Fmt.decimal_step, lemmas.List.Elements.All-head}
pub use Rattle.std.proofs.lemmas.List.{Elements.All-tail, Folds.flat_map-map, FromFn.map-range_with_len_more, FromFn.sum_by-map-range_with_len_more, Sorted.answers_always, Sorted.ranks_by}
pub use Rattle.std.proofs.lemmas.{List.Sorted.sorted_far, List.Sums.sum_by-cons, List.flat_map_more, List.map_push, List.take_all, List.take_more, Nat.mul-le, Option.slice_get-get_or}
pub use Rattle.std.proofs.lemmas.Option.{slice_get-map}
pub use Rattle.std.specs.{Cmp.Lexicographic.slice_cmp, Fmt.decimal, Fmt.digit_glyph, Fmt.digits_onto, Fmt.format_spec, List.AllPairs, List.Sorted.IsPermutation, List.Sorted.IsSortedBy}
pub use Rattle.std.specs.List.{Sorted.IsSortedByKey, Sorted.IsStableBy, Sorted.IsStableByKey, flat_map, range_with_len, slice_get, slice_index_or, zip}
pub use Rattle.std.specs.Ordering.{MatchOrdering, ordering_then}
pub use Rattle.table_load.specs.{Images.IsTable, Images.IsValid, declared.tables.Image.Image}
