-- The names that the proofs of this crate cite from outside of them, passed on from one place. Declares nothing.
pub use Rattle.app_graph.specs.{RunPart.IsPacketOf, RunPart.IsRunOf, declared.graphs.Graph.Graph, declared.graphs.Net.Net, declared.graphs.RunPart.RunPart}
pub use Rattle.default_routes.specs.declared.stripping.Final.{Final}
pub use Rattle.job_gen.proofs.{DrawnLaws.is_drawn, Fitting.gen_joined, Fitting.gen_keys, Fitting.gen_queue, Fitting.gen_room, ListReading.length-numbered}
pub use Rattle.job_gen.specs.{Draws.drawn, Generated.gen_job, Generated.net_of}
pub use Rattle.job_readers.specs.declared.jobs.Job.{Job}
pub use Rattle.key_alloc.specs.KeyBlocks.{HasKeys}
pub use Rattle.machine_desc.specs.{Description.Description, Live.index_of, NetsOn.AreNetsOn, RightTables.AreRight, RightTables.IsKeyOf, declared.nets.NetPlan.NetPlan}
pub use Rattle.mesh_core.proofs.{DeliveredLaw.delivered_as_expected, EventsLaw.events_keep_job, ExpectedList.in_order_is_list, OpenedLaw.opened_meets_ledger}
pub use Rattle.mesh_core.specs.{Expected.AreAsExpected, Expected.IsAtRest, Expected.NothingWaits, Expected.expected_deliveries, Expected.without_hop, Opened.AreOfNets, Opened.MeetsJobLedger}
pub use Rattle.mesh_core.specs.{Opened.opened_mesh, PutBack.after_put_back, State.Hand, State.IsMesh, State.Setup, State.State, Step.after_event, Step.after_events, Step.answer, Step.answers_of}
pub use Rattle.mesh_core.specs.declared.places.{Did.Did, Place.Place}
pub use Rattle.mesh_drain.specs.Opening.{CanOpen}
pub use Rattle.mesh_round.proofs.Sums.{sum_none}
pub use Rattle.mesh_round.specs.{Bound.LeadsSoon, Bound.rounds_in, OnThreads.MayGoOn, Reinjecting.HasPasses, Reinjecting.none as no_pass, Reinjecting.put_back as by_putting_back}
pub use Rattle.mesh_round.specs.{Reinjecting.round as by_round, RoundFlow.HasNoHand, RoundFlow.HasRounds, RoundFlow.more, RoundFlow.none}
pub use Rattle.par_compile.proofs.Refusing.{refused_where}
pub use Rattle.par_compile.specs.{Compiled.HasCutOff, Compiled.HasLongTable, Compiled.HasPlacement, Compiled.IsCompileCause, Compiled.IsPlanOf, Compiled.blocks_of, Finals.loaded_of}
pub use Rattle.par_compile.specs.declared.compiling.CompileErr.{CompileErr, TheVariants.CutOff, TheVariants.KeysOut, TheVariants.Memory, TheVariants.NoRoom, TheVariants.TableLong}
pub use Rattle.par_compile.specs.declared.compiling.Plan.{Plan}
pub use Rattle.run_report.proofs.{GotLines.got_lines, GotLines.none_after, Listing.few_rows}
pub use Rattle.run_report.specs.{Listed.placed_of, ReportText.dump_line, ReportText.event_lines, ReportText.got_line, ReportText.keys_line, ReportText.line, ReportText.place_line}
pub use Rattle.run_report.specs.{ReportText.report_text, ReportText.row_total, ReportText.summary_text, ReportText.table_lines, ReportText.wait_line, RunReport.IsDeliveredOf, RunReport.IsReportOf}
pub use Rattle.run_report.specs.RunReport.{chip_waits, copies_at, held_waits, named_delivery, unsent_total, waits_at, waits_of}
pub use Rattle.run_report.specs.declared.{causes.Refusal.Refusal, reports.Report.Report}
pub use Rattle.spin_base.proofs.Places.{All-at, AllZip-at_first, one_item_at, take_more_at}
pub use Rattle.spin_base.specs.{Gathered.gathered, declared.blocks.Block.Block, declared.blocks.ChipTable.ChipTable, declared.blocks.Entry.Entry, declared.chips.Chip.Chip, declared.chips.Spot.Spot}
pub use Rattle.spin_base.specs.declared.{copies.Delivery.Delivery, copies.DumpRec.DumpRec, copies.Event.Event, copies.McCopy.McCopy, copies.Packet.Packet, wants.Memory.Memory as NoMemory}
pub use Rattle.spin_jobs.specs.{Parts.WhereGiven, Parts.WhereRun, Parts.parts_with, Parts.plan_parts, Parts.run_parts, Planned.IsMeshOf, Planned.IsPlanOfJob, Planned.IsThePlan}
pub use Rattle.spin_jobs.specs.{Planned.IsValidWithPlan, Planned.JobWithPlan, Planned.opened_of, Planned.setup_of, Planned.tables_image, Reinjecting.HasKeptPasses, Reinjecting.HasReinjected}
pub use Rattle.spin_jobs.specs.{Reinjecting.opened as first_opened, Reinjecting.put_back as then_put_back, Reinjecting.round as then_round, Runs.HasKeptRounds, Runs.HasLostNothing, Runs.HasRunOut}
pub use Rattle.spin_jobs.specs.{Runs.IsReachedSoon, Runs.IsRoomy, Runs.full_report, Runs.kept_in, Runs.opened, Runs.round, Unplanned.CanBePlanned, Unplanned.HasBlocks, Unplanned.HasNoPlan}
pub use Rattle.spin_jobs.specs.{Unplanned.IsNameIn, Unplanned.Names, Unplanned.refusal_of, Words.Images, Words.IsMadeOf, Words.IsReported, Words.IsRunKept, Words.IsTraced, Words.Lists, Words.Makes}
pub use Rattle.spin_jobs.specs.{Words.Reports, Words.Summarises, Words.TellsRun, Words.generated, Words.imaged, Words.listed, Words.ran, Words.reinjected, Words.traced, declared.outcomes.Parts.Parts}
pub use Rattle.spin_jobs.specs.declared.outcomes.WordOutput.{WordOutput}
pub use Rattle.spin_words.specs.declared.commands.JobWord.{JobWord, TheVariants.Gen, TheVariants.Reinject, TheVariants.Run, TheVariants.Trace}
pub use Rattle.std.proofs.Common.{Err, IfOk, List, None, Ok, Option, Result, Some, [], ap, arith, codes, decimal, length, map, refl, rules, subst, suc, sym, take, ℕ, ◌++◌, ◌+◌, ◌-◌, ◌<◌, ◌^◌, ◌∙◌}
pub use Rattle.std.proofs.Common.{◌∷◌, ◌≡◌, ◌≤◌, ◌⊎◌}
pub use Rattle.std.proofs.lemmas.{List.Elements.All-replicate, List.Sorted.length_permutation, List.length-map, List.nil_from_length, Option.get_or_from_slice_get, Option.slice_get-get_or}
pub use Rattle.std.proofs.lemmas.{Option.slice_get-map, Result.IfOk-weaker}
pub use Rattle.std.specs.{List.All, List.Sorted.IsPermutation, List.flat_map, List.slice_get, List.slice_index_or, Option.option_map, Prelude.min}
pub use Rattle.table_load.specs.{Images.Spells, declared.tables.Image.Image}
