-- The names that the proofs of this crate cite from outside of them, passed on from one place. Declares nothing.
pub use Rattle.app_graph.specs.declared.graphs.Vertex.{Vertex}
pub use Rattle.job_readers.proofs.{ItemSteps.items-fail, ItemSteps.items-more, ItemSteps.items-none, ItemSteps.values-more, NoFaults.none_first, NoFaults.none_inside}
pub use Rattle.job_readers.specs.{Items.items_faults, Job.job_own_faults, Members.list_member}
pub use Rattle.job_requests.specs.{Steps.first_machine_alone, Steps.is_load, Steps.kept_step, Steps.step_faults, Steps.step_value, Steps.without_machine, Valid.HasFirstMachine, Valid.IsValidStep}
pub use Rattle.job_requests.specs.declared.steps.Step.{Step, TheVariants.Load, TheVariants.Run, TheVariants.Unload}
pub use Rattle.job_text.specs.{Fields.number_faults, Fields.number_value, Fields.object_value, Fields.range_unless, Members.member_of, Paths.item_at, Paths.member_at, Paths.path_text}
pub use Rattle.serde_json.specs.{Data.Data, View.view}
pub use Rattle.spin_base.proofs.{Members.Contains-unmap, Places.All-each}
pub use Rattle.std.proofs.Common.{Bool, List, None, Option, Some, [], ap, arith, drop, get_or, length, length-append, map, refl, subst, sym, take, take_all, true, unwrap_or, ℕ, ◌++◌, ◌+◌, ◌<◌, ◌||◌}
pub use Rattle.std.proofs.Common.{◌∙◌, ◌∷◌, ◌≡◌, ◌≤◌}
pub use Rattle.std.proofs.{Math.Bool.or-false, lemmas.Bool.and_parts, lemmas.Bool.leb-true, lemmas.Bool.lt-leb, lemmas.List.Elements.All-push, lemmas.List.Folds.list_any-append}
pub use Rattle.std.proofs.lemmas.{List.map-append, Result.err_from_is_err_and}
pub use Rattle.std.specs.{List.All, List.list_any, Prelude.codes, Prelude.is_some}
