use Rattle.std.proofs.Common.{ℕ, ◌<◌, suc, zero, List, refl, arith}
use Rattle.spin_base.specs.declared.copies.Event.{Event}
use Rattle.mesh_core.specs.{Step.after_events, Opened.MeetsJobLedger, Whereabouts.IsTracked}
use Rattle.mesh_core.proofs.{EventsLaw.events_keep_job, OpenedLaw.opened_meets_ledger}
use Rattle.mesh_example.specs.Board.{setup, net, other_net, nets, packets, opened}
use Rattle.mesh_example.proofs.{Stands.stands, Stands.mesh_stands, Stands.packets_of_nets, Right.tables_right, Right.wrong_not_right, Tracked.job_tracked}
use Rattle.mesh_example.proofs.the_example_meets_the_definitions.Goals as goal

keeps : (events : List Event) → MeetsJobLedger (after_events opened events) nets packets
keeps events = events_keep_job opened nets packets mesh_stands tables_right (opened_meets_ledger setup nets packets stands packets_of_nets) events

tracks : (events : List Event) (i : ℕ) → i < 2 → IsTracked (after_events opened events) net i
tracks events zero lt = job_tracked (after_events opened events) nets packets (keeps events) 0 (record { net = 0; index = 0; payload = _ }) net refl refl
tracks events (suc zero) lt = job_tracked (after_events opened events) nets packets (keeps events) 1 (record { net = 0; index = 0; payload = _ }) net refl refl
tracks events (suc (suc i)) lt = absurd (omega (arith, lt))

pub returns-clause-is_mesh : goal.returns-clause-is_mesh
returns-clause-is_mesh c = mesh_stands

pub returns-clause-stands : goal.returns-clause-stands
returns-clause-stands c = stands

pub returns-clause-right_tables : goal.returns-clause-right_tables
returns-clause-right_tables c = λ k d lt. tables_right k d lt

pub returns-clause-wrong_tables : goal.returns-clause-wrong_tables
returns-clause-wrong_tables c = λ right_chip. wrong_not_right right_chip

pub returns-clause-of_nets : goal.returns-clause-of_nets
returns-clause-of_nets c = λ i p at. packets_of_nets i p at

pub returns-clause-ledger : goal.returns-clause-ledger
returns-clause-ledger c = λ events. keeps events

pub returns-clause-tracked : goal.returns-clause-tracked
returns-clause-tracked c = λ events i lt. tracks events i lt

pub returns-clause-tracked_to_device : goal.returns-clause-tracked_to_device
returns-clause-tracked_to_device c = λ events. job_tracked (after_events opened events) nets packets (keeps events) 2 (record { net = 1; index = 0; payload = _ }) other_net refl refl
