use Rattle.spin_jobs.proofs.Common.{after_events, answers_of, take, ◌≡◌}
use Rattle.spin_jobs.proofs.runs.take_events.Given as goal

-- the mesh and the answers after the events so far
abbrev pub invariant-loop-event : goal.invariant-loop-event
invariant-loop-event l =
    (l.mesh ≡ after_events l.fn.mesh (take l.event-index l.events)) × (l.did ≡ answers_of l.fn.mesh (take l.event-index l.events))
    × (l.mesh.setup ≡ l.fn.mesh.setup)
