use Rattle.spin_jobs.proofs.Tracing.{one_event_more}
use Rattle.spin_jobs.proofs.runs.take_events.Goals as goal

pub loop-event-preserved : goal.loop-event-preserved
loop-event-preserved c =
    one_event_more _ _ _ _ _ _ _ _ _ c.loop-event-test.true c.loop-event.invariant c.in_ok-step.ensures.moves c.in_ok-step.ensures.answer c.in_ok-step.ensures.setup_stays c.in_ok-push.ensures.ok
