use Rattle.link_queue.proofs.StepLemmas.{begins, tells}
use Rattle.link_queue.proofs.ups.new_queue.Goals as goal

pub ruled-requires-clause-rule : goal.ruled-requires-clause-rule
ruled-requires-clause-rule g c = begins

pub another-requires-clause-rule : goal.another-requires-clause-rule
another-requires-clause-rule g c = tells _ _ _ c.in_ok-queue.ensures.3
