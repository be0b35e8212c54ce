-- The law, as the lemma says it.
use Rattle.plan_check.proofs.MadeRight.{made_right}
use Rattle.plan_check.proofs.laws.made_images_are_right.Goals as goal

pub returns : goal.returns
returns c = made_right
