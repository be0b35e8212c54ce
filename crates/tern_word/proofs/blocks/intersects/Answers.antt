-- The test is that the blocks agree on the bits for which both care.
use Rattle.std.proofs.lemmas.Bool.{eqb-true, eq-eqb}
use Rattle.tern_word.proofs.BlockLaws.{meet_where_agree, agree_where_meet}
use Rattle.tern_word.proofs.blocks.intersects.Goals as goal

pub returns : goal.returns
returns c = (λ t. meet_where_agree c.args.a c.args.b (eqb-true _ _ t), λ meet. eq-eqb _ _ (agree_where_meet c.args.a c.args.b meet))
