-- The list of pieces is what pieces are.
use Rattle.block_cuts.proofs.PieceLaws.{are_pieces, few_pieces}
use Rattle.block_cuts.proofs.cutting.cut.Goals as goal

pub returns-clause-pieces : goal.returns-clause-pieces
returns-clause-pieces c = are_pieces c.args.room c.args.block c.args.others.now _ c.in_ok-cut.ensures

pub returns-clause-few : goal.returns-clause-few
returns-clause-few c = few_pieces c.args.room c.args.block c.args.others.now _ c.in_ok-cut.ensures
