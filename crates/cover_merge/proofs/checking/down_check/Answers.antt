-- After the up-check this one tells whether the table after the merge is sound.
use Rattle.cover_merge.proofs.Common.{arith}
use Rattle.cover_merge.proofs.Legal.{legal_from_checks, down_from_legal}
use Rattle.cover_merge.proofs.checking.down_check.Goals as goal

pub returns-clause-passes : goal.returns-clause-passes
returns-clause-passes c = grind arith

pub returns-clause-legal : goal.returns-clause-legal
returns-clause-legal c = λ sound up.
    let rows = c.args.set.rows.now in
    let places = c.args.set.places.now in
    let within = c.args.set.inside in (
      λ t. legal_from_checks rows places sound within up ((returns-clause-passes c).0 t),
      λ legal. (returns-clause-passes c).1 (down_from_legal rows places sound within legal),
    )
