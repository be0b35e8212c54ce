-- Only the places behind count.
use Rattle.cover_merge.proofs.SiftLemmas.{passes_behind}
use Rattle.cover_merge.proofs.refining.passes_at.Goals as goal

pub returns : goal.returns
returns c = passes_behind c.args.route.table.rows.now c.args.route.places.now c.args.route.one_route c.args.k c.requires _ c.passes.result c.passes.ensures
