-- The next route takes the place of the greatest where it beats it.
use Rattle.cover_merge.proofs.Common.{refl, sym, ◌∙◌}
use Rattle.cover_merge.proofs.KeepLemmas.{most_new}
use Rattle.cover_merge.proofs.keeping.greater.Goals as goal

pub returns-then-beats : goal.returns-then-beats
returns-then-beats c routes all old inside bits kept =
    most_new routes all c.args.c c.args.most old c.in-Some.it (kept ∙ c.in-Some.is) c.args.bits (sym bits) _ refl refl refl inside c.if-beats.ensures
