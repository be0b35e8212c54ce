-- The merge has the number of its first row.
use Rattle.cover_merge.proofs.Common.{AreNumbers, after, subst, sym}
use Rattle.cover_merge.proofs.LinkLemmas.{numbers_after}
use Rattle.cover_merge.proofs.links.carry_numbers.Goals as goal

pub returns : goal.returns
returns c routes numbers =
    let m = c.args.merge in
    subst (AreNumbers routes (after m.rows.now m.gaps.places.now)) (sym c.replace_all.ensures)
    (numbers_after routes m.rows.now c.args.numbers.now.items numbers m.gaps.places.now m.sound.ordered m.legal.set m.gaps.place c.index-number.result.now m.place_is c.index-number.ensures)
