-- What was tried stays so in the table after the merge, where each row has its times.
use Rattle.cover_merge.proofs.Common.{AreNoLater, AreTriedUpTo, after, ap, length, subst, sym, ◌∙◌}
use Rattle.cover_merge.proofs.PairLemmas.{carried_length, marks_carried, latest_carried}
use Rattle.cover_merge.proofs.carrying.carry_times.Goals as goal

pub returns-clause-one_each : goal.returns-clause-one_each
returns-clause-one_each c =
    let m = c.args.merge in
    ap length c.replace_all.ensures ∙ carried_length m.rows.now m.gaps.places.now m.sound m.legal.set m.legal.legal c.args.times.now.items c.changed.result c.requires m.gaps.place m.place_is

pub returns-clause-marks : goal.returns-clause-marks
returns-clause-marks c tried touched =
    let m = c.args.merge in
    subst (AreTriedUpTo c.args.now (after m.rows.now m.gaps.places.now)) (sym c.replace_all.ensures)
    (marks_carried m.rows.now m.gaps.places.now m.sound m.legal.set m.legal.legal c.args.times.now.items c.changed.result c.requires m.gaps.place m.place_is
    c.args.now c.changed.ensures touched tried)

pub returns-clause-latest : goal.returns-clause-latest
returns-clause-latest c routes latest old own =
    let m = c.args.merge in
    subst (AreNoLater routes latest (after m.rows.now m.gaps.places.now)) (sym c.replace_all.ensures)
    (latest_carried m.rows.now m.gaps.places.now m.sound m.legal.set m.legal.legal c.args.times.now.items c.changed.result c.requires m.gaps.place m.place_is
    c.args.now c.changed.ensures routes latest old own)
