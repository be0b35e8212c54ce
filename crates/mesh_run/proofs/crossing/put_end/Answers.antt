use Rattle.mesh_run.proofs.Common.{End, ap, refl, set}
use Rattle.mesh_run.proofs.CrossingLaws.{end_set, read_end}
use Rattle.mesh_run.proofs.crossing.put_end.Goals as goal

pub returns-clause-put : goal.returns-clause-put
returns-clause-put c =
    let r = read_end c.args.shares.now.items c.args.share c.args.queue c.requires.0 c.index_mut-2.result.now c.index_mut.result.now c.requires.1 c.index_mut.ensures.value
    c.index_mut-2.ensures.value in
    end_set c.args.shares.now.items _ c.args.share c.args.queue c.index_mut.result.now _ c.index_mut-2.result.now c.args.end r.0 r.1 refl refl refl refl refl refl refl
    (ap (λ (e : End). set c.index_mut.result.now.hold.ends.items c.args.queue e) c.replace.ensures.after)
