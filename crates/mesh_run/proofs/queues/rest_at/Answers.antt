use Rattle.mesh_run.proofs.Common.{IsRx, IsTx, Link, subst}
use Rattle.mesh_run.proofs.Resting.{lent_there, rests_there}
use Rattle.mesh_run.proofs.queues.rest_at.Goals as goal

pub invariant_of-lent : goal.invariant_of-lent
invariant_of-lent g c =
    let r = c.requires in
    let both =
    lent_there r.0 c.args.place r.1 c.take_ends-tx.new.self c.index.result.now c.take_ends-tx.result.0 c.take_ends-tx.result.1 r.3 r.4 (c.take_ends-tx.ensures.ends r.0 r.1 r.2 r.3)
    (c.take_ends-tx.ensures.left r.0 r.2) c.index.ensures in
    record { sends = both.0; takes = both.1 }

pub returns : goal.returns
returns g c = λ ends old holds at.
    let r = c.requires in
    let link = c.rest-tx.ensures.link in
    let lacks = c.take_ends-tx.ensures.left ends holds in
    rests_there ends r.0 c.args.place old r.1 c.args.standing.now c.take_ends-tx.new.self c.put_ends.new.self c.index.result.now c.take_ends-tx.result.0 c.rest-tx.result.tx
    c.take_ends-tx.result.1 c.rest-tx.result.rx
    c.rest-tx.result.held holds at r.2 r.3 r.4 (c.take_ends-tx.ensures.ends ends old holds at) lacks c.index.ensures
    (subst (λ (l : Link). IsTx l c.rest-tx.result.tx) link c.rest-tx.result.sends) (subst (λ (l : Link). IsRx l c.rest-tx.result.rx) link c.rest-tx.result.takes) c.rest-tx.ensures.rests
    (c.put_ends.ensures ends old lacks at)
