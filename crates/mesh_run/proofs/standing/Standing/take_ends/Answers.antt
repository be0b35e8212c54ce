use Rattle.mesh_run.proofs.Common.{LinkEnds}
use Rattle.mesh_run.proofs.Slots.{slot_stands, end_taken}
use Rattle.mesh_run.proofs.standing.Standing.take_ends.Goals as goal

pub take_at-requires : goal.take_at-requires
take_at-requires c =
    (c.requires.1.tx, slot_stands (λ (e : LinkEnds). e.tx) c.requires.0 c.args.self.now.txs.items c.args.place c.requires.1 c.requires.2.txs c.requires.3)

pub take_at-requires-2 : goal.take_at-requires-2
take_at-requires-2 c =
    (c.requires.1.rx, slot_stands (λ (e : LinkEnds). e.rx) c.requires.0 c.args.self.now.rxs.items c.args.place c.requires.1 c.requires.2.rxs c.requires.3)

pub returns-clause-ends : goal.returns-clause-ends
returns-clause-ends c = λ ends old holds at. (
  end_taken (λ (e : LinkEnds). e.tx) ends c.args.self.now.txs.items c.args.place old c.take_at.result holds.txs at c.take_at.ensures.stood,
  end_taken (λ (e : LinkEnds). e.rx) ends c.args.self.now.rxs.items c.args.place old c.take_at-2.result holds.rxs at c.take_at-2.ensures.stood,
)
