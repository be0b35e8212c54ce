use Rattle.std.proofs.Common.{arith, inr, length-take-le}
use Rattle.spin_base.proofs.Bytes.{gives_nothing, gives_then, gives_end, gives_too_many, loses_too_many, loses_few, rose_since}
use Rattle.spin_base.proofs.reading.read_all.Goals as goal

pub loop-count-init : goal.loop-count-init
loop-count-init g c = grind (arith, gives_nothing)

pub returns-in-Err-clause-fault : goal.returns-in-Err-clause-fault
returns-in-Err-clause-fault g c = λ _. rose_since _ _ _ (omega (arith, c.loop-count.invariant.counted)) c.in-Err.ensures.failed

pub returns-then-count-eq0-clause-all : goal.returns-then-count-eq0-clause-all
returns-then-count-eq0-clause-all g c = grind (arith, gives_end _ _ _ _ _ _ c.loop-count.invariant.gives c.in-Ok.ensures.reads c.if-count-eq0.true)

pub returns-then-count-eq0-clause-lost : goal.returns-then-count-eq0-clause-lost
returns-then-count-eq0-clause-lost g c = (_, gives_then _ _ _ _ _ c.loop-count.invariant.gives c.in-Ok.ensures.reads.gives)

pub returns-then-count-limit-clause-too_long : goal.returns-then-count-limit-clause-too_long
returns-then-count-limit-clause-too_long g c = grind (arith, gives_too_many)

pub returns-then-count-limit-clause-past_limit : goal.returns-then-count-limit-clause-past_limit
returns-then-count-limit-clause-past_limit g c = grind (arith, loses_too_many)

pub returns-then-count-limit-clause-lost : goal.returns-then-count-limit-clause-lost
returns-then-count-limit-clause-lost g c = (_, gives_then _ _ _ _ _ c.loop-count.invariant.gives c.in-Ok.ensures.reads.gives)

pub loop-count-preserved : goal.loop-count-preserved
loop-count-preserved g c = grind (arith, gives_then _ _ _ _ _ c.loop-count.invariant.gives c.in-Ok.ensures.reads.gives, length-take-le)

pub returns-in_err-extend_from_slice-clause-lost :
    goal.returns-in_err-extend_from_slice-clause-lost
returns-in_err-extend_from_slice-clause-lost g c = (_, gives_then _ _ _ _ _ c.loop-count.invariant.gives c.in-Ok.ensures.reads.gives)

pub returns-in_err-extend_from_slice-clause-up_to_limit :
    goal.returns-in_err-extend_from_slice-clause-up_to_limit
returns-in_err-extend_from_slice-clause-up_to_limit g c =
    inr (loses_few _ _ _ _ c.read.new.buffer c.in-Ok.count c.args.limit c.loop-count.invariant.gives c.in-Ok.ensures.reads.gives
    (omega (arith, c.in-Ok.ensures.count)) (omega arith))
