-- What is left of the routes passed is apart from the block.
use Rattle.cover_merge.proofs.Common.{AreStillKept, IsApart, ◌<◌}
use Rattle.cover_merge.proofs.keeping.forget_near.Given as goal

abbrev pub invariant-loop-c : goal.invariant-loop-c
invariant-loop-c l = AreStillKept (λ k it. k < l.c → IsApart l.merged it) l.fn.kept.items l.kept.items
