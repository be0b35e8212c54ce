-- The greatest of the routes so far.
use Rattle.cover_merge.proofs.Common.{IsMostBefore}
use Rattle.cover_merge.proofs.keeping.most_of.Given as goal

abbrev pub invariant-loop-c : goal.invariant-loop-c
invariant-loop-c l = IsMostBefore l.routes l.kept l.c l.most
