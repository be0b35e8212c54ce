-- So far the places passed are counted for each bit.
use Rattle.cover_merge.proofs.Common.{take}
use Rattle.cover_merge.proofs.BitCounts.{AreKeptCounts}
use Rattle.cover_merge.proofs.refining.best_bit.Given as goal

abbrev pub invariant-loop-s : goal.invariant-loop-s
invariant-loop-s l = AreKeptCounts l.counts l.rows (take l.s-index l.places) l.fn.merged l.met
