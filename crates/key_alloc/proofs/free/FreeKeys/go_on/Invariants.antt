use Rattle.key_alloc.proofs.Common.{AreKeysFreeBeside, Block, List, ◌-◌, ◌≤◌}
use Rattle.key_alloc.proofs.free.FreeKeys.go_on.Given as goal

-- the same blocks are taken, and the frontier is not before its start
abbrev pub invariant-loop-self : goal.invariant-loop-self
invariant-loop-self l = record {
  free : (taken : List Block) → AreKeysFreeBeside taken l.initial.self → AreKeysFreeBeside taken l.self;
  further : l.initial.self.frontier ≤ l.self.frontier;
}

abbrev pub decreases-loop-self : goal.decreases-loop-self
decreases-loop-self l = 4294967296 - l.self.frontier
