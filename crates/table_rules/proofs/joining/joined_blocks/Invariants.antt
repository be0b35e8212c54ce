-- The blocks that were read, joined.
use Rattle.table_rules.proofs.Common.{joined_blocks, take, ◌≡◌}
use Rattle.table_rules.proofs.joining.joined_blocks.Given as goal

abbrev pub invariant-loop-block : goal.invariant-loop-block
invariant-loop-block l = l.joined.items ≡ joined_blocks l.behind (take l.block-index l.blocks)
