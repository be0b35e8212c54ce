-- So far the merge is that of the first block and those passed.
use Rattle.std.proofs.Common.{◌≡◌, ◌+◌, take}
use Rattle.tern_word.specs.Ternary.{merge_of}
use Rattle.tern_word.proofs.blocks.merge_of.Given as goal

abbrev pub invariant-loop-b : goal.invariant-loop-b
invariant-loop-b l = l.merged ≡ merge_of (take (l.b-index + 1) l.blocks)
