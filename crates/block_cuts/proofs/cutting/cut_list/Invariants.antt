-- What is left to be cut gives what the whole gives.
use Rattle.std.proofs.Common.{◌≡◌, drop}
use Rattle.block_cuts.specs.Cuts.{cut, cut_from}
use Rattle.block_cuts.proofs.cutting.cut_list.Given as goal

abbrev pub invariant-loop-other : goal.invariant-loop-other
invariant-loop-other l = cut_from l.room l.block l.pieces.items (drop l.other-index l.others) ≡ cut l.room l.block l.others
