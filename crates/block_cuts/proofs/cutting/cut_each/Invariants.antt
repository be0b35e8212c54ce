-- What is left of the pieces that were read.
use Rattle.std.proofs.Common.{◌≡◌, take}
use Rattle.std.specs.List.{flat_map}
use Rattle.block_cuts.specs.Cuts.{apart_of}
use Rattle.block_cuts.proofs.cutting.cut_each.Given as goal

abbrev pub invariant-loop-piece : goal.invariant-loop-piece
invariant-loop-piece l = l.left.items ≡ flat_map (apart_of l.other) (take l.piece-index l.pieces)
