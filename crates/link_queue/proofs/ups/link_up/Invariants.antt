use Rattle.std.proofs.Common.{take}
use Rattle.crossbeam_queue.specs.Passes.{view, IsPassOf, ruled_capacity}
use Rattle.link_queue.specs.Ups.{ListPlaced}
use Rattle.link_queue.proofs.ups.link_up.Given as goal

-- the number that is told is the queue's capacity
abbrev pub ghosts-new_queue : goal.ghosts-new_queue
ghosts-new_queue g a = record { cap = a.first.now.cap }

-- the copies so far are placed
abbrev pub invariant-loop-copy : goal.invariant-loop-copy
invariant-loop-copy g l = IsPassOf l.queue l.pass × ListPlaced (ruled_capacity l.queue) (take l.copy-index l.fn.first.list) (view l.pass)
