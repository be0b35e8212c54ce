use Rattle.std.proofs.Common.{◌≡◌, ◌+◌, ◌≤◌, length}
use Rattle.crossbeam_queue.specs.Passes.{view, IsPassOf, ruled_capacity}
use Rattle.link_queue.specs.Ups.{PoppedTo}
use Rattle.link_queue.proofs.ups.link_down.Given as goal

-- as many copies as turns were popped, into the room
abbrev pub invariant-loop : goal.invariant-loop
invariant-loop g l =
    IsPassOf l.queue l.pass × PoppedTo (view l.initial.pass) l.room.items (view l.pass)
    × (length l.room.items ≡ l.counter) × (ruled_capacity l.queue ≤ l.room.spare + l.counter)
