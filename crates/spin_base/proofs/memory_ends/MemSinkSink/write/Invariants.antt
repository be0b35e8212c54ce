use Rattle.std.proofs.Common.{◌≡◌, ◌++◌, ◌+◌, take}
use Rattle.spin_base.proofs.memory_ends.MemSinkSink.write.Given as goal

abbrev pub invariant-loop-byte : goal.invariant-loop-byte
invariant-loop-byte l = record {
  items : l.self.room.items ≡ l.initial.self.room.items ++ take l.byte-index l.byte-items;
  spare : l.self.room.spare + l.byte-index ≡ l.initial.self.room.spare;
  failing : l.self.failing ≡ l.initial.self.failing;
  calls : l.self.calls ≡ l.initial.self.calls;
  faults : l.self.faults ≡ l.initial.self.faults;
  piece : l.self.piece ≡ l.initial.self.piece;
}
