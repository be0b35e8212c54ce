-- What a contract sees of a source and a sink in memory.
use Rattle.std.specs.Prelude.{ℕ, List, drop}
use Rattle.spin_base.specs.declared.memory_ends.MemSource.{MemSource}
use Rattle.spin_base.specs.declared.memory_ends.MemSink.{MemSink}

-- the bytes still to come
abbrev pub source_left : MemSource → List ℕ
source_left s = drop s.place s.bytes

abbrev pub source_fault_count : MemSource → ℕ
source_fault_count s = s.faults

-- how many bytes it gives at most in one call
abbrev pub source_piece : MemSource → ℕ
source_piece s = s.piece

-- how many calls there were
abbrev pub source_calls : MemSource → ℕ
source_calls s = s.calls

-- the numbers of the calls that fail
abbrev pub source_failing : MemSource → List ℕ
source_failing s = s.failing

-- the bytes taken so far
abbrev pub sink_written : MemSink → List ℕ
sink_written s = s.room.items

-- for how many bytes there is room
abbrev pub sink_spare : MemSink → ℕ
sink_spare s = s.room.spare

-- how many bytes it takes at most in one call
abbrev pub sink_piece : MemSink → ℕ
sink_piece s = s.piece

abbrev pub sink_fault_count : MemSink → ℕ
sink_fault_count s = s.faults

-- how many calls there were
abbrev pub sink_calls : MemSink → ℕ
sink_calls s = s.calls

-- the numbers of the calls that fail
abbrev pub sink_failing : MemSink → List ℕ
sink_failing s = s.failing
