-- What a contract sees of an adapter over a reader or a writer: these, and how often it has seen a fault.
use Rattle.std.specs.Prelude.{ℕ, List, Option, None}
use Rattle.spin_base.specs.declared.std_ends.StdSource.{StdSource}
use Rattle.spin_base.specs.declared.std_ends.StdSink.{StdSink}

abbrev pub std_source_reader : {R : Type 0} → StdSource R → R
std_source_reader s = s.reader

abbrev pub std_source_faults : {R : Type 0} → StdSource R → ℕ
std_source_faults s = s.faults

abbrev pub std_sink_writer : {W : Type 0} → StdSink W → W
std_sink_writer s = s.writer

abbrev pub std_sink_faults : {W : Type 0} → StdSink W → ℕ
std_sink_faults s = s.faults

-- an adapter tells nothing of content by itself
abbrev pub untold : {S : Type 0} → S → Option (List ℕ)
untold s = None
