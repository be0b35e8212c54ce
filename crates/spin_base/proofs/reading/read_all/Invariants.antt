use Rattle.std.proofs.Common.{◌≡◌, ◌≤◌, ◌-◌, vec_len, length}
use Rattle.spin_base.specs.Outside.{GivesFirst}
use Rattle.spin_base.proofs.reading.read_all.Given as goal

abbrev pub invariant-loop-count : goal.invariant-loop-count
invariant-loop-count g l = record {
  gives : GivesFirst (g.S.Source.left l.initial.src) l.bytes.items (g.S.Source.left l.src);
  within : vec_len l.bytes ≤ l.limit;
  room : length l.piece ≡ 65536;
  counted : g.S.Source.faults l.src ≡ g.S.Source.faults l.initial.src;
}

abbrev pub decreases-loop-count : goal.decreases-loop-count
decreases-loop-count g l = l.limit - vec_len l.bytes
