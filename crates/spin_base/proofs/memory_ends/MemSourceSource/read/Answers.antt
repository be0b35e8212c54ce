use Rattle.std.proofs.Common.{arith, ap, length}
use Rattle.spin_base.proofs.Bytes.{reads_next}
use Rattle.spin_base.proofs.memory_ends.MemSourceSource.read.Goals as goal

pub returns-clause-reads : goal.returns-clause-reads
returns-clause-reads c =
    reads_next c.args.self.now.bytes c.as_slice-2.result.now c.args.buffer.now _ c.args.self.now.place c.min-count.result
    c.as_slice-2.ensures c.copy_from_slice.ensures.after
    (omega (arith, ap length c.as_slice-2.ensures, c.min.ensures, c.min-count.ensures))
    (λ zero. omega (arith, ap length c.as_slice-2.ensures, c.min.ensures, c.min-count.ensures))
