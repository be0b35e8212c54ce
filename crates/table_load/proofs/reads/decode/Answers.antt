use Rattle.std.proofs.Common.{arith}
use Rattle.table_load.proofs.Whole.{image_takes, read_is, read_fails}
use Rattle.table_load.proofs.reads.decode.Goals as goal

pub returns-in-Ok-clause-read : goal.returns-in-Ok-clause-read
returns-in-Ok-clause-read c = image_takes c.args.bytes.now c.in-Ok.image (λ i. omega (arith, c.type_inv.bytes i)) c.in-Ok.ensures

pub returns-in-Ok-clause-only : goal.returns-in-Ok-clause-only
returns-in-Ok-clause-only c = λ v spells. read_is v c.in-Ok.image c.args.bytes.now c.in-Ok.ensures spells

pub returns-in-Err-Left-clause-only : goal.returns-in-Err-Left-clause-only
returns-in-Err-Left-clause-only c = λ v spells. absurd (read_fails v c.args.bytes.now c.in-Err-Left.field-0 c.in-Err-Left.left c.in-Err-Left.field-0-is c.in-Err-Left.ensures spells)
