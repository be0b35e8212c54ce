use Rattle.par_compile.proofs.Common.{arith}
use Rattle.par_compile.proofs.ShortTables.{final_for}
use Rattle.par_compile.proofs.short_tables.short_table.Goals as goal

pub returns : goal.returns
returns c few = grind (arith, final_for)
