use Rattle.app_loads.proofs.Common.{arith}
use Rattle.app_loads.proofs.GroupLaws.{last_put_if}
use Rattle.app_loads.proofs.groups.extend_last.Goals as goal

pub returns-clause-put : goal.returns-clause-put
returns-clause-put c = last_put_if _ _ _ _ _ _ (let a = c.len-count.ensures in let b = c.args.groups.now.ok in omega (arith, a, b)) c.if-count-eq0.false c.index_mut.ensures.value c.extend.ensures.put
