use Rattle.std.proofs.Common.{arith}
use Rattle.tcam_find.proofs.CommonLemmas.{apart_from_entry, apart_from_none, apart_from_others}
use Rattle.tcam_find.proofs.known.in_common.Goals as goal

pub returns-then-value-common-clause-of_one : goal.returns-then-value-common-clause-of_one
returns-then-value-common-clause-of_one c key differ = apart_from_none key c.args.common c.args.value c.if-value-common.true

pub returns-then-more-mask-clause-of_one : goal.returns-then-more-mask-clause-of_one
returns-then-more-mask-clause-of_one c key = apart_from_others key c.args.common c.args.value c.args.mask _

pub returns-then-more-mask-clause-of_other : goal.returns-then-more-mask-clause-of_other
returns-then-more-mask-clause-of_other c key = grind (arith, apart_from_entry key c.args.common c.args.value c.args.mask c.args.more (omega arith) (omega arith))

pub returns-else-more-mask-clause-of_other : goal.returns-else-more-mask-clause-of_other
returns-else-more-mask-clause-of_other c key differ = apart_from_none key c.args.mask c.args.more c.if-more-mask.false
