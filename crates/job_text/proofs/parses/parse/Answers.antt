use Rattle.std.proofs.Common.{arith}
use Rattle.std.proofs.lemmas.Bool.{iff_false}
use Rattle.job_text.proofs.Readings.{json_of-utf8, json_of-not_utf8}
use Rattle.job_text.proofs.parses.parse.Goals as goal

pub returns-in_default-clause-not_json : goal.returns-in_default-clause-not_json
returns-in_default-clause-not_json c = λ _. json_of-not_utf8 c.args.bytes.now c.in_default.ensures.cases.0

pub returns-in-Ok-from_str-clause-value : goal.returns-in-Ok-from_str-clause-value
returns-in-Ok-from_str-clause-value c = grind (arith, json_of-utf8 c.args.bytes.now c.in-Ok.ensures.cases.1)

pub returns-else-is_memory-clause-not_json : goal.returns-else-is_memory-clause-not_json
returns-else-is_memory-clause-not_json c = grind (arith, json_of-utf8 c.args.bytes.now c.in-Ok.ensures.cases.1, iff_false c.is_memory.ensures c.if-is_memory.false)
