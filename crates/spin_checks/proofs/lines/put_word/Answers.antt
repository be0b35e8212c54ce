use Rattle.spin_checks.proofs.Common.{arith, string_bytes, word_text}
use Rattle.spin_checks.proofs.lines.put_word.Goals as goal

pub returns : goal.returns
returns c = grind (arith, string_bytes c.args.text.now, string_bytes c.write.new.self, word_text c.args.number c.ranges.number.fits)
