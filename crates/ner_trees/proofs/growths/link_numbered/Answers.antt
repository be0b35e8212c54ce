use Rattle.ner_trees.proofs.Common.{ap, arith, dir_at, dir_at-dir_number, refl, sym, ◌∙◌}
use Rattle.ner_trees.proofs.Numbering.{no_link}
use Rattle.ner_trees.proofs.growths.link_numbered.Goals as goal

pub returns-in-Some : goal.returns-in-Some
returns-in-Some c = sym (dir_at-dir_number c.in-Some.dir) ∙ ap dir_at c.in-Some.ensures.found

pub returns-in-None : goal.returns-in-None
returns-in-None c = sym (no_link c.args.number (omega (arith, c.in-None.ensures.beyond.0 refl)))
