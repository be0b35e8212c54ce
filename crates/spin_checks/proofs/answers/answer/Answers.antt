use Rattle.spin_checks.proofs.Common.{Ok, arith, rules}
use Rattle.spin_checks.proofs.{Compiled.right_or_memory, Meaning.right_means, OneAnswer.one_answer, Refusing.refused_answer}
use Rattle.spin_checks.proofs.answers.answer.Goals as goal

pub returns-in_err-nets-clause-refused : goal.returns-in_err-nets-clause-refused
returns-in_err-nets-clause-refused c = refused_answer c.args.machine.now c.args.graph.now c.args.trees.now c.args.image.now c.from_residual.result (search rules) (search rules)

pub returns-in-Ok-line_of-clause-only : goal.returns-in-Ok-line_of-clause-only
returns-in-Ok-line_of-clause-only c = λ other is.
    one_answer (record { spelled = c.a_fault_is_where_no_image_is_spelled.ensures.spelled; apart = c.an_image_has_one_spelling.ensures.apart })
    c.args.machine.now c.args.graph.now c.args.trees.now c.args.image.now c.in_ok-nets.nets c.in_ok-nets.ensures.sites c.in_ok-nets.ensures.nets c.in-Ok.finding c.in-Ok-line_of.text other
    c.in-Ok.ensures.finding c.in-Ok-line_of.ensures is

pub returns-in-Ok-line_of-clause-right : goal.returns-in-Ok-line_of-clause-right
returns-in-Ok-line_of-clause-right c = right_means _ _ _ _ _ c.in_ok-nets.ensures.nets _ _ c.in-Ok-line_of.ensures c.in-Ok.ensures.right

pub returns-in-Ok-line_of-clause-answer : goal.returns-in-Ok-line_of-clause-answer
returns-in-Ok-line_of-clause-answer c = grind arith

pub returns-in-Ok-line_of-clause-refused : goal.returns-in-Ok-line_of-clause-refused
returns-in-Ok-line_of-clause-refused c =
    refused_answer c.args.machine.now c.args.graph.now c.args.trees.now c.args.image.now _ (returns-in-Ok-line_of-clause-answer c) tt

pub returns-in_err-nets-clause-made : goal.returns-in_err-nets-clause-made
returns-in_err-nets-clause-made c = λ target plan v is kept same spelled.
    right_or_memory c.args.machine.now c.args.graph.now target plan is v c.args.image.now kept spelled
    (c.made_images_are_right.ensures c.args.machine.now plan.nets target plan.tables v) c.args.trees.now
    c.from_residual.result same (search rules) (search rules)

pub returns-in-Ok-line_of-clause-made : goal.returns-in-Ok-line_of-clause-made
returns-in-Ok-line_of-clause-made c = λ target plan v is kept same spelled.
    right_or_memory c.args.machine.now c.args.graph.now target plan is v c.args.image.now kept spelled
    (c.made_images_are_right.ensures c.args.machine.now plan.nets target plan.tables v) c.args.trees.now
    (Ok c.in-Ok-line_of.text) same (returns-in-Ok-line_of-clause-only c) tt
