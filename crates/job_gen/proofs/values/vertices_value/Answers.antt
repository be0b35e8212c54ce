use Rattle.job_gen.proofs.Common.{ap, array, chains, items_of, vertex_data, rules, view-Array, ◌∙◌}
use Rattle.job_gen.proofs.ValueLemmas.{numbered_values}
use Rattle.job_gen.proofs.values.vertices_value.Goals as goal

pub returns : goal.returns
returns c = view-Array c.in_ok-values.values ∙ ap (λ l. array (items_of l)) (numbered_values vertex_data c.args.sdrams.now c.in_ok-values.values.items (search (rules, chains)) (λ k d v below. search (rules, chains)))
