use Rattle.job_gen.proofs.Common.{ap, array, chains, items_of, name_data, rules, view-Array, ◌∙◌}
use Rattle.job_gen.proofs.ValueLemmas.{mapped_values}
use Rattle.job_gen.proofs.values.targets_value.Goals as goal

pub returns : goal.returns
returns c = view-Array c.in_ok-values.values ∙ ap (λ l. array (items_of l)) (mapped_values name_data c.args.targets.now c.in_ok-values.values.items (search (rules, chains)) (λ k d v below. search (rules, chains)))
