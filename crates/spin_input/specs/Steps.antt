-- Which steps with applications bytes are, or why they are none (this project's own).
use Rattle.std.specs.Prelude.{ℕ, List, Option, Result}
use Rattle.serde_json.specs.Data.{Data}
use Rattle.job_requests.specs.Steps.{steps_faults, steps_value}
use Rattle.job_requests.specs.declared.steps.Step.{Step}
use Rattle.run_report.specs.declared.causes.Refusal.{Refusal}
use Rattle.spin_input.specs.Kinds.{input_of, input_from, input_in}

unfoldable pub app_steps_of : Data → Result (List Step) Refusal
app_steps_of = input_of steps_faults steps_value

abbrev pub steps_from : Option Data → Result (List Step) Refusal
steps_from = input_from app_steps_of

abbrev pub steps_in : List ℕ → Result (List Step) Refusal
steps_in = input_in app_steps_of
