-- Which request to the checker bytes are, or why they are none (this project's own).
use Rattle.std.specs.Prelude.{ℕ, List, Option, Result}
use Rattle.serde_json.specs.Data.{Data}
use Rattle.job_requests.specs.Requests.{request_faults, request_value}
use Rattle.job_requests.specs.declared.requests.Request.{Request}
use Rattle.run_report.specs.declared.causes.Refusal.{Refusal}
use Rattle.spin_input.specs.Kinds.{input_of, input_from, input_in}

unfoldable pub request_of : Data → Result Request Refusal
request_of = input_of request_faults request_value

abbrev pub request_from : Option Data → Result Request Refusal
request_from = input_from request_of

abbrev pub request_in : List ℕ → Result Request Refusal
request_in = input_in request_of
