use Rattle.job_text.specs.Paths.{path_text}
use Rattle.std.proofs.Common.{map, option_map, ap}
use Rattle.serde_json.specs.View.{view}
use Rattle.job_text.proofs.Items.{list-read}
use Rattle.job_text.proofs.fields.list.Goals as goal

pub returns-in-Some-as_array : goal.returns-in-Some-as_array
returns-in-Some-as_array c =
    rw c.as_slice.ensures.value (list-read (path_text c.args.path.now) c.args.needed (option_map (λ d. view d.now) c.args.v) (view c.in-Some.found.now) (map view c.in-Some-as_array.items.now.items) (ap (option_map (λ d. view d.now)) c.in-Some.is) c.in-Some-as_array.ensures)
