use Rattle.job_readers.proofs.Common.{Some, ap, as_str, name_place_in, option_and_then, option_map, path_text, sym, view, ◌∙◌, ◌≡◌}
use Rattle.job_readers.specs.Places.{reference_faults, reference_value}
use Rattle.job_readers.proofs.{PlaceSteps.place_in-below, KnownNames.found_faults, KnownNames.found_value, KnownNames.placed_is_name}
use Rattle.job_readers.proofs.named_vertices.known_reference.Goals as goal

pub returns-in-Some-place-clause-read : goal.returns-in-Some-place-clause-read
unfolding reference_faults reference_value
returns-in-Some-place-clause-read c =
    let names = c.args.among.now.names.now in
    let o = option_map (λ d. view d.now) c.args.v in
    let s = c.in-Some.said.now in
    let i = c.in-Some-place.i in
    let is : option_and_then as_str o ≡ Some s = sym c.said_text.ensures ∙ ap (option_map (λ t. t.now)) c.in-Some.is in
    let at : name_place_in names s ≡ Some i = sym c.place.ensures ∙ c.in-Some-place.is in (
      found_faults (name_place_in names) (path_text c.args.path.now) o s i is at (placed_is_name names s i at c.args.among.now.known),
      found_value (name_place_in names) (path_text c.args.path.now) o s i is at,
    )

pub returns-in-Some-place-clause-below : goal.returns-in-Some-place-clause-below
returns-in-Some-place-clause-below c =
    place_in-below c.args.among.now.names.now c.in-Some.said.now c.in-Some-place.i (sym c.place.ensures ∙ c.in-Some-place.is)
