use Rattle.job_readers.proofs.Common.{ap, arith, length, map, nil_from_length, props, refl, sym, vertex_names_of, view, ∥∥₁_elim, ◌∙◌, ◌≡◌}
use Rattle.job_readers.specs.{Items.items_faults, RunPart.events_faults, RunPart.events_value}
use Rattle.job_readers.proofs.events.events.Goals as goal

pub returns-then-is_empty-clause-read : goal.returns-then-is_empty-clause-read
unfolding events_faults events_value items_faults
returns-then-is_empty-clause-read c =
    let none = sym c.in_ok-items.ensures.1 ∙ ap (map view) (nil_from_length c.in_ok-items.items.now (grind (arith, c.is_empty.ensures, c.if-is_empty.true))) in
    rw (c.in_ok-items.ensures.0, none, c.new.ensures) (refl, refl)

pub returns-clause-read : goal.returns-clause-read
unfolding events_faults events_value
returns-clause-read c =
    let names : c.in_ok-names.names ≡ vertex_names_of c.args.valid.now.graph.now.vertices = c.in_ok-names.ensures ∙ ap vertex_names_of c.as_slice.ensures in
    rw (c.in_ok-items.ensures.0, ← names, ← c.in_ok-items.ensures.1) c.each_item.ensures.read

pub names_of_vertices-requires : goal.names_of_vertices-requires
names_of_vertices-requires c = ∥∥₁_elim c.args.valid.now.valid (hlevel props) (λ valid. omega (arith, valid.few_vertices, ap length c.as_slice.ensures))
