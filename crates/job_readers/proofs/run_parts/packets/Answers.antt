use Rattle.job_readers.proofs.Common.{ap, arith, length, map, nil_from_length, props, refl, sym, view, ∥∥₁_elim, ◌∙◌}
use Rattle.job_readers.specs.{Items.items_faults, RunPart.packets_faults, RunPart.packets_value}
use Rattle.job_readers.proofs.run_parts.packets.Goals as goal

pub returns-then-is_empty-clause-read : goal.returns-then-is_empty-clause-read
unfolding packets_faults packets_value items_faults
returns-then-is_empty-clause-read c =
    let none = sym c.in_ok-items.ensures.read.1 ∙ ap (map view) (nil_from_length c.in_ok-items.items.now (grind (arith, c.is_empty.ensures, c.if-is_empty.true))) in
    rw (c.in_ok-items.ensures.read.0, none, c.new.ensures) (refl, refl)

pub returns-clause-read : goal.returns-clause-read
unfolding packets_faults packets_value
returns-clause-read c = rw (c.in_ok-items.ensures.read.0, ← c.in_ok-items.ensures.read.1) c.each_item.ensures.read

pub names_of_nets-requires : goal.names_of_nets-requires
names_of_nets-requires c = ∥∥₁_elim c.args.valid.now.valid (hlevel props) (λ valid. omega (arith, valid.few_nets, ap length c.as_slice.ensures))
