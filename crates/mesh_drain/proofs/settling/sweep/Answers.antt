use Rattle.mesh_drain.proofs.Common.{arith, refl}
use Rattle.mesh_drain.proofs.{Moving.after_none, Moving.after_then, Moving.after_setup, Vertices.drops_none, Vertices.drops_then}
use Rattle.mesh_drain.proofs.settling.sweep.Goals as goal

pub loop-index-init : goal.loop-index-init
loop-index-init c = record { after = after_none c.args.mesh.now; links = λ collected. drops_none c.args.mesh.now c.args.mesh.now refl; collected = λ collected. collected }

pub loop-index-preserved : goal.loop-index-preserved
loop-index-preserved c = record {
  after = after_then c.args.mesh.now c.loop-index.mesh c.empty_chip.new.mesh c.loop-index.invariant.after c.empty_chip.ensures.after;
  links = λ collected. drops_then c.args.mesh.now c.loop-index.mesh c.empty_chip.new.mesh (after_setup c.args.mesh.now c.loop-index.mesh c.loop-index.invariant.after)
      (c.loop-index.invariant.links collected) (c.empty_chip.ensures.links (c.loop-index.invariant.collected collected));
  collected = λ collected. c.in_ok-empty_chip.ensures.collected (c.loop-index.invariant.collected collected);
}

pub returns-in_err-empty_chip-clause-after : goal.returns-in_err-empty_chip-clause-after
returns-in_err-empty_chip-clause-after c = after_then c.args.mesh.now c.loop-index.mesh c.empty_chip.new.mesh c.loop-index.invariant.after c.empty_chip.ensures.after

pub returns-in_err-empty_chip-clause-links : goal.returns-in_err-empty_chip-clause-links
returns-in_err-empty_chip-clause-links c = grind (arith, after_setup c.args.mesh.now c.loop-index.mesh c.loop-index.invariant.after, drops_then)

pub chip_at-chip-requires : goal.chip_at-chip-requires
chip_at-chip-requires c = grind (arith, after_setup c.args.mesh.now c.loop-index.mesh c.loop-index.invariant.after)
