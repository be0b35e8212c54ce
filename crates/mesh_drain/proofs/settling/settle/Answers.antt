use Rattle.mesh_drain.proofs.Common.{NothingWaits, arith}
use Rattle.mesh_drain.proofs.{Frame.dumped_reached, Moving.after_moved, Moving.after_setup, Moving.after_then, Moving.after_lighter, Moving.mesh_after, Moving.moved_none, Moving.moved_on}
use Rattle.mesh_drain.proofs.{Moving.moved_then, Moving.waits_somewhere, Vertices.drops_none, Vertices.drops_then, Vertices.quiet_still}
use Rattle.mesh_drain.proofs.settling.settle.Goals as goal

pub returns-in_err-empty_cores-clause-moved : goal.returns-in_err-empty_cores-clause-moved
returns-in_err-empty_cores-clause-moved c = moved_then _ _ _ (moved_none _) c.empty_cores.ensures.reached

pub returns-in_err-empty_cores-clause-links : goal.returns-in_err-empty_cores-clause-links
returns-in_err-empty_cores-clause-links c = grind (arith, drops_none, dumped_reached)

pub sweeps-init : goal.sweeps-init
sweeps-init c = grind (arith, moved_then, moved_none, drops_none, dumped_reached, quiet_still)

pub sweeps-smaller : goal.sweeps-smaller
sweeps-smaller c = grind (arith, mesh_after, after_lighter)

pub sweeps-preserved : goal.sweeps-preserved
sweeps-preserved c =
    let none : NothingWaits c.args.mesh.now → ⊥ = λ quiet. waits_somewhere c.sweeps.mesh c.in-Some.at c.in-Some.ensures.some (c.sweeps.invariant.still quiet) in
    let after = after_then c.sweeps.mesh c.move_on.new.mesh c.sweep.new.mesh c.move_on.ensures.after c.sweep.ensures.after in
    let links = drops_then c.sweeps.mesh c.move_on.new.mesh c.sweep.new.mesh (after_setup c.sweeps.mesh c.move_on.new.mesh c.move_on.ensures.after)
    (c.move_on.ensures.links c.sweeps.invariant.collected) (c.sweep.ensures.links (c.in_ok-move_on.ensures.collected c.sweeps.invariant.collected)) in
    record {
      moved = moved_on c.args.mesh.now c.sweeps.mesh c.sweep.new.mesh c.sweeps.invariant.moved none after;
      links = drops_then c.args.mesh.now c.sweeps.mesh c.sweep.new.mesh (after_setup c.args.mesh.now c.sweeps.mesh (after_moved c.args.mesh.now c.sweeps.mesh c.sweeps.invariant.moved))
          c.sweeps.invariant.links links;
      collected = c.in_ok-sweep.ensures.collected (c.in_ok-move_on.ensures.collected c.sweeps.invariant.collected);
      still = λ quiet. absurd (none quiet);
    }

pub returns-in_err-move_on-clause-moved : goal.returns-in_err-move_on-clause-moved
returns-in_err-move_on-clause-moved c = grind (arith, moved_on, waits_somewhere)

pub returns-in_err-move_on-clause-links : goal.returns-in_err-move_on-clause-links
returns-in_err-move_on-clause-links c = drops_then _ _ _ (after_setup _ _ (after_moved _ _ c.sweeps.invariant.moved)) c.sweeps.invariant.links (c.move_on.ensures.links c.sweeps.invariant.collected)

pub returns-in_err-sweep-clause-moved : goal.returns-in_err-sweep-clause-moved
returns-in_err-sweep-clause-moved c = grind (arith, after_then c.sweeps.mesh c.move_on.new.mesh c.sweep.new.mesh c.move_on.ensures.after c.sweep.ensures.after, moved_on, waits_somewhere)

pub returns-in_err-sweep-clause-links : goal.returns-in_err-sweep-clause-links
returns-in_err-sweep-clause-links c =
    let links = drops_then c.sweeps.mesh c.move_on.new.mesh c.sweep.new.mesh (after_setup c.sweeps.mesh c.move_on.new.mesh c.move_on.ensures.after)
    (c.move_on.ensures.links c.sweeps.invariant.collected) (c.sweep.ensures.links (c.in_ok-move_on.ensures.collected c.sweeps.invariant.collected)) in
    drops_then c.args.mesh.now c.sweeps.mesh c.sweep.new.mesh (after_setup c.args.mesh.now c.sweeps.mesh (after_moved c.args.mesh.now c.sweeps.mesh c.sweeps.invariant.moved))
    c.sweeps.invariant.links links
