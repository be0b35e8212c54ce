use Rattle.mesh_run.proofs.Common.{HasSize, subst}
use Rattle.mesh_run.proofs.FloorLaws.{few_chips, few_vertices}
use Rattle.mesh_run.proofs.floors.few_vertices.Goals as goal

pub returns : goal.returns
returns c =
    let size = subst HasSize c.machine.ensures c.chips.ensures.size in
    record {
      vertices = few_vertices c.args.setup.now.machine c.args.setup.now.spots c.every_setup_has_sites.ensures.different c.every_setup_has_sites.ensures.sites size;
      chips = few_chips c.args.setup.now.machine size;
    }
