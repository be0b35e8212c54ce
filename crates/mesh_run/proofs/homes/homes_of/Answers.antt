use Rattle.mesh_run.proofs.Common.{Description, arith, get_or, grid_size, length, site_inside, slice_get-get_or, subst, ◌*◌, ◌+◌, ◌<◌}
use Rattle.mesh_run.proofs.HomeLaws.{homes_all, vertex_more}
use Rattle.mesh_run.proofs.homes.homes_of.Goals as goal

pub index-home-requires : goal.index-home-requires
index-home-requires c = grind (arith, get_or, site_inside)

pub loop-vertex-preserved : goal.loop-vertex-preserved
loop-vertex-preserved c =
    let long = c.requires in
    let home = subst (λ (m : Description). c.index-home.result < m.width * m.height) c.machine.ensures c.index-home.ensures.below in
    let sender : 2 * c.index-home.result < length c.args.table.now = omega (arith, long, home) in
    let receiver : 2 * c.index-home.result + 1 < length c.args.table.now = omega (arith, long, home) in
    vertex_more c.args.table.now (grid_size c.args.footing.setup.now) c.loop-vertex.vertex _ c.loop-vertex.homes.items c.push.new.self.items c.loop-vertex.invariant
    (record {
      sender_at = 2 * c.index-home.result;
      sender = slice_get-get_or c.args.table.now (2 * c.index-home.result) 0 sender;
      receiver_at = 2 * c.index-home.result + 1;
      receiver = slice_get-get_or c.args.table.now (2 * c.index-home.result + 1) 0 receiver;
    }) c.in_ok-push.ensures.items

pub returns : goal.returns
returns c = homes_all _ _ _ _ (omega (arith, c.chips_of-chips.ensures.value)) c.loop-at.invariant
