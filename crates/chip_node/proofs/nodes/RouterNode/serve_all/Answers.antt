use Rattle.chip_node.proofs.Common.{East, Out, Service, arith, get_or, get_or_default, length, refl, ◌<◌, ◌≡◌}
use Rattle.spin_base.specs.declared.routes.Out.TheVariants.{Link}
use Rattle.chip_node.proofs.Serving.{room_left, serves_more}
use Rattle.chip_node.proofs.nodes.RouterNode.serve_all.Goals as goal

pub loop-out-preserved : goal.loop-out-preserved
loop-out-preserved g c =
    let r = c.args.self in
    let outs = c.args.outs.now in
    let i = c.loop-out.out-index in
    let o : Out = get_or outs i (Link East) in
    let s : Service = record { out = o; copy = c.args.copy; fate = c.serve.result } in
    let before = c.loop-out.invariant in
    let below : i < length outs = omega arith in
    let read : o ≡ get_or outs i o = get_or_default outs i (Link East) o below in
    record {
      serves = serves_more c.args.around.capacity c.args.around.patience r c.args.copy c.args.hold.now c.loop-out.hold c.serve.new.hold outs i s below read refl c.serve.ensures.nowhere
          before.serves c.serve.ensures.goes;
      ready = c.serve.ensures.ready;
      behind = room_left c.args.around.capacity c.args.around.links.now r c.loop-out.hold c.serve.new.hold outs i o before.ready c.requires.outs below read
          before.behind c.serve.ensures.elsewhere;
      records = (let records = before.records in let spare = c.serve.ensures.spare in omega arith);
    }
