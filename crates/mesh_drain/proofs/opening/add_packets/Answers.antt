use Rattle.mesh_drain.proofs.Common.{NetPlan, None, Packet, arith, first_copy, get_or_from_slice_get, refl, slice_index_or, subst, sym, ◌+◌, ◌<◌}
use Rattle.mesh_drain.proofs.{Opened.known, Opened.listed_source, Opened.grows, Packets.few_in_mesh}
use Rattle.mesh_drain.proofs.opening.add_packets.Goals as goal

pub loop-number-init : goal.loop-number-init
loop-number-init c = record { opened = λ none_yet. none_yet }

pub bounds-nets-net : goal.bounds-nets-net
bounds-nets-net c =
    (known c.args.mesh.now.setup.spots c.args.nets.now c.args.packets.now c.requires.listed.can.of_nets c.requires.listed.can.sources c.loop-number.number _ c.loop-number-test.true).net_within

pub bounds-nets-net-in-loop-number : goal.bounds-nets-net-in-loop-number
bounds-nets-net-in-loop-number c _ =
    (known c.args.mesh.now.setup.spots c.args.nets.now c.args.packets.now c.requires.listed.can.of_nets c.requires.listed.can.sources c.loop-number.number _ c.loop-number-test.true).net_within

pub overflow_add-copy : goal.overflow_add-copy
overflow_add-copy c =
    let d : Packet = record { net = 0; index = 0; payload = None } in
    let k = known c.args.mesh.now.setup.spots c.args.nets.now c.args.packets.now c.requires.listed.can.of_nets c.requires.listed.can.sources c.loop-number.number d c.loop-number-test.true in
    let p : Packet = slice_index_or c.args.packets.now c.loop-number.number d in
    let fits = subst (λ (n : NetPlan). n.block.key + p.index < 4294967296) (sym (get_or_from_slice_get c.args.nets.now p.net k.net c.index-nets-net.result k.is_net)) k.fits in
    omega (arith, fits)

pub bounds-sources-net : goal.bounds-sources-net
bounds-sources-net c =
    let d : Packet = record { net = 0; index = 0; payload = None } in
    let k = known c.args.mesh.now.setup.spots c.args.nets.now c.args.packets.now c.requires.listed.can.of_nets c.requires.listed.can.sources c.loop-number.number d c.loop-number-test.true in
    (listed_source c.args.mesh.now.setup.spots c.args.nets.now c.args.sources.now (slice_index_or c.args.packets.now c.loop-number.number d) 0 c.requires.listed.vertices k).0

pub overflow_cast-sources : goal.overflow_cast-sources
overflow_cast-sources c =
    let d : Packet = record { net = 0; index = 0; payload = None } in
    let k = known c.args.mesh.now.setup.spots c.args.nets.now c.args.packets.now c.requires.listed.can.of_nets c.requires.listed.can.sources c.loop-number.number d c.loop-number-test.true in
    let source = (listed_source c.args.mesh.now.setup.spots c.args.nets.now c.args.sources.now (slice_index_or c.args.packets.now c.loop-number.number d) 0 c.requires.listed.vertices k).1 in
    omega (arith, source, k.below, few_in_mesh c.args.mesh.now c.every_mesh_is_one.ensures)

pub loop-number-preserved : goal.loop-number-preserved
loop-number-preserved c =
    let d : Packet = record { net = 0; index = 0; payload = None } in
    let p : Packet = slice_index_or c.args.packets.now c.loop-number.number d in
    let n : NetPlan = slice_index_or c.args.nets.now p.net c.index-nets-net.result in
    let k = known c.args.mesh.now.setup.spots c.args.nets.now c.args.packets.now c.requires.listed.can.of_nets c.requires.listed.can.sources c.loop-number.number d c.loop-number-test.true in
    record {
      opened = λ none_yet. grows c.args.mesh.now.setup c.args.nets.now c.args.packets.now c.loop-number.number d c.index-nets-net.result
          (slice_index_or c.args.sources.now p.net 0) (first_copy c.loop-number.number n p) c.loop-number.mesh c.add.new.self
          k c.loop-number-test.true (c.loop-number.invariant.opened none_yet) refl
          (listed_source c.args.mesh.now.setup.spots c.args.nets.now c.args.sources.now p 0 c.requires.listed.vertices k).1
          c.in_ok-add.ensures.ok;
    }
