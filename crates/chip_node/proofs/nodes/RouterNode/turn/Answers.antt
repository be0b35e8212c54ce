use Rattle.chip_node.proofs.Common.{East, IsIdleAt, Port, arith, get_or, port_number, port_place, refl, sym, ℕ, ◌%◌, ◌+◌, ◌<◌, ◌∙◌, ◌≡◌}
use Rattle.spin_base.specs.declared.chips.Port.TheVariants.{Link}
use Rattle.chip_node.proofs.{GoingRound.gone_more, Stays.roomy_on, Stays.stays_on, Turning.next_idle, Turning.port_at, Turning.port_step, Turning.ports_gone, Turning.routes_one, Turning.seven_ports}
use Rattle.chip_node.proofs.nodes.RouterNode.turn.Goals.{in-Empty, in-NoRoom}
use Rattle.chip_node.proofs.nodes.RouterNode.turn.Goals as goal

pub returns-in-Took-clause-acts : goal.returns-in-Took-clause-acts
returns-in-Took-clause-acts g c =
    let port : Port = get_or seven_ports ((c.args.number % 7 + c.ports.step) % 7) (Link East) in
    routes_one c.args.around.capacity c.args.around.patience c.args.self.table.now c.args.self port c.in-Took.taken.copy c.as_slice.result.now c.args.hold.now c.ports.hold c.look.new.hold
    c.serve_all.new.hold c.ports.invariant.stays c.in-Took.ensures.looks.goes (c.as_slice.ensures.value ∙ c.in-Took.ensures.looks.given) c.serve_all.ensures.serves

pub ports-preserved : goal.ports-preserved
ports-preserved g c =
    let cap = c.args.around.capacity in
    let i = c.args.self.index in
    let a = c.args.hold.now in
    let m = c.ports.hold in
    let b = c.look.new.hold in
    let before = c.ports.invariant in
    let start = c.args.number % 7 in
    let step = c.ports.step in
    let more : step < 7 = omega arith in
    let at = (start + step) % 7 in
    let below : at < 7 = omega arith in
    let port : Port = get_or seven_ports at (Link East) in
    elim c.match-look.branch [
      | in-Empty w ↦
          let looks = w.in-Empty.ensures.looks in
          record {
            stays = stays_on a m b before.stays looks.0;
            ready = c.look.ensures.ready;
            none = λ e. before.none (sym w.found-is ∙ e);
            idle = λ is roomy. gone_more (λ (j : ℕ). (p : Port) → port_number p ≡ j → IsIdleAt a.ends.items (port_place i p)) start 7 step at more below (port_step c.args.number step more)
                (next_idle a m i at port before.stays (port_at at below) looks.1) (before.idle is roomy);
          }
      | in-NoRoom w ↦
          let looks = w.in-NoRoom.ensures.looks in
          record {
            stays = stays_on a m b before.stays looks.0;
            ready = c.look.ensures.ready;
            none = λ e. (let waits = w.found-is in cc);
            idle = λ is roomy. absurd (looks.1 (roomy_on cap a m before.stays roomy));
          }
    ]

pub returns-clause-idle : goal.returns-clause-idle
returns-clause-idle g c = λ is none roomy port.
    ports_gone (λ (j : ℕ). (p : Port) → port_number p ≡ j → IsIdleAt c.args.hold.now.ends.items (port_place c.args.self.index p)) (c.args.number % 7) c.ports.step (omega arith)
    (c.ports.invariant.idle is roomy) port port refl
