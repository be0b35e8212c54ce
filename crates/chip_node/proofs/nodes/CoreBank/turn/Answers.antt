use Rattle.chip_node.proofs.Common.{Moved, SendsOne, Turn, subst, ◌≢◌}
use Rattle.chip_node.proofs.{Banking.cannot_get_before, Banking.first_none, Banking.half_stays, Banking.second_none, Stays.roomy_on}
use Rattle.chip_node.proofs.nodes.CoreBank.turn.Goals as goal

pub returns-clause-idle : goal.returns-clause-idle
returns-clause-idle g c = λ is none roomy.
    (let both = subst (λ (t : Turn). t ≢ Moved) c.both.ensures none in
    let sent = first_none c.send-sent.result c.collect-got.result both in
    let got = second_none c.send-sent.result c.collect-got.result both in
    let stays = half_stays c.args.around.capacity c.args.around.patience (SendsOne c.args.self.now) c.args.hold.now c.send-sent.new.hold c.send-sent.result sent
    c.send-sent.ensures.acts in
    let found = c.collect-got.ensures.idle got (roomy_on c.args.around.capacity c.args.hold.now c.send-sent.new.hold stays roomy) in
    record {
      sends = c.send-sent.ensures.idle is sent roomy;
      gets = cannot_get_before c.args.self.now c.args.hold.now c.send-sent.new.hold stays found;
    })
