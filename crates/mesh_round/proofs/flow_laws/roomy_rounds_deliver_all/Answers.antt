-- The ledger holds after the rounds, and no copy was dumped.
use Rattle.mesh_round.proofs.Common.{opened_mesh}
use Rattle.mesh_round.proofs.flow_laws.roomy_rounds_deliver_all.Goals as goal

pub returns-clause-no_record : goal.returns-clause-no_record
returns-clause-no_record c = λ patience turns setup n nets packets patient mesh right stand of_nets roomy rounds.
    let job = c.opened_mesh_meets_its_ledger.ensures setup nets packets stand of_nets in
    c.a_roomy_round_drops_nothing.ensures.after_rounds patience turns (opened_mesh setup nets packets) n nets packets patient mesh right job roomy rounds

pub returns-clause-delivered : goal.returns-clause-delivered
returns-clause-delivered c = λ patience turns setup n nets packets patient mesh right stand of_nets roomy rounds rest.
    let job = c.opened_mesh_meets_its_ledger.ensures setup nets packets stand of_nets in
    let records = c.a_roomy_round_drops_nothing.ensures.after_rounds patience turns (opened_mesh setup nets packets) n nets packets patient mesh right job roomy rounds in
    let kept = c.rounds_keep_the_ledger.ensures patience turns (opened_mesh setup nets packets) n nets packets mesh right job rounds in
    c.a_mesh_at_rest_has_delivered_all.ensures n nets packets kept rest records
