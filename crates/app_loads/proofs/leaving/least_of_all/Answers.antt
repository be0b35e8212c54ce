use Rattle.app_loads.proofs.LeavingLeast.{all_folded, least_folded, under_way, least_waits, none_waits}
use Rattle.app_loads.proofs.Common.{lesser_of, flat_map, None, packet_numbers_of, held_packets, arith, least_own_packet, ◌≡◌}
use Rattle.app_loads.proofs.leaving.least_of_all.Goals as goal

least_is : (c : goal.After-least_in_queues) → c.least_in_queues.result ≡ least_own_packet c.args.app.now (under_way c.args.parts.now)
least_is c =
    let app = c.args.app.now in
    let s = c.args.parts.now in
    let a : c.least_in_queues-least.result ≡ lesser_of None (least_own_packet app (flat_map packet_numbers_of s.unsent)) = grind (arith, least_folded app packet_numbers_of s.unsent None) in
    let b = least_folded app packet_numbers_of s.inputs c.least_in_queues-least.result in
    let b' : c.least_in_queues-least-2.result ≡ lesser_of c.least_in_queues-least.result (least_own_packet app (flat_map packet_numbers_of s.inputs)) = grind (arith, b) in
    let d = least_folded app held_packets s.hands c.least_in_queues-least-2.result in
    let d' : c.least_in_hands-least.result ≡ lesser_of c.least_in_queues-least-2.result (least_own_packet app (flat_map held_packets s.hands)) = grind (arith, d) in
    let e = least_folded app packet_numbers_of s.cores c.least_in_hands-least.result in
    let e' : c.least_in_queues.result ≡ lesser_of c.least_in_hands-least.result (least_own_packet app (flat_map packet_numbers_of s.cores)) = grind (arith, e) in
    all_folded app (flat_map packet_numbers_of s.unsent) (flat_map packet_numbers_of s.inputs) (flat_map held_packets s.hands) (flat_map packet_numbers_of s.cores) _ _ _ _ a b' d' e'

pub returns-clause-some : goal.returns-clause-some
returns-clause-some c mesh = least_waits c.args.parts.now mesh c.args.app.now c.least_in_queues.result (least_is c)

pub returns-clause-none : goal.returns-clause-none
returns-clause-none c = none_waits c.args.parts.now c.args.app.now c.least_in_queues.result (least_is c)
