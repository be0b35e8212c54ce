use Rattle.app_loads.proofs.Common.{None, IfSome, List, Option, SendAlone, arith, flat_map, least_own_packet, subst, unsent_numbers, ℕ, ◌≡◌}
use Rattle.app_loads.proofs.LeavingLeast.{least_folded, least_of_senders, none_of_senders}
use Rattle.app_loads.proofs.leaving.least_waiting.Goals as goal

alone : (c : goal.After-least_unsent) → SendAlone c.in-Some.known c.args.parts.now
alone c = subst (λ (o : Option (List ℕ)). IfSome o (λ vertices. SendAlone vertices c.args.parts.now)) c.in-Some.is c.requires.known

least_is : (c : goal.After-least_unsent) → c.least_unsent.result ≡ least_own_packet c.args.app.now (flat_map (unsent_numbers c.args.parts.now.unsent) c.in-Some.known)
least_is c = grind (arith, least_folded c.args.app.now (unsent_numbers c.args.parts.now.unsent) c.in-Some.known None)

pub returns-in-Some-clause-some : goal.returns-in-Some-clause-some
returns-in-Some-clause-some c = least_of_senders c.args.parts.now c.requires.mesh c.args.app.now c.in-Some.known (alone c) c.least_unsent.result (least_is c)

pub returns-in-Some-clause-none : goal.returns-in-Some-clause-none
returns-in-Some-clause-none c = none_of_senders c.args.parts.now c.requires.mesh c.args.app.now c.in-Some.known (alone c) c.least_unsent.result (least_is c)
