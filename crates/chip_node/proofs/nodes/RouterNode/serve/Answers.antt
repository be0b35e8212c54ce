use Rattle.chip_node.proofs.Common.{DumpRec, Holdings, List, McCopy, SendsBehind, WithRoom, [], ap, place_at_router, subst, ◌++◌, ◌∙◌, ◌∷◌}
use Rattle.chip_node.proofs.{Sending.dumped_recorded, Sending.dumped_room, Sending.sent_recorded, Sending.sent_room, Flows.ready_router_on, Placing.served_goes, Placing.unsent_items}
use Rattle.chip_node.proofs.nodes.RouterNode.serve.Goals as goal

pub returns-in-Sent-clause-goes : goal.returns-in-Sent-clause-goes
returns-in-Sent-clause-goes g c =
    let s = c.args.self in
    let place = place_at_router s.behind.now c.args.out in
    let fate = c.send-served.result in
    let a = c.args.hold.now in
    let b = c.send-served.new.hold in
    served_goes c.args.around.capacity c.args.around.patience s.index s.chip place c.args.out c.args.copy fate a b
    (subst (λ (k : McCopy). SendsBehind c.args.around.capacity c.args.around.patience place k fate a.ends.items b.ends.items) c.onward.ensures c.send-served.ensures.sends)
    (unsent_items a b c.send-served.ensures.unsent) c.send-served.ensures.deliveries
    (sent_recorded s.chip c.args.out c.args.copy fate a.dumps b.dumps c.in-Sent.is c.send-served.ensures.dumps)
    (sent_room s.chip c.args.out c.args.copy fate a.dumps b.dumps c.in-Sent.is c.send-served.ensures.dumps)

pub returns-in-Sent-clause-ready : goal.returns-in-Sent-clause-ready
returns-in-Sent-clause-ready g c =
    ready_router_on c.args.around.capacity c.args.around.patience c.args.around.links.now c.args.self c.args.hold.now c.send-served.new.hold _
    (returns-in-Sent-clause-goes g c) c.send-served.ensures.ends c.requires.ready

pub returns-in-Dumped-clause-goes : goal.returns-in-Dumped-clause-goes
returns-in-Dumped-clause-goes g c =
    let s = c.args.self in
    let place = place_at_router s.behind.now c.args.out in
    let fate = c.send-served.result in
    let a = c.args.hold.now in
    let sent = c.send-served.new.hold in
    let b : Holdings = record { ends = sent.ends; unsent = sent.unsent; dumps = c.put.new.self; deliveries = sent.deliveries } in
    let more : List DumpRec = record { chip = s.chip; out = c.args.out; copy = c.args.copy } ∷ [] in
    served_goes c.args.around.capacity c.args.around.patience s.index s.chip place c.args.out c.args.copy fate a b
    (subst (λ (k : McCopy). SendsBehind c.args.around.capacity c.args.around.patience place k fate a.ends.items b.ends.items) c.onward.ensures c.send-served.ensures.sends)
    (unsent_items a sent c.send-served.ensures.unsent) c.send-served.ensures.deliveries
    (dumped_recorded s.chip c.args.out c.args.copy fate a.dumps.items b.dumps.items c.in-Dumped.is (c.put.ensures.items ∙ ap (λ (l : WithRoom DumpRec). l.items ++ more) c.send-served.ensures.dumps))
    (dumped_room s.chip c.args.out c.args.copy fate a.dumps.spare b.dumps.spare c.in-Dumped.is (c.put.ensures.spare ∙ ap (λ (l : WithRoom DumpRec). l.spare) c.send-served.ensures.dumps))

pub returns-in-Dumped-clause-ready : goal.returns-in-Dumped-clause-ready
returns-in-Dumped-clause-ready g c =
    ready_router_on c.args.around.capacity c.args.around.patience c.args.around.links.now c.args.self c.args.hold.now _ _ (returns-in-Dumped-clause-goes g c) c.send-served.ensures.ends
    c.requires.ready
