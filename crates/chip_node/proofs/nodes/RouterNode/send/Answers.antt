use Rattle.chip_node.proofs.Common.{All-at, IsEndOf, None, Option, SendsBehind, arith, refl, slice_get_within, slice_set, subst, sym, ℕ}
use Rattle.chip_node.proofs.Sending.{place_there, sender_sends, sender_stands}
use Rattle.chip_node.proofs.nodes.RouterNode.send.Goals as goal

pub index_mut-requires : goal.index_mut-requires
index_mut-requires g c =
    let there = place_there c.args.self.behind.now c.args.out c.number.result None c.in-Some.behind c.number.ensures c.args.self.outputs c.requires.numbered c.in-Some.is in
    let s = c.requires.ready.senders c.args.out c.in-Some.behind.place there in
    let within = slice_get_within c.args.hold.now.ends.items c.in-Some.behind.place s.end s.stands in
    omega (arith, c.args.hold.now.ends.ok.0)

pub send-requires : goal.send-requires
send-requires g c =
    let there = place_there c.args.self.behind.now c.args.out c.number.result None c.in-Some.behind c.number.ensures c.args.self.outputs c.requires.numbered c.in-Some.is in
    let x = c.index_mut.result.now in
    let s = c.requires.ready.senders c.args.out c.in-Some.behind.place there in
    let stands = sender_stands s x c.index_mut.ensures.value in
    record {
      end = All-at (IsEndOf c.args.around.links.now) c.args.hold.now.ends.items c.in-Some.behind.place x c.requires.ready.ends stands;
      sends = sender_sends s x c.index_mut.ensures.value;
      room = c.requires.room c.in-Some.behind.place x there stands;
    }

pub returns-clause-sends : goal.returns-clause-sends
returns-clause-sends g c =
    let before = c.args.hold.now.ends.items in
    let place = c.in-Some.behind.place in
    let there = place_there c.args.self.behind.now c.args.out c.number.result None c.in-Some.behind c.number.ensures c.args.self.outputs c.requires.numbered c.in-Some.is in
    subst (λ (p : Option ℕ). SendsBehind c.args.around.capacity c.args.around.patience p c.args.copy c.send.result before (slice_set before place c.send.new.self)) (sym there) (record {
      old = c.index_mut.result.now;
      new = c.send.new.self;
      stood = sender_stands (c.requires.ready.senders c.args.out place there) c.index_mut.result.now c.index_mut.ensures.value;
      stands = refl;
      serves = c.send.ensures.served;
    })
