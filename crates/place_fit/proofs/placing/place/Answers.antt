use Rattle.place_fit.proofs.Common.{Some, [], ap, arith, length, length_push, refl, slice_get, slice_get_read, sym, ◌++◌, ◌+◌, ◌∙◌, ◌∷◌, ◌≡◌}
use Rattle.place_fit.proofs.SpotLaws.{finds_none, has_no_room, placed_more, placed_none, stands_here, stood, all_sites, all_on_cores, all_differ}
use Rattle.place_fit.proofs.placing.place.Goals as goal

pub loop-i-init : goal.loop-i-init
loop-i-init c = grind (arith, placed_none c.args.machine.now c.args.graph.now.vertices (c.in_ok-board.board) (c.in_ok-board.ensures).whole (c.in_ok-board.ensures).free)

pub returns-in_default-clause-no_room : goal.returns-in_default-clause-no_room
returns-in_default-clause-no_room c = grind (arith, slice_get, slice_get_read, has_no_room, finds_none, stands_here)

pub loop-i-preserved : goal.loop-i-preserved
loop-i-preserved c =
    let m = c.args.machine.now in
    let inv = c.loop-i.invariant in
    let vertices = c.args.graph.now.vertices in
    let i = c.loop-i.i in
    let v = c.vertex-item.result in
    let r = c.in-Some.placed in
    let spots = c.loop-i.spots in
    let memory = c.loop-i.memory in
    let is : slice_get vertices i ≡ Some v = sym (ap (λ l. slice_get l i) c.as_slice-vertex-items.ensures)
    ∙ slice_get_read c.as_slice-vertex-items.result.now _ i v refl c.loop-i-test.true c.vertex-item.is in
    let pushed : c.push.new.self ≡ spots ++ r.spot ∷ [] = c.in_ok-push.ensures.ok in
    let noted : c.push-in-loop-i.new.self ≡ memory ++ r.memory ∷ [] = c.in_ok-push-2.ensures.ok in
    let stands = stands_here m vertices i v is spots inv.each_one memory c.loop-i.board inv.placed in
    let stood = stood m _ spots c.loop-i.board stands v c.put.new.self r c.in-Some.ensures.placed in
    record {
      each_one = ap length pushed ∙ (length_push spots r.spot ∙ ap (λ n. n + 1) inv.each_one);
      placed = rw (pushed, noted) (placed_more m vertices i v is spots inv.each_one memory c.loop-i.board inv.placed c.put.new.self r stood);
    }

pub returns-clause-different : goal.returns-clause-different
returns-clause-different c = all_differ c.args.machine.now _ c.args.graph.now.vertices c.loop-i.spots c.loop-i.invariant.placed.first c.requires.devices

pub returns-clause-sites : goal.returns-clause-sites
returns-clause-sites c = all_sites c.args.machine.now _ c.args.graph.now.vertices c.loop-i.spots c.loop-i.invariant.placed.first

pub returns-clause-cores : goal.returns-clause-cores
returns-clause-cores c =
    all_on_cores c.args.machine.now _ c.args.graph.now.vertices c.loop-i.spots c.loop-i.invariant.placed.first
    (omega (arith, ap length c.as_slice-vertex-items.ensures, c.loop-i.invariant.placed.first.few, c.loop-i.invariant.each_one, c.loop-i-test.false))
