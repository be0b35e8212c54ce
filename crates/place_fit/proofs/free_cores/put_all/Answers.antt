use Rattle.place_fit.proofs.Common.{All-at, None, Some, Vertex, [], ap, arith, length, length_push, refl, slice_get, slice_get_read, ◌++◌, ◌+◌, ◌∙◌, ◌∷◌, ◌≡◌}
use Rattle.place_fit.proofs.{Giving.kept_more, Giving.kept_same, SpotLaws.none_for_core, SpotLaws.placed_more, SpotLaws.placed_none, SpotLaws.has_no_room, SpotLaws.stands_here, SpotLaws.stood_on_core}
use Rattle.place_fit.proofs.free_cores.put_all.Goals as goal

pub loop-i-init : goal.loop-i-init
loop-i-init c = record {
  each_one = ap length c.requires.no_spot;
  kept = kept_same c.args.spots.now.items c.args.board.now;
  placed = λ m free. rw (c.requires.no_spot, c.requires.no_memory) (placed_none m c.args.vertices.now c.args.board.now c.requires.whole free);
}

pub returns-in_err-reserve_one-clause-placed : goal.returns-in_err-reserve_one-clause-placed
returns-in_err-reserve_one-clause-placed c m free = rw (c.reserve_one.ensures.spots, c.reserve_one.ensures.memory) (c.loop-i.invariant.placed m free)

pub overflow_cast-result : goal.overflow_cast-result
overflow_cast-result c = record { fits = omega (arith, c.loop-i-test.true, c.requires.few) }

pub returns-in_default-clause-placed : goal.returns-in_default-clause-placed
returns-in_default-clause-placed c m free =
    rw (c.reserve_one.ensures.spots, c.reserve_one.ensures.memory, c.in_default.ensures.kept) (c.loop-i.invariant.placed m free)

pub returns-in_default-clause-why : goal.returns-in_default-clause-why
returns-in_default-clause-why c m free =
    let vertices = c.args.vertices.now in
    let i = c.loop-i.i in
    let v = c.index-vertices-i.result in
    let is : slice_get vertices i ≡ Some v = slice_get_read vertices _ i v refl c.loop-i-test.true c.index-vertices-i.is in
    let placed = c.loop-i.invariant.placed m free in
    let here = c.loop-i.invariant.each_one in
    has_no_room m vertices i v is c.loop-i.spots.items here c.loop-i.memory.items c.loop-i.board placed
    (none_for_core m _ c.loop-i.spots.items c.loop-i.board (stands_here m vertices i v is c.loop-i.spots.items here c.loop-i.memory.items c.loop-i.board placed) v
    (All-at (λ (w : Vertex). w.device ≡ None) vertices i v c.requires.cores is) c.in_default.ensures.none)

pub loop-i-preserved : goal.loop-i-preserved
loop-i-preserved c =
    let vertices = c.args.vertices.now in
    let i = c.loop-i.i in
    let v = c.index-vertices-i.result in
    let is : slice_get vertices i ≡ Some v = slice_get_read vertices _ i v refl c.loop-i-test.true c.index-vertices-i.is in
    let inv = c.loop-i.invariant in
    let r = c.in-Some.placed in
    let put = c.in-Some.ensures.placed in
    let spots = c.loop-i.spots.items in
    let memory = c.loop-i.memory.items in
    let pushed : c.push_reserved.new.self.items ≡ spots ++ r.spot ∷ [] = c.push_reserved.ensures.items ∙ ap (λ l. l ++ r.spot ∷ []) c.reserve_one.ensures.spots in
    let noted : c.push_reserved-in-loop-i.new.self.items ≡ memory ++ r.memory ∷ [] = c.push_reserved-in-loop-i.ensures.items ∙ ap (λ l. l ++ r.memory ∷ []) c.reserve_one.ensures.memory in
    record {
      each_one = ap length pushed ∙ (length_push spots r.spot ∙ ap (λ n. n + 1) inv.each_one);
      kept = grind (arith, kept_more spots c.args.board.now c.loop-i.board c.put_on_core.new.self put.place v.sdram r inv.kept put.filled);
      placed = λ m free.
          let placed = inv.placed m free in
          let stands = stands_here m vertices i v is spots inv.each_one memory c.loop-i.board placed in
          let stood =
          stood_on_core m _ spots c.loop-i.board stands v c.put_on_core.new.self r (All-at (λ (w : Vertex). w.device ≡ None) vertices i v c.requires.cores is) put in
          rw (pushed, noted) (placed_more m vertices i v is spots inv.each_one memory c.loop-i.board placed c.put_on_core.new.self r stood);
    }
