use Rattle.link_detours.proofs.Common.{IsLiveLink, Some, bit_at, inside_from, refl, stepped, subst, sym, x_step, y_step, ◌<◌, ◌↔◌, ◌≡◌}
use Rattle.link_detours.proofs.{RoadBits.chip_of_column, Spreading.leading_told}
use Rattle.link_detours.proofs.sets.leading.Goals as goal

pub returns : goal.returns
returns c = λ y high.
    leading_told c.args.column.front.ground.machine.now c.args.column.front.set.now c.args.column.x y c.column_beyond.result _ c.turned.result c.word.result c.args.d
    (subst (λ w. (bit_at w y ≡ 1) ↔ IsLiveLink c.args.column.front.ground.machine.now (chip_of_column c.args.column.x y) c.args.d) (sym c.word.ensures)
    (c.args.column.front.ground.roads_are.told (chip_of_column c.args.column.x y) c.args.d (inside_from c.args.column.front.ground.machine.now (chip_of_column c.args.column.x y) c.args.column.within high)))
    (λ k leads. c.column_beyond.ensures.column c.args.column.front.ground.machine.now.wrap k
    (subst (λ w. stepped c.args.column.front.ground.machine.now.wrap w (x_step c.args.d) c.args.column.x ≡ Some k) (sym c.args.column.front.long) leads))
    refl
    (λ k leads. c.turned.ensures c.args.column.front.ground.machine.now.wrap y k (subst (λ h. y < h) (sym c.height.ensures.value) high)
    (subst (λ h. stepped c.args.column.front.ground.machine.now.wrap h (y_step c.args.d) y ≡ Some k) (sym c.height.ensures.value) leads))
