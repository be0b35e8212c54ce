use Rattle.ner_trees.proofs.Common.{arith, ints, of_z, pos, to_z, unsigned_abs, w32, ◌-ℤ◌, ◌≡◌, ◌≤◌}
use Rattle.ner_trees.proofs.Signed.{torus_steps}
use Rattle.ner_trees.proofs.displacements.on_torus.Goals as goal

pub returns-clause-value : goal.returns-clause-value
returns-clause-value c =
    let ea : to_z w32 (of_z w32 c.difference-a.result) ≡ pos c.args.across.place = omega (arith, ints, c.difference-a.ensures) in
    let eb : to_z w32 (of_z w32 c.difference-b.result) ≡ pos c.args.up.place = omega (arith, ints, c.difference-b.ensures) in
    let ex : to_z w32 (of_z w32 c.difference-behind.result) ≡ pos c.args.across.place -ℤ pos c.args.across.places = omega (arith, ints, c.difference-behind.ensures) in
    let ey : to_z w32 (of_z w32 c.difference-below.result) ≡ pos c.args.up.place -ℤ pos c.args.up.places = omega (arith, ints, c.difference-below.ensures) in
    torus_steps c.args.across.places c.args.up.places c.args.across.place c.args.up.place _ _ _ _ _ _ _ ea eb ex ey c.or_before.ensures.value c.or_before-2.ensures.value c.or_before-3.ensures.value

pub returns-clause-small : goal.returns-clause-small
returns-clause-small c =
    let sa : to_z w32 (of_z w32 c.difference-a.result) ≡ pos c.args.across.place = omega (arith, ints, c.difference-a.ensures) in
    let sb : to_z w32 (of_z w32 c.difference-b.result) ≡ pos c.args.up.place = omega (arith, ints, c.difference-b.ensures) in
    let sx : to_z w32 (of_z w32 c.difference-behind.result) ≡ pos c.args.across.place -ℤ pos c.args.across.places = omega (arith, ints, c.difference-behind.ensures) in
    let sy : to_z w32 (of_z w32 c.difference-below.result) ≡ pos c.args.up.place -ℤ pos c.args.up.places = omega (arith, ints, c.difference-below.ensures) in
    let a : unsigned_abs (to_z w32 (of_z w32 c.difference-a.result)) ≤ 64 = omega (arith, ints, sa, c.args.across.few, c.args.across.inside) in
    let b : unsigned_abs (to_z w32 (of_z w32 c.difference-b.result)) ≤ 64 = omega (arith, ints, sb, c.args.up.few, c.args.up.inside) in
    let x : unsigned_abs (to_z w32 (of_z w32 c.difference-behind.result)) ≤ 64 = omega (arith, ints, sx, c.args.across.few, c.args.across.inside) in
    let y : unsigned_abs (to_z w32 (of_z w32 c.difference-below.result)) ≤ 64 = omega (arith, ints, sy, c.args.up.few, c.args.up.inside) in
    c.or_before-3.ensures.small (c.or_before-2.ensures.small (c.or_before.ensures.small (a, b) (x, b)) (a, y)) (x, y)
