-- Each link leads there and back, live links are live from both ends, and the index tells the chips of the grid apart.
use Rattle.machine_desc.proofs.Common.{Chip, Description, Dir, IsInside, IsLiveChip, IsLiveLink, None, Option, Some, and_from, and_parts, arith, cases_Bool, chip_eq, cond-false, cond-true, false}
use Rattle.machine_desc.proofs.Common.{false≢true, far_of, index_of, lt-ltb, ltb-true, mul-add-lt, opposite_of, other_than, rules, same_from_place, stepped, x_step, y_step, ◌*◌, ◌<◌, ◌≡◌}
use Rattle.machine_desc.proofs.{Same.same_chip, Same.chip_eq_sym, Axis.x_step-opposite, Axis.y_step-opposite, Axis.stepped_back, Axis.stepped_inside}

pub opposite_of-opposite : (d : Dir) → opposite_of (opposite_of d) ≡ d
opposite_of-opposite d = grind arith

pub inside_parts : (m : Description) (c : Chip) → IsInside m c → (c.x < m.width) × (c.y < m.height)
inside_parts m c h = let parts = and_parts _ _ h in (ltb-true _ _ parts.0, ltb-true _ _ parts.1)

pub inside_from : (m : Description) (c : Chip) → c.x < m.width → c.y < m.height → IsInside m c
inside_from m c p q = and_from _ _ (lt-ltb _ _ p) (lt-ltb _ _ q)

-- a chip that is made of two coordinates has them
other_than-Some : (c e : Chip) (o : Option Chip) → other_than c o ≡ Some e → (o ≡ Some e) × (chip_eq c e ≡ false)
other_than-Some c e o h = grind (arith, cases_Bool, cond-true, cond-false)

pub far_parts : (m : Description) (c e : Chip) (d : Dir) → far_of m c d ≡ Some e →
    (stepped m.wrap m.width (x_step d) c.x ≡ Some e.x) × (stepped m.wrap m.height (y_step d) c.y ≡ Some e.y) × (chip_eq c e ≡ false)
far_parts m c e d h = grind (arith, other_than-Some)

pub far_from : (m : Description) (c e : Chip) (d : Dir) → stepped m.wrap m.width (x_step d) c.x ≡ Some e.x →
    stepped m.wrap m.height (y_step d) c.y ≡ Some e.y → chip_eq c e ≡ false → far_of m c d ≡ Some e
far_from m c e d p q other = grind (arith, cond-false (chip_eq c e) None (Some e) other)

-- a link leads inside the grid
pub far_inside : (m : Description) (c e : Chip) (d : Dir) → IsInside m c → far_of m c d ≡ Some e → IsInside m e
far_inside m c e d h f = grind (arith, inside_parts, far_parts, inside_from, stepped_inside)

-- where a link leads from c to e, the opposite link of e leads to c
pub far_back : (m : Description) (c e : Chip) (d : Dir) → IsInside m c → far_of m c d ≡ Some e → far_of m e (opposite_of d) ≡ Some c
far_back m c e d h f = search (rules, inside_parts, far_parts, x_step-opposite, stepped_back, y_step-opposite, far_from, chip_eq_sym)

pub far_forth : (m : Description) (c e : Chip) (d : Dir) → IsInside m e → far_of m e (opposite_of d) ≡ Some c → far_of m c d ≡ Some e
far_forth m c e d h f = grind (arith, opposite_of-opposite d, far_back m e c (opposite_of d) h f)

-- live chips are inside the grid
pub live_inside : (m : Description) (c : Chip) → IsLiveChip m c → IsInside m c
live_inside m c h = (and_parts _ _ h).0

-- a live link leads from a live chip to a live chip
pub live_ends : (m : Description) (c : Chip) (d : Dir) → IsLiveLink m c d → (e : Chip) × (far_of m c d ≡ Some e) × IsLiveChip m c × IsLiveChip m e
live_ends m c d h = search (rules, false≢true, and_parts)

-- a live link is live from its other end
pub live_back : (m : Description) (c e : Chip) (d : Dir) → far_of m c d ≡ Some e → IsLiveLink m c d → IsLiveLink m e (opposite_of d)
live_back m c e d f h = grind (arith, opposite_of-opposite d, and_parts, far_back, live_inside, and_from)

pub index_below : (m : Description) (c : Chip) → IsInside m c → index_of m c < m.width * m.height
index_below m c h = grind (arith, inside_parts m c h, mul-add-lt c.x m.height c.y m.width (inside_parts m c h).0 (inside_parts m c h).1)

-- two chips of the grid with one index are the same
pub same_index : (m : Description) (a b : Chip) → IsInside m a → IsInside m b → index_of m a ≡ index_of m b → a ≡ b
same_index m a b p q e =
    let at = inside_parts m a p in
    let there = inside_parts m b q in
    let same = same_from_place a.x a.y b.x b.y m.height at.1 there.1 e in
    same_chip a b same.0 same.1
