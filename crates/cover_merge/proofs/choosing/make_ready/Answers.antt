-- The changes of one route more are ready, and those of the others stay.
use Rattle.cover_merge.proofs.Common.{AreNewerOf, IsFirstOfRoute, Row, arith, get_or, get_or_default, length, length-set, subst, sym, true, ◌<◌, ◌∙◌, ◌≡◌}
use Rattle.cover_merge.proofs.{LinkLemmas.route_of, TriedLemmas.newer_ready, choosing.make_ready.Goals.After-index, choosing.make_ready.Goals.After-index-then-not-index}
use Rattle.cover_merge.proofs.choosing.make_ready.Goals as goal

-- each row has a number
inside : (c : After-index) → c.args.i < length c.args.known.now.numbers.items
inside c = omega (arith, c.requires.changes.linked.known.numbers.one_each, c.requires.inside)

-- the number of the row's route
number : (c : After-index) → get_or c.args.known.now.numbers.items c.args.i 0 ≡ c.index.result.now
number c = sym (c.index.ensures ∙ get_or_default c.args.known.now.numbers.items c.args.i c.index.result.now 0 (inside c))

low : (c : After-index) → c.index.result.now < length c.args.known.now.routes.items
low c = omega (arith, number c, c.requires.changes.linked.known.numbers.below c.args.i 0 (inside c))

-- and its bits
bits : (c : After-index) (d : Row) → get_or c.args.known.now.routes.items c.index.result.now 0 ≡ (get_or c.args.rows.now c.args.i d).route.bits
bits c d = grind (arith, number c, route_of (c.args.known.now.routes.items) c.args.rows.now c.args.known.now.numbers.items c.requires.changes.linked.known.numbers c.args.i d c.requires.inside, get_or)

-- the place is that of its first row
first : (c : After-index-then-not-index) → c.index.result.now < length c.args.known.now.routes.items → IsFirstOfRoute c.args.rows.now (get_or c.args.known.now.routes.items c.index.result.now 0) c.index-then-not-index.result.now
first c inside = grind (arith, get_or, get_or_default)

pub returns-in_ok-find_newer-clause-changes : goal.returns-in_ok-find_newer-clause-changes
returns-in_ok-find_newer-clause-changes c =
    let rows = c.args.rows.now in
    let gs = c.args.known.now.times.items in
    let routes = c.args.known.now.routes.items in
    let number = c.index.result.now in
    let old = c.requires.changes in
    let within : number < length routes = low (goal.at.returns-in_ok-find_newer-clause-changes c).After-index in
    let begins = first (goal.at.returns-in_ok-find_newer-clause-changes c).After-index-then-not-index within in
    let found = c.in_ok-find_newer.ensures in
    let own : AreNewerOf (get_or routes number 0) 0 rows gs c.find_newer.new.newer.items = subst (λ l. AreNewerOf (get_or routes number 0) 0 rows l c.find_newer.new.newer.items) c.deref.ensures.value (found.own (get_or routes number 0) begins) in record {
      linked = old.linked;
      places = found.one_each;
      one_each = length-set c.args.changes.now.ready.items number true ∙ old.one_each;
      newer = newer_ready routes rows gs c.args.changes.now.ready.items c.args.changes.now.newer.items c.find_newer.new.newer.items number c.requires.changes.linked.known.once old.one_each within own
          (λ j d in_rows other. found.others (get_or routes number 0) j d begins in_rows other) old.newer;
    }

pub returns-in_ok-find_newer-clause-own : goal.returns-in_ok-find_newer-clause-own
returns-in_ok-find_newer-clause-own c d =
    let rows = c.args.rows.now in
    let gs = c.args.known.now.times.items in
    let routes = c.args.known.now.routes.items in
    let number = c.index.result.now in
    let before = (goal.at.returns-in_ok-find_newer-clause-own c).After-index in
    let begins = first (goal.at.returns-in_ok-find_newer-clause-own c).After-index-then-not-index (low before) in
    subst (λ b. AreNewerOf b 0 rows gs c.find_newer.new.newer.items) (bits before d)
    (subst (λ l. AreNewerOf (get_or routes number 0) 0 rows l c.find_newer.new.newer.items) c.deref.ensures.value (c.in_ok-find_newer.ensures.own (get_or routes number 0) begins))

pub returns-else-not-index-clause-own : goal.returns-else-not-index-clause-own
returns-else-not-index-clause-own c d =
    let before = (goal.at.returns-else-not-index-clause-own c).After-index in
    subst (λ b. AreNewerOf b 0 c.args.rows.now c.args.known.now.times.items c.args.changes.now.newer.items) (bits before d)
    (c.requires.changes.newer c.index.result.now c.index-2.result.now (low before) (sym c.index-2.ensures ∙ c.if-not-index.false))
