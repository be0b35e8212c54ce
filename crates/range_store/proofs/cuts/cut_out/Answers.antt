use Rattle.range_store.proofs.Common.{Some, ap, arith, drop, hole_end, rest_of, set, sym, take, ◌++◌, ◌+◌, ◌-◌, ◌∙◌}
use Rattle.range_store.proofs.RunLemmas.{read_hole, cut_none, cut_left, cut_right, cut_both}
use Rattle.range_store.proofs.cuts.cut_out.Goals as goal

pub overflow_add-after : goal.overflow_add-after
overflow_add-after c = grind (arith, read_hole)

pub overflow_sub-left : goal.overflow_sub-left
overflow_sub-left c =
    let h = read_hole _ c.args.at c.args.place c.args.size c.index-hole.result.now c.requires c.index-hole.ensures in
    h.0

pub overflow_add-right : goal.overflow_add-right
overflow_add-right c =
    let h = read_hole _ c.args.at c.args.place c.args.size c.index-hole.result.now c.requires c.index-hole.ensures in
    record { fits = omega (arith, h.2) }

pub overflow_sub-right : goal.overflow_sub-right
overflow_sub-right c =
    let h = read_hole _ c.args.at c.args.place c.args.size c.index-hole.result.now c.requires c.index-hole.ensures in
    h.1

pub returns-in-0-eq0-clause-ok : goal.returns-in-0-eq0-clause-ok
returns-in-0-eq0-clause-ok c h is =
    let xs = c.args.holes.now.items in
    let f = read_hole xs c.args.at c.args.place c.args.size c.index-hole.result.now c.requires c.index-hole.ensures in
    c.remove.ensures.items
    ∙ cut_none xs c.args.at c.args.place c.args.size c.index-hole.result.now c.requires.inside f.0 f.1 c.in-0-eq0.is-0 c.in-0-eq0.is-1
    ∙ ap (λ z. take c.args.at xs ++ (rest_of c.args.place c.args.size z ++ drop (c.args.at + 1) xs)) (f.3 h is)

pub returns-in-0-default-clause-ok : goal.returns-in-0-default-clause-ok
returns-in-0-default-clause-ok c h is =
    let xs = c.args.holes.now.items in
    let f = read_hole xs c.args.at c.args.place c.args.size c.index-hole.result.now c.requires c.index-hole.ensures in
    cut_right xs c.args.at c.args.place c.args.size c.index-hole.result.now c.requires.inside f.0 f.1 c.in-0-default.is-0 c.in-0-default.is-1.1
    ∙ ap (λ z. take c.args.at xs ++ (rest_of c.args.place c.args.size z ++ drop (c.args.at + 1) xs)) (f.3 h is)

pub returns-in_default-eq0-clause-ok : goal.returns-in_default-eq0-clause-ok
returns-in_default-eq0-clause-ok c h is =
    let xs = c.args.holes.now.items in
    let f = read_hole xs c.args.at c.args.place c.args.size c.index-hole.result.now c.requires c.index-hole.ensures in
    cut_left xs c.args.at c.args.place c.args.size c.index-hole.result.now c.requires.inside f.0 f.1 c.in_default-eq0.is-0.1 c.in_default-eq0.is-1
    ∙ ap (λ z. take c.args.at xs ++ (rest_of c.args.place c.args.size z ++ drop (c.args.at + 1) xs)) (f.3 h is)

pub returns-in_ok-insert-in_default-clause-ok : goal.returns-in_ok-insert-in_default-clause-ok
returns-in_ok-insert-in_default-clause-ok c h is =
    let xs = c.args.holes.now.items in
    let f = read_hole xs c.args.at c.args.place c.args.size c.index-hole.result.now c.requires c.index-hole.ensures in
    ap (λ l. set l (c.args.at + 1) (record { place = c.args.place + c.args.size; len = hole_end c.index-hole.result.now - (c.args.place + c.args.size) }))
    c.in_ok-insert-in_default.ensures.items
    ∙ cut_both xs c.args.at c.args.place c.args.size c.index-hole.result.now c.requires.inside f.0 f.1 c.in_default.is-0.1 c.in_default.is-1.1
    (c.requires.is ∙ ap Some (sym (f.3 c.requires.hole c.requires.is)))
    ∙ ap (λ z. take c.args.at xs ++ (rest_of c.args.place c.args.size z ++ drop (c.args.at + 1) xs)) (f.3 h is)
