use Rattle.std.proofs.Common.{rules, ◌+◌, ◌-◌, ◌*◌, ◌/◌, ◌%◌, length, arith, sym, ap, ◌∙◌, replicate, slice_get}
use Rattle.std.proofs.lemmas.Option.{get_or_from_slice_get}
use Rattle.spin_base.proofs.Places.{slice_get-append_left, slice_get_there}
use Rattle.tcam_find.specs.Memory.{entries_held, entries_in, entries_of_groups, unused}
use Rattle.tcam_find.proofs.MemoryLemmas.{get_behind_groups, get_in_groups, length_held}
use Rattle.tcam_find.proofs.memory.Tcam.entry.Goals as goal

pub returns-then-group-len-clause-at_place : goal.returns-then-group-len-clause-at_place
returns-then-group-len-clause-at_place c =
    let groups = c.self.inside.held.groups.items in
    let group = c.args.place / 8 in
    let at = slice_get_there groups group (omega (arith, c.if-group-len.true, c.len.ensures, c.self.inside.held.groups.ok.0)) in
    let is = c.index.ensures ∙ get_or_from_slice_get groups group at.0 c.index.result.now at.1 in
    ap (λ es. slice_get es c.args.place) (sym c.self.view_is)
    ∙ ap (slice_get (entries_held groups)) (omega arith)
    ∙ slice_get-append_left (entries_of_groups groups) (replicate (1024 - 8 * length groups) unused) (8 * group + c.args.place % 8) c.entry.result
    (get_in_groups groups group (c.args.place % 8) at.0 c.entry.result at.1 (ap (λ it. slice_get (entries_in it) (c.args.place % 8)) (sym is) ∙ c.entry.ensures))

pub returns-then-group-len-clause-size : goal.returns-then-group-len-clause-size
returns-then-group-len-clause-size c = ap length (sym c.self.view_is) ∙ length_held c.self.inside.held.groups.items c.self.inside.held.few

pub returns-else-group-len-clause-at_place : goal.returns-else-group-len-clause-at_place
returns-else-group-len-clause-at_place c = search (rules, get_behind_groups, slice_get)

pub returns-else-group-len-clause-size : goal.returns-else-group-len-clause-size
returns-else-group-len-clause-size c = ap length (sym c.self.view_is) ∙ length_held c.self.inside.held.groups.items c.self.inside.held.few
