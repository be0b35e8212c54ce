use Rattle.std.proofs.Common.{◌-◌, ◌*◌, ◌∙◌, arith, ap, sym, length, replicate}
use Rattle.std.proofs.lemmas.Option.{get_or_from_slice_get}
use Rattle.spin_base.proofs.Places.{slice_get_there}
use Rattle.spin_base.specs.Lookup.{lookup}
use Rattle.tcam_find.specs.{Lanes.first_route, Memory.entries_in, Memory.unused}
use Rattle.tcam_find.proofs.MemoryLemmas.{lookup_found, lookup_none, none_routed, passed_all, passed_over}
use Rattle.tcam_find.proofs.memory.Tcam.find.Goals as goal

pub returns-in-Some : goal.returns-in-Some
returns-in-Some c =
    let groups = c.self.inside.held.groups.items in
    let group = c.loop-group.group in
    let at = slice_get_there groups group (omega (arith, c.loop-group-test.true)) in
    let is = c.index.ensures ∙ get_or_from_slice_get groups group at.0 c.index.result.now at.1 in
    lookup_found groups (replicate (1024 - 8 * length groups) unused) group c.args.key c.args.port at.0 c.in-Some.route at.1 c.loop-group.invariant
    (sym c.in-Some.is ∙ c.route_of.ensures ∙ ap (λ it. first_route (entries_in it) c.args.key) is)
    ∙ ap (λ es. lookup es c.args.key c.args.port) c.self.view_is

pub loop-group-preserved : goal.loop-group-preserved
loop-group-preserved c = grind (arith, passed_over, none_routed, get_or_from_slice_get)

pub returns : goal.returns
returns c =
    let groups = c.self.inside.held.groups.items in
    c.undecided.ensures
    ∙ lookup_none groups (1024 - 8 * length groups) c.args.key c.args.port
    (passed_all groups c.loop-group.group c.args.key (omega (arith, c.loop-group-test.false)) c.loop-group.invariant)
    ∙ ap (λ es. lookup es c.args.key c.args.port) c.self.view_is
