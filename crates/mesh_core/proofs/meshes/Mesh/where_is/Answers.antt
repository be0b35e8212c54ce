-- Each search on the way finds the target's copy or shows where it is not, and the walk goes on.
use Rattle.mesh_core.proofs.Common.{Description, Edge, IsEdgeInto, IsFound, IsMesh, IsOfPort, List, None, Out, Port, Some, State, ap, arith, port_behind, site_parts, subst, sym, ℕ, ◌*◌, ◌∙◌, ◌≡◌, ◌≤◌}
use Rattle.mesh_core.proofs.WalkingUp.{Walked, target_is_site, found_at_core, found_at_output, found_at_port, walk_begins, walk_inside, walk_short, walk_goes_on, walk_ends}
use Rattle.mesh_core.proofs.Searching.{edges_inside}
use Rattle.mesh_core.proofs.meshes.Mesh.where_is.Goals as goal

pub out_of-out-requires : goal.out_of-out-requires
out_of-out-requires c =
    (site_parts c.args.self.now.setup.machine c.args.target
    (target_is_site c.args.self.now c.args.net.now c.args.packet c.requires.tracked c.args.target c.requires.is_target
    (subst IsMesh c.self.view_is c.self.invariant))).1

pub returns-in-Some : goal.returns-in-Some
returns-in-Some c = grind (arith, found_at_core c.args.self.now c.args.net.now c.args.packet c.requires.tracked c.args.target c.requires.is_target c.in-Some.found c.in-Some.ensures)

pub loop-init : goal.loop-init
loop-init c =
    subst (λ (o : Out). Walked c.args.self.now c.args.net.now c.args.packet c.args.target 0 c.args.target.chip o) (sym c.out_of-out.ensures)
    (walk_begins c.args.self.now c.args.net.now c.args.packet c.requires.tracked c.args.target c.requires.is_target c.in_default.ensures)

pub at_output-requires : goal.at_output-requires
at_output-requires c = walk_inside _ _ _ c.requires.tracked _ c.requires.is_target (subst IsMesh c.self.view_is c.self.invariant) _ _ _ c.loop.invariant

pub returns-in-Some-at_output : goal.returns-in-Some-at_output
returns-in-Some-at_output c = found_at_output _ _ _ c.requires.tracked _ c.requires.is_target _ _ _ c.loop.invariant _ c.in-Some-at_output.ensures

pub at_port-requires : goal.at_port-requires
at_port-requires c = walk_inside _ _ _ c.requires.tracked _ c.requires.is_target (subst IsMesh c.self.view_is c.self.invariant) _ _ _ c.loop.invariant

pub returns-in-Some-at_port : goal.returns-in-Some-at_port
returns-in-Some-at_port c = found_at_port _ _ _ c.requires.tracked _ c.requires.is_target _ _ _ _ c.loop.invariant _ c.in-Some-at_port.ensures

pub returns-in_default-before : goal.returns-in_default-before
returns-in_default-before c =
    let s : State = c.args.self.now in
    let machine : c.machine-machine.result.now ≡ s.setup.machine = c.machine-machine.ensures ∙ ap (λ (t : State). t.setup.machine) c.self.view_is in
    let none_before : c.edge_into-before.result ≡ None = c.in_default-before.is in
    let port : c.port_behind.result ≡ port_behind None = c.port_behind.ensures ∙ ap port_behind none_before in
    walk_ends s c.args.net.now c.args.packet c.requires.tracked c.args.target c.requires.is_target
    c.loop.counter c.loop.chip c.loop.out c.loop.invariant c.in_default-at_output.ensures
    (subst (λ (m : Description). IsEdgeInto m c.args.net.now.tree.edges c.loop.chip None) machine
    (subst (λ (edges : List Edge). IsEdgeInto c.machine-machine.result.now edges c.loop.chip None) c.as_slice.ensures c.in_default-before.ensures))
    (subst (λ (p : Port). IsFound s c.args.packet (IsOfPort c.loop.chip p) None) port c.in_default-at_port.ensures)

pub loop-preserved : goal.loop-preserved
loop-preserved c =
    let s : State = c.args.self.now in
    let machine : c.machine-machine.result.now ≡ s.setup.machine = c.machine-machine.ensures ∙ ap (λ (t : State). t.setup.machine) c.self.view_is in
    let e : Edge = c.in-Some-before.edge in
    let before : c.edge_into-before.result ≡ Some e = c.in-Some-before.is in
    let port : c.port_behind.result ≡ port_behind (Some e) = c.port_behind.ensures ∙ ap port_behind before in
    walk_goes_on s c.args.net.now c.args.packet c.requires.tracked c.args.target c.requires.is_target
    c.loop.counter c.loop.chip c.loop.out c.loop.invariant c.in_default-at_output.ensures e
    (subst (λ (m : Description). IsEdgeInto m c.args.net.now.tree.edges c.loop.chip (Some e)) machine
    (subst (λ (edges : List Edge). IsEdgeInto c.machine-machine.result.now edges c.loop.chip (Some e)) c.as_slice.ensures c.in-Some-before.ensures))
    (subst (λ (p : Port). IsFound s c.args.packet (IsOfPort c.loop.chip p) None) port c.in_default-at_port.ensures)

pub unreachable-requires : goal.unreachable-requires
unreachable-requires c =
    let s : State = c.args.self.now in
    let m : Description = c.machine-machine.result.now in
    let machine : m ≡ s.setup.machine = c.machine-machine.ensures ∙ ap (λ (t : State). t.setup.machine) c.self.view_is in
    let all : c.chips-end.result ≡ s.setup.machine.width * s.setup.machine.height = c.chips-end.ensures.total ∙ ap (λ (d : Description). d.width * d.height) machine in
    let many : s.setup.machine.width * s.setup.machine.height ≤ c.loop.counter = subst (λ (n : ℕ). n ≤ c.loop.counter) all c.loop-test.false in
    walk_short s c.args.net.now c.args.packet c.requires.tracked c.args.target c.requires.is_target
    (subst IsMesh c.self.view_is c.self.invariant) c.loop.counter c.loop.chip c.loop.out c.loop.invariant many

pub edge_into-before-requires : goal.edge_into-before-requires
edge_into-before-requires c = grind (arith, edges_inside (c.args.self.now) c.args.net.now c.args.packet c.requires.tracked)
