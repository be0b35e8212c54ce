-- A link that is not live leads to the device on it, if there is one.
use Rattle.mesh_core.proofs.Common.{All, IsSite, Link, Setup, Spot, ap, behind_link, core_queue_of, false, far_of, is_live_link, subst, sym, vertex_at, vertex_behind, ◌+◌, ◌∙◌, ◌≡◌}
use Rattle.mesh_core.proofs.ServingLaws.{vertex_behind-link}
use Rattle.mesh_core.proofs.setups.MeshSetup.behind_link.Goals as goal

pub returns-then-not-link_live-clause-queue : goal.returns-then-not-link_live-clause-queue
returns-then-not-link_live-clause-queue c =
    let u : Setup = c.args.self.now in
    let spot : Spot = record { chip = c.args.c; core = 18 + c.number.result } in
    let dead : is_live_link u.machine c.args.c c.args.link ≡ false =
    subst (λ (t : Setup). is_live_link t.machine c.args.c c.args.link ≡ false) c.self.view_is (sym c.link_live.ensures ∙ c.if-not-link_live.true) in
    let sites : All (IsSite u.machine) u.spots = subst (λ (t : Setup). All (IsSite t.machine) t.spots) c.self.view_is c.self.invariant.sites in
    let there : vertex_behind u.spots c.args.c (Link c.args.link) ≡ vertex_at u.spots spot =
    vertex_behind-link u.machine u.spots spot c.args.link (ap (λ n. 18 + n) c.number.ensures.number) sites in
    c.queue_on.ensures.queue
    ∙ (ap core_queue_of (sym there)
    ∙ sym (ap (λ b. behind_link u c.args.c c.args.link b (far_of u.machine c.args.c c.args.link)) dead))
