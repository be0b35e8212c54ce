use Rattle.mesh_run.proofs.Common.{AddsBehind, Chip, Description, ap, chip_of, is_live_chip, live_if, refl, subst, vertices_by, ℕ, ◌*◌, ◌∙◌}
use Rattle.mesh_run.proofs.FloorLaws.{bank_of, floor_more, vertices_found}
use Rattle.mesh_run.proofs.floors.Floor.add.Goals as goal

pub returns : goal.returns
returns c = λ before.
    let u = c.args.setup.now in
    let chip = c.chip_at-chip.ensures.chip ∙ ap (λ (m : Description). chip_of m c.args.index) c.machine.ensures in
    floor_more u c.args.index c.args.self.now _ c.live_chip.result _ before c.in_ok-push.ensures.items
    (c.live_chip.ensures ∙ ap (λ (x : Chip). live_if (is_live_chip u.machine x) x) chip)
    (subst (λ (x : Chip). AddsBehind u x 24 c.args.self.now.behind.items c.push_behind.new.list.items) chip c.in_ok-push_behind.ensures)
    c.in_ok-push-2.ensures.items
    (bank_of u c.args.index _ refl (ap (λ (n : ℕ). 7 * n) (c.chips.ensures.total ∙ ap (λ (m : Description). m.width * m.height) c.machine-2.ensures))
    (vertices_found u c.args.index _ c.every_setup_has_sites.ensures.different c.every_setup_has_sites.ensures.sites (c.in_ok-vertices.ensures ∙ ap (vertices_by u.spots) chip)))
