use Rattle.job_readers.proofs.Common.{[], arith, btree_map_updates_str, length, length-map, map, map_push, said_of, told_of, ◌++◌, ◌∷◌, ◌≡◌}
use Rattle.job_readers.proofs.SlotSteps.{new_in}
use Rattle.job_readers.proofs.names.Names.with_new.Goals as goal

pub invariant_of-result : goal.invariant_of-result
invariant_of-result c =
    let names = said_of c.self.inside in
    let s = c.args.name.now in
    let more : map (λ n. n.now) c.push.new.self.items ≡ names ++ s ∷ [] = rw c.in_ok-push.ensures.items (map_push _ c.self.inside.said.items c.args.name) in
    let count : c.len-count.result ≡ length names = omega (arith, length-map c.self.inside.said.items (λ n. n.now), c.self.inside.said.ok.0) in
    rw more (new_in names s c.self.inside.slots.items (told_of c.self.inside) c.self.invariant c.slot_of-slot.result c.len-count.result _ (rw c.self.view_is c.requires.new) count
    (btree_map_updates_str s c.self.inside.places c.insert.new.self _ c.in_ok-insert.ensures.updates))
