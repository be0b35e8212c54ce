-- The list of the row is written anew.
use Rattle.cover_merge.proofs.Common.{AllPairs, IsPutIn, Rival, [], filter_same, get_or, get_or_default, rivals_left, rules, set, ◌∙◌, ◌≡◌, ◌≤◌}
use Rattle.cover_merge.proofs.{ApplyLemmas.on_ok, PutInLemmas.left_is, PutInLemmas.left_ordered, PutInLemmas.put_written}
use Rattle.cover_merge.proofs.carrying.renew.Goals as goal

pub returns-clause-own : goal.returns-clause-own
returns-clause-own c =
    let serials = c.args.rivals.now.serials.items in
    let of = c.args.rivals.now.of.items in
    let place = get_or serials c.args.s 0 in
    let same : c.index-serial.result.now ≡ place = c.index-serial.ensures ∙ get_or_default serials c.args.s c.index-serial.result.now 0 c.requires.inside in
    let left = c.retain.new.self.items in
    let is : left ≡ rivals_left serials c.args.places.now (get_or of place []) =
    left_is serials c.args.places.now of c.index-serial.result.now place same c.requires.below left c.index_mut.result.now c.into_vec-list.result.items c.index_mut.ensures.value (c.into_vec-list.ensures ∙ c.replace.ensures.value)
    (filter_same _ _ _ (λ x b f' k. search rules) _ _ c.retain.ensures.filtered) in
    on_ok c.put_rival-done.result (AllPairs (λ (v w : Rival). v.general ≤ w.general) left → IsPutIn c.args.merged left c.put_rival-done.new.list.items)
    (AllPairs (λ (v w : Rival). v.general ≤ w.general) (get_or of place [])
    → IsPutIn c.args.merged (rivals_left serials c.args.places.now (get_or of place [])) (get_or (set (set of c.index-serial.result.now c.replace.new.dest) c.index-serial.result.now c.from_vec.result) place []))
    (λ put ordered. put_written serials c.args.places.now of c.index-serial.result.now place same c.requires.below left c.args.merged c.put_rival-done.new.list.items
    c.replace.new.dest c.from_vec.result is c.from_vec.ensures
    (put (left_ordered serials c.args.places.now of c.index-serial.result.now place same c.requires.below left ordered is)))
    c.put_rival-done.ensures
