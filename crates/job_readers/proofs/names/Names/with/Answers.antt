use Rattle.job_readers.proofs.Common.{[], map, map_push, name_place_in, said_of, sym, told_of, ◌++◌, ◌∙◌, ◌∷◌, ◌≡◌}
use Rattle.job_readers.proofs.{PlaceSteps.some_is, PlaceSteps.none_is, SlotSteps.known_in}
use Rattle.job_readers.proofs.names.Names.with.Goals as goal

pub invariant_of-result : goal.invariant_of-result
invariant_of-result c =
    let names = said_of c.self.inside in
    let s = c.args.name.now in
    let at : c.place.result ≡ name_place_in names s = cc in
    let there = some_is c.place.result (sym c.is_some-known.ensures ∙ c.if-known.true) in
    let more : map (λ n. n.now) c.push.new.self.items ≡ names ++ s ∷ [] = rw c.in_ok-push.ensures.items (map_push _ c.self.inside.said.items c.args.name) in
    rw more (known_in names s c.self.inside.slots.items (told_of c.self.inside) c.self.invariant there.0 (sym at ∙ there.1))

pub with_new-requires-clause-new : goal.with_new-requires-clause-new
with_new-requires-clause-new c = sym c.place.ensures ∙ none_is c.place.result (sym c.is_some-known.ensures ∙ c.if-known.false)
