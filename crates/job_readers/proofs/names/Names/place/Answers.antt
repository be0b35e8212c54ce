use Rattle.job_readers.proofs.Common.{MaybePlace, Some, ap, arith, bytes_eq-Decides, name_place_in, refl, said_of, slice_get, slice_get-mapped, slice_get_read, subst, sym, ◌∙◌, ◌≡◌}
use Rattle.job_readers.proofs.SlotSteps.{slotted}
use Rattle.job_readers.proofs.names.Names.place.Goals as goal

pub returns-then-eq : goal.returns-then-eq
returns-then-eq c =
    let names = said_of c.self.inside in
    let i = c.index-at.result.now in
    let said = c.in-Some.said.now in
    let known : MaybePlace names i = subst (MaybePlace names) (sym c.index-at.ensures) (c.self.invariant.places c.slot_of.result i (omega (arith, c.slot_of.ensures, c.len.ensures, c.self.inside.slots.ok.0))) in
    let there : slice_get c.deref.result.now i ≡ Some said = slice_get_read c.deref.result.now _ i said refl c.in-Some.ensures.lookup.3.0 c.in-Some.ensures.lookup.1 in
    let at : slice_get names i ≡ Some said.now = slice_get-mapped (λ n. n.now) c.self.inside.said.items i said (ap (λ l. slice_get l i) (sym c.deref.ensures.value) ∙ there) in
    slotted names said.now i known at
    ∙ ap (name_place_in names) ((bytes_eq-Decides said.now c.args.name.now).0 (sym c.eq.ensures ∙ c.if-eq.true))
    ∙ ap (λ l. name_place_in l c.args.name.now) c.self.view_is
