use Rattle.place_fit.proofs.Common.{ap, arith, get_or, slice_get, sym, ℕ, ◌∙◌, ◌≡◌}
use Rattle.place_fit.proofs.CurveLaws.{place_at}
use Rattle.place_fit.proofs.boards.Board.named.Goals as goal

pub returns-else-get-from-clause-none : goal.returns-else-get-from-clause-none
returns-else-get-from-clause-none c q is =
    let b = c.args.self.now in
    let p = c.in_ok-place.place in
    let on = ap (λ l. slice_get l p) (sym b.curve) ∙ c.in_ok-place.ensures.there in
    let at = ap (λ l. slice_get l q) (sym b.curve) ∙ is in
    let here : p ≡ q = sym (place_at b.level p c.args.chip on) ∙ place_at b.level q c.args.chip at in
    let room = ap (λ (i : ℕ). get_or b.rooms i 0) here in
    omega (arith, room, c.get.ensures, c.from.ensures, c.if-get-from.false)
