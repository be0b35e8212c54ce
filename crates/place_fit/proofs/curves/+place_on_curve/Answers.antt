use Rattle.place_fit.proofs.Common.{ap, ap₂, arith, curve_place, subst, sym, ℕ, ◌*◌, ◌+◌, ◌<◌, ◌∙◌, ◌≡◌}
use Rattle.place_fit.proofs.CurveLaws.{place-zero, told_lower_left, told_upper_left, told_upper_right, told_lower_right}
use Rattle.place_fit.proofs.curves.+place_on_curve.Goals as goal

pub returns-then-level-eq0-clause-place : goal.returns-then-level-eq0-clause-place
returns-then-level-eq0-clause-place t c = sym (ap (λ (l : ℕ). curve_place l c.args.at.chip) c.if-level-eq0.true ∙ place-zero c.args.at.chip)

pub returns-then-c-side-2-clause-place : goal.returns-then-c-side-2-clause-place
returns-then-c-side-2-clause-place t c = grind (arith, told_lower_left)

pub returns-else-c-side-2 : goal.returns-else-c-side-2
returns-else-c-side-2 t c =
    let h = c.half_side-side in
    let r = c.place_on_curve-else-c-side-2 in
    let runs : c.from.result * c.from-2.result ≡ h.result * h.result = ap₂ (λ (a b : ℕ). a * b) c.from.ensures c.from-2.ensures in
    let f = told_upper_left c.args.at.level h.result r.result c.args.at.chip c.if-level-eq0.false c.args.at.small (h.ensures.half (omega arith)) c.args.at.inside
    c.if-c-side.true c.if-c-side-2.false r.ensures.place in
    record { place = ap (λ (n : ℕ). n + r.result) runs ∙ f.0; below = subst (λ (n : ℕ). n + r.result < 4096) (sym runs) f.1 }

pub returns-then-c-side-3 : goal.returns-then-c-side-3
returns-then-c-side-3 t c =
    let h = c.half_side-side in
    let r = c.place_on_curve-then-c-side-3 in
    let runs : c.from.result * c.from-2.result ≡ h.result * h.result = ap₂ (λ (a b : ℕ). a * b) c.from.ensures c.from-2.ensures in
    let f = told_lower_right c.args.at.level h.result r.result c.args.at.chip c.if-level-eq0.false c.args.at.small (h.ensures.half (omega arith)) c.args.at.inside
    c.if-c-side.false c.if-c-side-3.true r.ensures.place in
    record { place = ap (λ (n : ℕ). 3 * n + r.result) runs ∙ f.0; below = subst (λ (n : ℕ). 3 * n + r.result < 4096) (sym runs) f.1 }

pub returns-else-c-side-3 : goal.returns-else-c-side-3
returns-else-c-side-3 t c =
    let h = c.half_side-side in
    let r = c.place_on_curve-else-c-side-3 in
    let runs : c.from.result * c.from-2.result ≡ h.result * h.result = ap₂ (λ (a b : ℕ). a * b) c.from.ensures c.from-2.ensures in
    let f = told_upper_right c.args.at.level h.result r.result c.args.at.chip c.if-level-eq0.false c.args.at.small (h.ensures.half (omega arith)) c.args.at.inside
    c.if-c-side.false c.if-c-side-3.false r.ensures.place in
    record { place = ap (λ (n : ℕ). 2 * n + r.result) runs ∙ f.0; below = subst (λ (n : ℕ). 2 * n + r.result < 4096) (sym runs) f.1 }
