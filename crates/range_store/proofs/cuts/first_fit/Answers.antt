use Rattle.range_store.proofs.Common.{Hole, ap, arith, cases_eq, get_or, inl, inr, is_hole_range, length, rules, slice_get-get_or, take, ◌-◌, ◌<◌, ◌∙◌, ◌≡◌}
use Rattle.range_store.proofs.{Beginnings.none_before, RunLemmas.end_below, RunLemmas.first_is_least}
use Rattle.range_store.proofs.cuts.first_fit.Goals as goal

pub loop-at-init : goal.loop-at-init
loop-at-init c q behind even =
    let hs = c.args.holes.list.now in
    let count = c.begin_before.result in
    let first : c.saturating_sub-first.result ≡ count - 1 = c.saturating_sub-first.ensures in
    elim (cases_eq count 0) [
      | inl none ↦ (let zero : c.saturating_sub-first.result ≡ 0 = omega (arith, first, none) in ap (λ n. is_hole_range (take n hs) q c.args.claim.size) zero)
      | inr some ↦ (
          let inside : count - 1 < length hs = omega (arith, c.begin_before.ensures.within, some) in
          let d : Hole = record { place = 0; len = 0 } in
          let begins = c.begin_before.ensures.before (count - 1) (get_or hs (count - 1) d) (omega (arith, some)) (slice_get-get_or hs (count - 1) d inside) in
          ap (λ n. is_hole_range (take n hs) q c.args.claim.size) first ∙ none_before 0 4294967296 hs (count - 1) c.args.claim.from q c.args.claim.size d c.args.holes.runs inside begins behind
          )
    ]

pub fit_in-requires : goal.fit_in-requires
fit_in-requires c = end_below 0 4294967296 c.args.holes.list.now c.loop-at.at _ c.args.holes.runs c.loop-at-test.true

pub returns-in-Some-clause-first : goal.returns-in-Some-clause-first
returns-in-Some-clause-first c =
    first_is_least 0 4294967296 c.args.holes.list.now c.loop-at.at _ c.args.claim.from c.args.claim.size c.args.claim.align c.in-Some.place c.args.holes.runs
    (slice_get-get_or c.args.holes.list.now c.loop-at.at _ c.loop-at-test.true) c.in-Some.ensures.least c.loop-at.invariant c.args.claim.some

pub returns-in-Some-clause-at : goal.returns-in-Some-clause-at
returns-in-Some-clause-at c = search (rules, slice_get-get_or, end_below)
