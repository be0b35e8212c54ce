use Rattle.key_alloc.proofs.Common.{AreKeysFreeBeside, AreRuns, Block, FreeKeys, List, [], arith, in_range, is_free, is_hole_range, not, refl, size_of, subst, sym, true, ℕ, ◌&&◌, ◌++◌, ◌<◌, ◌∙◌, ◌∷◌}
use Rattle.key_alloc.proofs.Common.{◌≡◌, ◌≢◌}
use Rattle.key_alloc.proofs.Taking.{below_frontier, least_from_fit, beyond_from_fit, none_from_fit, open_before, taken_more}
use Rattle.key_alloc.proofs.free.FreeKeys.take.Goals as goal

pub returns-in-Some-clause-small : goal.returns-in-Some-clause-small
returns-in-Some-clause-small c =
    let taken = c.requires.0 in
    let state = c.loop-place.invariant taken c.requires.1 in
    let fit = rw c.in-Some.is at c.in_ok-place.ensures.found in
    omega (arith, below_frontier taken c.loop-place.self state c.args.size.keys c.args.size.some c.in-Some.place fit.fits, state.limit, c.args.size.some)

pub returns-in-Some-clause-least : goal.returns-in-Some-clause-least
returns-in-Some-clause-least c taken before =
    let free = c.loop-place.self in
    let state = c.loop-place.invariant taken before in
    let fit = rw c.in-Some.is at c.in_ok-place.ensures.found in
    least_from_fit taken free state c.args.size.keys c.args.size.some c.start_of-start.result (c.start_of-start.ensures.before taken state) c.in-Some.place fit

pub returns-in-Some-clause-free : goal.returns-in-Some-clause-free
returns-in-Some-clause-free c taken before b key size =
    let free = c.loop-place.self in
    let state = c.loop-place.invariant taken before in
    let fit = rw c.in-Some.is at c.in_ok-place.ensures.found in
    let free_now = rw c.in-Some.is at c.in_ok-place.ensures.free in
    let fits = subst (λ s. is_hole_range free.below.holes b.key s ≡ true) (sym size) (subst (λ p. is_hole_range free.below.holes p c.args.size.keys ≡ true) (sym key) fit.fits) in
    let P : ℕ → ℕ → Type 0 = λ p s. (k : ℕ) → is_free c.take_from.new.self.holes k ≡ (is_free free.below.holes k && not (in_range p s k)) in
    let now : P b.key (size_of b) = subst (P b.key) (sym size) (subst (λ p. P p c.args.size.keys) (sym key) free_now) in
    let least = least_from_fit taken free state c.args.size.keys c.args.size.some c.start_of-start.result (c.start_of-start.ensures.before taken state) c.in-Some.place fit in
    c.start_at.ensures.free (taken ++ b ∷ [])
    (taken_more taken b free _ state (subst (λ s. 0 < s) (sym size) c.args.size.some) fits
    (subst (λ n. AreRuns 0 n c.take_from.new.self.holes) (c.in_ok-place.ensures.size ∙ state.size) c.in_ok-place.ensures.runs)
    c.in_ok-place.ensures.size refl refl refl now)
    (λ other may. least.least other (open_before taken b c.args.size.keys other may))

pub returns-then-self-eq-ALL_KEYS-clause-none : goal.returns-then-self-eq-ALL_KEYS-clause-none
returns-then-self-eq-ALL_KEYS-clause-none c taken before =
    let state = c.loop-place.invariant taken before in
    let none = rw c.in_default.is at c.in_ok-place.ensures.none in
    none_from_fit taken c.loop-place.self state c.args.size.keys c.args.size.some c.start_of-start.result (c.start_of-start.ensures.before taken state) none.0 c.if-self-eq-ALL_KEYS.true

-- nothing was taken from the region
same_below : (taken : List Block) (free after : FreeKeys) → after.below ≡ free.below → after.frontier ≡ free.frontier → after.ahead ≡ free.ahead → after.starts ≡ free.starts
    → AreKeysFreeBeside taken free → AreKeysFreeBeside taken after
same_below taken free after below frontier ahead starts state = rw (below, frontier, ahead, starts) state

pub go_on-requires : goal.go_on-requires
go_on-requires c =
    let taken = c.requires.0 in
    let state = c.loop-place.invariant taken c.requires.1 in
    let none = rw c.in_default.is at c.in_ok-place.ensures.none in (
      taken,
      c.start_at-in-loop-place.ensures.free taken (same_below taken c.loop-place.self _ none.1 refl refl refl state)
          (beyond_from_fit taken c.loop-place.self state c.args.size.keys c.args.size.some c.start_of-start.result (c.start_of-start.ensures.before taken state) none.0),
    )

pub loop-place-smaller : goal.loop-place-smaller
loop-place-smaller c =
    let state = c.loop-place.invariant c.requires.0 c.requires.1 in
    let less : c.loop-place.self.frontier ≢ 4294967296 = c.if-self-eq-ALL_KEYS.false in
    let same = c.start_at-in-loop-place.ensures.frontier in
    let further : c.start_at-in-loop-place.new.self.frontier < c.go_on.new.self.frontier = c.in_ok-go_on.ensures.further (omega (arith, state.limit, less, same)) in
    omega (arith, state.limit, less, further, same)

pub loop-place-preserved : goal.loop-place-preserved
loop-place-preserved c taken before =
    let state = c.loop-place.invariant taken before in
    let none = rw c.in_default.is at c.in_ok-place.ensures.none in
    c.in_ok-go_on.ensures.free taken (c.start_at-in-loop-place.ensures.free taken (same_below taken c.loop-place.self _ none.1 refl refl refl state)
    (beyond_from_fit taken c.loop-place.self state c.args.size.keys c.args.size.some c.start_of-start.result (c.start_of-start.ensures.before taken state) none.0))
