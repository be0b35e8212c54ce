use Rattle.std.proofs.Common.{rules}
use Rattle.place_fit.proofs.Common.{AreCores, Chip, Description, List, Some, [], ap, arith, cases_lt, get_or, get_or-set_other, get_or-set_same, get_or_append_left, get_or_from_slice_get, get_or_push}
use Rattle.place_fit.proofs.Common.{inl, inr, is_usable, length, length-replicate, length-set, length_push, pow-add, room_left, set, slice_get, slice_get_within, subst, sym, ℕ, ◌*◌, ◌++◌, ◌+◌, ◌<◌}
use Rattle.place_fit.proofs.Common.{◌^◌, ◌∙◌, ◌∷◌, ◌≡◌}
use Rattle.place_fit.proofs.{CurveLaws.hilbert_length, Giving.few_push}
use Rattle.place_fit.proofs.boards.Board.whole.Goals as goal

cores_there : (m : Description) (chips : List Chip) (q i : ℕ) (d e : Chip) (free : ℕ) → q ≡ i → slice_get chips q ≡ Some d
    → AreCores (is_usable m) (get_or chips i e) free → AreCores (is_usable m) d free
cores_there m chips q i d e free one at cores = grind (arith, get_or_from_slice_get chips q d e at, get_or)

pub loop-place-init : goal.loop-place-init
loop-place-init c =
    let n = c.level_of-level.result in
    let both : 2 * n ≡ n + n = omega arith in
    let wide : 2 ^ (2 * n) ≡ 2 ^ n * 2 ^ n = ap (λ (k : ℕ). 2 ^ k) both ∙ pow-add 2 n n in
    record {
      cores = ap length c.new-cores.ensures.items;
      rooms = ap length c.in_ok-rooms.ensures ∙ (length-replicate (2 ^ (2 * n)) 0 ∙ (wide ∙ (sym (hilbert_length n) ∙ sym (ap length (c.as_slice-chip-items.ensures ∙ c.in_ok-chips.ensures)))));
      few = λ q. subst (λ (l : List ℕ). get_or l q 0 < 2 ^ 18) (sym c.new-cores.ensures.items) (omega arith);
      free = λ q d low is. absurd (omega (arith, low));
      whole = λ q low. absurd (omega (arith, low));
    }

pub loop-place-preserved : goal.loop-place-preserved
loop-place-preserved c =
    let m = c.args.machine.now in
    let chips = c.as_slice-chip-items.result.now in
    let i = c.loop-place.place in
    let old = c.loop-place.cores.items in
    let rooms = c.loop-place.rooms in
    let free = c.usable_cores-free.result in
    let room = c.room_left.result in
    let v = c.loop-place.invariant in
    let pushed : c.push.new.self.items ≡ old ++ free ∷ [] = c.in_ok-push.ensures.items in
    let written : c.set.new.self ≡ set rooms i room = c.set.ensures in
    let earlier : (q : ℕ) → q < i → get_or (old ++ free ∷ []) q 0 ≡ get_or old q 0 = λ q before. get_or_append_left old (free ∷ []) 0 q (omega (arith, before, v.cores)) in
    let last : (q : ℕ) → q ≡ i → get_or (old ++ free ∷ []) q 0 ≡ free = λ q one. get_or_push old free 0 q (v.cores ∙ sym one) in
    record {
      cores = ap length pushed ∙ (length_push old free ∙ ap (λ n. n + 1) v.cores);
      rooms = ap length written ∙ (length-set rooms i room ∙ v.rooms);
      few = λ q. subst (λ (l : List ℕ). get_or l q 0 < 2 ^ 18) (sym pushed) (few_push old free v.few c.usable_cores-free.ensures.few q);
      free = λ q d low at. subst (λ (l : List ℕ). AreCores (is_usable m) d (get_or l q 0)) (sym pushed) (elim (cases_lt q i) [
        | inl before ↦ subst (AreCores (is_usable m) d) (sym (earlier q before)) (v.free q d before at)
        | inr from ↦ (
            let one : q ≡ i = omega (arith, low, from) in
            subst (AreCores (is_usable m) d) (sym (last q one)) (cores_there m chips q i d _ free one at c.usable_cores-free.ensures.cores)
            )
      ]);
      whole = λ q low. ap (λ (l : List ℕ). get_or l q 0) written ∙ (elim (cases_lt q i) [
        | inl before ↦ grind (arith, get_or-set_other, get_or)
        | inr from ↦ grind (arith, get_or-set_same rooms i room 0 (omega (arith, c.loop-place-test.true, v.rooms)), get_or)
      ]);
    }

pub returns-clause-free : goal.returns-clause-free
returns-clause-free c = search (rules, slice_get, slice_get_within)
