-- Waves of chips, and the walks that lead back over them.
use Rattle.link_detours.proofs.Common.{AreWaves, Chip, Description, Dir, Edge, IsBestStep, IsDetour, IsIn, IsInside, IsLastLink, IsReachedBy, IsSpread, IsStepFrom, IsStepLevel, IsTreeChip}
use Rattle.link_detours.proofs.Common.{IsTreeLevel, IsWave, IsWithinLinks, LeadsTo, List, [], ap, append-nil, append_assoc, arith, between, between_to_end, cases_eq, cases_lt, dir_number, drop}
use Rattle.link_detours.proofs.Common.{drop_at, far_inside, get_or, inl, inr, length, length-append, opposite_of, refl, same_dir, subst, suc, sum_by, sum_by-cons, sym, take, take_at, zero, ℕ, ◌++◌}
use Rattle.link_detours.proofs.Common.{◌+◌, ◌-◌, ◌<◌, ◌↔◌, ◌∙◌, ◌∷◌, ◌≡◌, ◌≤◌}
use Rattle.link_detours.proofs.{Reaching.link_inside, Reaching.link_turned, Stepping.IsReachedBy-map, Stepping.reached_has}

module _ (m : Description) (IsStart : Chip → Type 0) where
  -- the next wave is the last one spread
  pub next_wave : (n : ℕ) (set more : List ℕ) → IsWave m IsStart n set → length more ≡ m.width →
      ((c : Chip) → IsInside m c → IsIn more c ↔ IsSpread m set c) → IsWave m IsStart (suc n) more
  next_wave n set more wave long spread = record {
    long = long;
    told = λ c inside. (λ bit. within c inside ((spread c inside).0 bit), λ near. (spread c inside).1 (came c inside near.0 near.1 near.2));
  }
    where
      within : (c : Chip) → IsInside m c → IsSpread m set c → IsWithinLinks m IsStart (suc n) c
      within c inside (inl bit) = let near = (wave.told c inside).0 bit in (near.0, (let low : near.0 ≤ n = near.1 in omega (arith, low)), near.2)
      within c inside (inr leads) =
          let d : Dir = leads.0 in
          let e : Chip = leads.1.0 in
          let e_inside : IsInside m e = far_inside m c e d inside leads.1.2 in
          let near = (wave.told e e_inside).0 leads.1.3 in
          let back = link_turned m e c d leads.1.1 leads.1.2 in
          (suc near.0, (let low : near.0 ≤ n = near.1 in omega (arith, low)), (near.2.0, near.2.1, (e, near.2.2, (opposite_of d, back.0, back.1))))

      came : (c : Chip) → IsInside m c → (k : ℕ) → k ≤ suc n → IsReachedBy (LeadsTo m) IsStart k c → IsSpread m set c
      came c inside zero low by = inl ((wave.told c inside).1 (0, omega arith, by))
      came c inside (suc k) low by = grind (arith, link_inside m (by.2.0) (by.2.2).0 (by.2.2).1, link_turned m c (by.2.0) (by.2.2).0 (by.2.2).1 (by.2.2).2)

  -- a set that has the starts and spreads no more has all chips that are reached
  pub dry : (set more : List ℕ) → ((c : Chip) → IsInside m c → IsStart c → IsIn set c) → more ≡ set →
      ((c : Chip) → IsInside m c → IsIn more c ↔ IsSpread m set c) → (n : ℕ) (c : Chip) → IsInside m c → IsReachedBy (LeadsTo m) IsStart n c → IsIn set c
  dry set more starts same spread n c inside by =
      reached_has (LeadsTo m) IsStart (λ (x : Chip). IsInside m x → IsIn set x) (λ a start within. starts a within start) (λ b x has link within.
      let back = link_turned m x b link.0 link.1 link.2 in
      subst (λ s. IsIn s x) same ((spread x within).1 (inr (opposite_of link.0, (b, back.0, back.1, has (link_inside m b link.0 link.1)))))) n c by inside

  -- the first wave with a chip has its level as its number
  pub level_is : (n : ℕ) (set : List ℕ) (c : Chip) → IsInside m c → IsWave m IsStart n set → IsIn set c →
      ((k : ℕ) → k < n → IsReachedBy (LeadsTo m) IsStart k c → ⊥) → IsStepLevel (LeadsTo m) IsStart c n
  level_is n set c inside wave bit off =
      let near = (wave.told c inside).0 bit in
      let low : near.0 ≤ n = near.1 in
      let is : near.0 ≡ n = elim (cases_lt near.0 n) [ inl below ↦ absurd (off near.0 below near.2) | inr from ↦ omega (arith, low, from) ] in
      record {
        reached = subst (λ k. IsReachedBy (LeadsTo m) IsStart k c) is near.2;
        least = λ k by. elim (cases_lt k n) [ inl below ↦ absurd (off k below by) | inr from ↦ from ];
      }

  -- a chip off the wave is not reached so soon
  pub off_wave : (n : ℕ) (set : List ℕ) (c : Chip) → IsInside m c → IsWave m IsStart n set → (IsIn set c → ⊥) →
      (k : ℕ) → k < suc n → IsReachedBy (LeadsTo m) IsStart k c → ⊥
  off_wave n set c inside wave off k below by = off ((wave.told c inside).1 (k, omega (arith, below), by))

  -- the last wave has the last words, and those before it the others
  pub last_wave : (n : ℕ) (words : List ℕ) → 0 < length words → AreWaves m IsStart n words → (k : ℕ) × (n ≡ suc k) × (m.width ≤ length words)
      × ((at : ℕ) → at + m.width ≡ length words → AreWaves m IsStart k (take at words) × IsWave m IsStart k (drop at words))
  last_wave n words some its_3 = grind (arith, length-append, take_at, drop_at)

  -- no words, no waves
  pub no_waves : (n : ℕ) (words : List ℕ) → 0 < m.width → length words ≡ 0 → AreWaves m IsStart n words → n ≡ 0
  no_waves n words wide none its_4 = grind (arith, length-append)

-- over other words for the same starts
pub AreWaves-same : (m : Description) (P Q : Chip → Type 0) → ((c : Chip) → P c → Q c) → ((c : Chip) → Q c → P c) → (n : ℕ) (words : List ℕ) →
    AreWaves m P n words → AreWaves m Q n words
AreWaves-same m P Q on back zero words none = none
AreWaves-same m P Q on back (suc n) words (before, wave, is, waves, last) = grind (arith, AreWaves-same m P Q on back n before waves, IsReachedBy-map)

module _ (m : Description) (root : Chip) (tree : List Edge) where
  -- the best step from a wave into a chip of the next level comes from a chip of the level before
  pub step_level : (n : ℕ) (set : List ℕ) (c : Chip) (e : Edge) → IsWave m (IsTreeChip m root tree) n set → IsTreeLevel m root tree c (suc n) →
      IsBestStep m set c e → IsTreeLevel m root tree e.chip n
  step_level n set c e wave level best =
      let inside : IsInside m e.chip = link_inside m e.chip e.dir best.0.0 in
      let near = (wave.told e.chip inside).0 best.0.2 in
      let low : near.0 ≤ n = near.1 in
      let more : (k : ℕ) → IsReachedBy (LeadsTo m) (IsTreeChip m root tree) k e.chip → n ≤ k = λ k by.
      let far : suc n ≤ suc k = level.least (suc k) (by.0, by.1, (e.chip, by.2, (e.dir, best.0.0, best.0.1))) in omega (arith, far) in
      let high : n ≤ near.0 = more near.0 near.2 in
      let is : near.0 ≡ n = omega (arith, low, high) in
      record { reached = subst (λ k. IsReachedBy (LeadsTo m) (IsTreeChip m root tree) k e.chip) is near.2; least = more }

  -- and it is the last link of its detour
  pub last_link_is : (n : ℕ) (set : List ℕ) (c : Chip) (e : Edge) → IsWave m (IsTreeChip m root tree) n set → IsTreeLevel m root tree c (suc n) →
      IsBestStep m set c e → IsLastLink m root tree c e
  last_link_is n set c e wave level best = grind (arith, step_level n set c e wave level best, link_inside)

  -- and there is such a step
  pub some_step : (n : ℕ) (set : List ℕ) (c : Chip) → IsWave m (IsTreeChip m root tree) n set → IsTreeLevel m root tree c (suc n) →
      ((e : Edge) → IsStepFrom m set c e → ⊥) → ⊥
  some_step n set c wave level none =
      let by = level.reached in
      let b : Chip = by.2.0 in
      let link = by.2.2 in
      let bit : IsIn set b = (wave.told b (link_inside m b link.0 link.1)).1 (n, omega arith, (by.0, by.1, by.2.1)) in
      none (record { chip = b; dir = link.0 }) (link.1, link.2, bit)

  -- a chip of level 0 is one of the tree
  pub on_tree : (c : Chip) → IsTreeLevel m root tree c 0 → IsTreeChip m root tree c
  on_tree c level = let by = level.reached in subst (λ (x : Chip). IsTreeChip m root tree x) by.2 by.1

  -- the way back so far, and one link more
  pub way_more : (target at : Chip) (items done : List Edge) (e : Edge) → items ≡ tree ++ done →
      ((rest : List Edge) → IsDetour m root tree at rest → IsDetour m root tree target (done ++ rest)) → IsLastLink m root tree at e →
      (items ++ e ∷ [] ≡ tree ++ (done ++ e ∷ []))
      × ((rest : List Edge) → IsDetour m root tree e.chip rest → IsDetour m root tree target ((done ++ e ∷ []) ++ rest))
  way_more target at items done e is way last = grind (arith, append_assoc)

  pub way_ends : (target at : Chip) (done : List Edge) →
      ((rest : List Edge) → IsDetour m root tree at rest → IsDetour m root tree target (done ++ rest)) →
      IsTreeChip m root tree at → IsDetour m root tree target done
  way_ends target at done way on = subst (λ es. IsDetour m root tree target es) (append-nil done) (way [] on)

-- the words that were put behind others
pub added_words : (old last new : List ℕ) (from : ℕ) → new ≡ old ++ last → from ≡ length old → between from (length new) new ≡ last
added_words old last new from is at = between_to_end new from (length new) (omega arith) ∙ (ap (drop from) is ∙ drop_at old last from (sym at))

-- words that rise, and with them their sum
pub sums_rise : (xs ys : List ℕ) → length xs ≡ length ys → ((k : ℕ) → get_or xs k 0 ≤ get_or ys k 0) →
    (sum_by (λ n. n) xs ≤ sum_by (λ n. n) ys) × (sum_by (λ n. n) xs ≡ sum_by (λ n. n) ys → xs ≡ ys)
sums_rise [] [] same rises = (omega arith, λ _. refl)
sums_rise [] (y ∷ ys) same rises = absurd (omega (arith, same))
sums_rise (x ∷ xs) [] same rises = absurd (omega (arith, same))
sums_rise (x ∷ xs) (y ∷ ys) same rises =
    let rest = sums_rise xs ys (omega (arith, same)) (λ k. rises (suc k)) in
    let first : x ≤ y = rises 0 in
    let low : sum_by (λ n. n) xs ≤ sum_by (λ n. n) ys = rest.0 in
    let left : sum_by (λ n. n) (x ∷ xs) ≡ x + sum_by (λ n. n) xs = sum_by-cons (λ n. n) x xs in
    let right : sum_by (λ n. n) (y ∷ ys) ≡ y + sum_by (λ n. n) ys = sum_by-cons (λ n. n) y ys in (
      omega (arith, first, low, left, right),
      λ e.
          let head : x ≡ y = omega (arith, first, low, left, right, e) in
          let tail : xs ≡ ys = rest.1 (omega (arith, first, low, left, right, e)) in
          ap (λ z. z ∷ xs) head ∙ ap (λ zs. y ∷ zs) tail,
    )

-- one link more has no step
pub next_link : (m : Description) (set : List ℕ) (at : Chip) (i : ℕ) (d : Dir) → dir_number d ≡ i →
    ((b : Chip) → IsStepFrom m set at (record { chip = b; dir = d }) → ⊥) → ((f : Edge) → IsStepFrom m set at f → i ≤ dir_number f.dir) →
    (f : Edge) → IsStepFrom m set at f → i + 1 ≤ dir_number f.dir
next_link m set at i d is none from f step = grind (arith, cases_eq (dir_number f.dir) i, same_dir)
