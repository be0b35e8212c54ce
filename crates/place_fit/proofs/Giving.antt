-- Cores and memory given back to a board.
use Rattle.place_fit.proofs.Common.{AreFreeOn, AreGiven, AreOthersKept, AreSettled, Board, Bool, Chip, Description, HaveOneGrid, IsCurveLevel, IsFilled, IsFreed, IsJoined, IsMadeWhole, IsWholeBoard}
use Rattle.place_fit.proofs.Common.{IsWith, List, Placed, Some, Spot, [], and_from, and_left, and_right, ap, ap₂, arith, bit_at, bit_at_above, both_ways, cases_Bool, cases_eq, cases_lt, chip_eq}
use Rattle.place_fit.proofs.Common.{chip_eq_same, chip_eq_true, cond, cond-false, cond-true, core_spot, curve_place, false, get_or, get_or-set_other, get_or-set_same, has_spot_on, hilbert, inl, inr}
use Rattle.place_fit.proofs.Common.{is_usable, list_any, list_any-append, nat_tests, or-false, or_from, or_left, or_parts, or_right, refl, room_left, slice_get, slice_get_there, slice_get_within}
use Rattle.place_fit.proofs.Common.{spot_eq, suc, sym, true, zero, ℕ, ◌++◌, ◌<◌, ◌==◌, ◌^◌, ◌||◌, ◌∙◌, ◌∷◌, ◌≡◌, ◌≢◌, ◌≤◌}
use Rattle.place_fit.proofs.{CurveLaws.place_at, Standing.usable_parts}

-- ---- one spot

module _ (old mid new : Board) (s : Spot) (place : ℕ) (level : mid.level ≡ old.level)
    (sdram : mid.sdram ≡ old.sdram) (chips : mid.chips ≡ old.chips) (rooms : mid.rooms ≡ old.rooms)
    (at : slice_get old.chips place ≡ Some s.chip) (kept : (q : ℕ) → q ≢ place → get_or mid.cores.items q 0 ≡ get_or old.cores.items q 0)
    (made : IsMadeWhole place mid new) where
  on_curve : (q : ℕ) (c : Chip) → slice_get old.chips q ≡ Some c → slice_get (hilbert old.level) q ≡ Some c
  on_curve q c here = ap (λ l. slice_get l q) (sym old.curve) ∙ here

  apart : (q : ℕ) (c : Chip) → slice_get old.chips q ≡ Some c → q ≢ place → chip_eq c s.chip ≡ false
  apart q c here other =
      elim (cases_Bool (chip_eq c s.chip)) [
        | inl same ↦ absurd (
            let one : c ≡ s.chip = chip_eq_true c s.chip same in
            other (sym (place_at old.level q c (on_curve q c here)) ∙ (ap (curve_place old.level) one ∙ place_at old.level place s.chip (on_curve place s.chip at)))
            )
        | inr differ ↦ differ
      ]

  here_chip : (q : ℕ) (c : Chip) → slice_get old.chips q ≡ Some c → q ≡ place → c ≡ s.chip
  here_chip q c here same = grind (arith, slice_get old.chips)

  has_here : (q : ℕ) (c : Chip) → slice_get old.chips q ≡ Some c → q ≡ place → has_spot_on c (s ∷ []) ≡ true
  has_here q c here same = or-false (chip_eq c s.chip) ∙ (ap (λ d. chip_eq d s.chip) (here_chip q c here same) ∙ chip_eq_same s.chip)

  pub settled_one : AreSettled (s ∷ []) old new
  settled_one = grind (arith, get_or, cases_eq, slice_get_within, get_or-set_same, cond-true, has_here, get_or-set_other, cond-false, or-false, apart, both_ways)

  -- the spot is no core
  given_none : mid.cores.items ≡ old.cores.items → 18 ≤ s.core → AreGiven (s ∷ []) old new
  given_none same high = grind (arith, settled_one, made.cores, nat_tests, get_or, apart, cond-false, or-false, and_right)

  given_one : IsJoined (get_or old.cores.items place 0) s.core (get_or mid.cores.items place 0) → AreGiven (s ∷ []) old new
  given_one joined = record {
    settled = settled_one;
    free = λ q c here p low.
        let given : Bool = list_any (spot_eq (core_spot c p)) (s ∷ []) in
        elim (cases_eq q place) [
          | inl same ↦ (
              let bits : get_or new.cores.items q 0 ≡ get_or mid.cores.items place 0 = ap₂ (λ (l : List ℕ) (i : ℕ). get_or l i 0) made.cores same in
              elim (cases_eq p s.core) [
                | inl core ↦ grind (arith, given, or-false (spot_eq (core_spot c p) s), get_or old.cores.items q 0, here_chip q c here same, chip_eq_same s.chip, nat_tests, and_from, cond-true)
                | inr differ ↦ grind (arith, given, or-false (spot_eq (core_spot c p) s), and_right (chip_eq c s.chip) (p == s.core) (grind (arith, nat_tests)), get_or old.cores.items q 0, cond-false)
              ]
              )
          | inr other ↦
              grind (arith, given, or-false (spot_eq (core_spot c p) s), and_left (chip_eq c s.chip) (p == s.core) (apart q c here other), apart q c here other, get_or old.cores.items q 0, cond-false)
        ];
  }

pub given : (old mid new : Board) (s : Spot) (place : ℕ) → IsFreed place s.core old mid → slice_get old.chips place ≡ Some s.chip
    → IsMadeWhole place mid new → AreGiven (s ∷ []) old new
given old mid new s place freed at made =
    elim (cases_lt s.core 18) [
      | inl low ↦ given_one old mid new s place freed.level freed.sdram freed.chips freed.rooms at freed.others made (freed.low low)
      | inr high ↦ given_none old mid new s place freed.level freed.sdram freed.chips freed.rooms at freed.others made (freed.high high) high
    ]

-- ---- one spot after others

pub few_push : (xs : List ℕ) (x : ℕ) → ((q : ℕ) → get_or xs q 0 < 2 ^ 18) → x < 2 ^ 18 → (q : ℕ) → get_or (xs ++ x ∷ []) q 0 < 2 ^ 18
few_push [] x all low zero = low
few_push [] x all low (suc q) = all q
few_push (y ∷ ys) x all low zero = all 0
few_push (y ∷ ys) x all low (suc q) = few_push ys x (λ k. all (suc k)) low q

-- a vertex more leaves the chips without spots as they were
pub kept_more : (spots : List Spot) (a b c : Board) (place sdram : ℕ) (r : Placed) → AreOthersKept spots a b → IsFilled place sdram b c r → AreOthersKept (spots ++ r.spot ∷ []) a c
kept_more spots a b c place sdram r kept filled = grind (arith, slice_get b.chips, chip_eq_same r.spot.chip, get_or b.rooms place 0, or_parts, list_any-append, both_ways, or-false, get_or-set_other)

pub settled_none : (b : Board) → AreSettled [] b b
settled_none b = record { level = refl; sdram = refl; chips = refl; rooms = λ q c here. refl; cores = λ q c here none. refl }

module _ (spots : List Spot) (s : Spot) (a b c : Board) where
  both : (d : Chip) → has_spot_on d (spots ++ s ∷ []) ≡ (has_spot_on d spots || has_spot_on d (s ∷ []))
  both d = list_any-append (λ (t : Spot). chip_eq d t.chip) spots (s ∷ [])

  pub settled_more : AreSettled spots a b → AreSettled (s ∷ []) b c → AreSettled (spots ++ s ∷ []) a c
  settled_more first then = record {
    level = then.level ∙ first.level;
    sdram = then.sdram ∙ first.sdram;
    chips = then.chips ∙ first.chips;
    rooms = λ q d here.
        let there : slice_get b.chips q ≡ Some d = ap (λ l. slice_get l q) first.chips ∙ here in
        let all : Bool = has_spot_on d (spots ++ s ∷ []) in
        let x : ℕ = room_left (get_or c.cores.items q 0) a.sdram in
        let y : ℕ = get_or a.rooms q 0 in
        elim (cases_Bool (has_spot_on d (s ∷ []))) [
          | inl last ↦ then.rooms q d there
              ∙ (cond-true (has_spot_on d (s ∷ [])) (room_left (get_or c.cores.items q 0) b.sdram) (get_or b.rooms q 0) last
              ∙ (ap (room_left (get_or c.cores.items q 0)) first.sdram
              ∙ sym (cond-true all x y (both d ∙ or_right (has_spot_on d spots) (has_spot_on d (s ∷ [])) last))))
          | inr not_last ↦ (
              let read : get_or c.rooms q 0 ≡ get_or b.rooms q 0 =
              then.rooms q d there ∙ cond-false (has_spot_on d (s ∷ [])) (room_left (get_or c.cores.items q 0) b.sdram) (get_or b.rooms q 0) not_last in
              let cores : get_or c.cores.items q 0 ≡ get_or b.cores.items q 0 = then.cores q d there not_last in
              elim (cases_Bool (has_spot_on d spots)) [
                | inl before ↦ grind (arith, cond-true, get_or, both, or_left)
                | inr never ↦ grind (arith, cond-false, get_or, both, or_from)
              ]
              )
        ];
    cores = grind (arith, or_parts, slice_get, both);
  }

  pub given_more : AreGiven spots a b → AreGiven (s ∷ []) b c → AreGiven (spots ++ s ∷ []) a c
  given_more first then = record {
    settled = settled_more first.settled then.settled;
    free = λ q d here p low.
        let there : slice_get b.chips q ≡ Some d = ap (λ l. slice_get l q) first.settled.chips ∙ here in
        let test : Spot → Bool = spot_eq (core_spot d p) in
        let all : Bool = list_any test (spots ++ s ∷ []) in
        let is_all : all ≡ (list_any test spots || list_any test (s ∷ [])) = list_any-append test spots (s ∷ []) in
        let old : ℕ = bit_at (get_or a.cores.items q 0) p in
        let mid : ℕ = bit_at (get_or b.cores.items q 0) p in
        elim (cases_Bool (list_any test (s ∷ []))) [
          | inl last ↦ then.free q d there p low
              ∙ (cond-true (list_any test (s ∷ [])) 1 mid last ∙ sym (cond-true all 1 old (is_all ∙ or_right (list_any test spots) (list_any test (s ∷ [])) last)))
          | inr not_last ↦ grind (arith, cond-false (list_any test (s ∷ [])) 1 mid not_last, cases_Bool (list_any test spots), cond-true, or_from, or_left)
        ];
  }

-- ---- what a board is then

pub kept_same : (spots : List Spot) (b : Board) → AreOthersKept spots b b
kept_same spots b = record { level = refl; sdram = refl; chips = refl; cores = λ q c here none. refl; rooms = λ q c here none. refl }

pub whole_again : (spots : List Spot) (old mid new : Board) → IsWholeBoard old → AreOthersKept spots old mid → AreSettled spots mid new → IsWholeBoard new
whole_again spots old mid new whole kept settled = record {
  rooms = λ q inside.
      let (c, at_new) = slice_get_there new.chips q inside in
      let at_mid : slice_get mid.chips q ≡ Some c = ap (λ l. slice_get l q) (sym settled.chips) ∙ at_new in
      let at : slice_get old.chips q ≡ Some c = ap (λ l. slice_get l q) (sym kept.chips) ∙ at_mid in
      let sdram : mid.sdram ≡ new.sdram = sym settled.sdram in
      settled.rooms q c at_mid
      ∙ elim (cases_Bool (has_spot_on c spots)) [
        | inl has ↦ cond-true (has_spot_on c spots) (room_left (get_or new.cores.items q 0) mid.sdram) (get_or mid.rooms q 0) has ∙ ap (room_left (get_or new.cores.items q 0)) sdram
        | inr none ↦ grind (arith, cond-false, get_or, slice_get_within)
      ];
}

pub same_curve : (m n : Description) (k j : ℕ) → HaveOneGrid m n → j ≡ k → IsCurveLevel m k → IsCurveLevel n j
same_curve m n k j grid same level = grind arith

-- no core from 18 on is usable
pub high_bit : (m : Description) (c : Chip) (cores p : ℕ) → cores < 2 ^ 18 → 18 ≤ p → bit_at cores p ≡ cond (is_usable m (core_spot c p)) 1 0
high_bit m c cores p few high = grind (arith, cases_Bool (is_usable m (core_spot c p)), bit_at_above cores 18 p few high, usable_parts, cond-false)

cond_or : (a b : Bool) → cond b 1 (cond a 1 0) ≡ cond (a || b) (let one : ℕ = 1 in one) 0
cond_or a b = grind arith

pub free_with : (spots : List Spot) (m n : Description) (old new : Board) → AreFreeOn m old → IsWith spots m n → AreGiven spots old new → AreFreeOn n new
free_with spots m n old new free more given = record {
  level = same_curve m n old.level new.level more.grid given.settled.level free.level;
  sdram = given.settled.sdram ∙ (free.sdram ∙ sym more.grid.sdram);
  free = λ q c at_new p low.
      let at : slice_get old.chips q ≡ Some c = ap (λ l. slice_get l q) (sym given.settled.chips) ∙ at_new in
      let s : Spot = core_spot c p in
      elim (cases_lt p 18) [
        | inl core ↦ given.free q c at p core
            ∙ (ap (cond (list_any (spot_eq s) spots) 1) (free.free q c at p low)
            ∙ (cond_or (is_usable m s) (list_any (spot_eq s) spots) ∙ ap (λ (t : Bool). cond t 1 0) (sym (more.usable s))))
        | inr high ↦ high_bit n c (get_or new.cores.items q 0) p (new.few q) high
      ];
}
