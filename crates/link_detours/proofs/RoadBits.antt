-- Words whose bits tell which links live.
use Rattle.link_detours.proofs.Common.{Chip, Description, Dir, IsLiveLink, List, [], ap, arith, below_six, bit_at, bit_at_set_other, bit_at_set_same, bit_or, bits, cases_eq, dir_number, false}
use Rattle.link_detours.proofs.Common.{false≢true, get_or, get_or_append_left, get_or_at, inl, inr, is_live_link, length, length-append, same_dir, same_from_place, subst, sym, w64, ℕ, ◌%◌, ◌*◌, ◌++◌}
use Rattle.link_detours.proofs.Common.{◌+◌, ◌<◌, ◌^◌, ◌↔◌, ◌∙◌, ◌∷◌, ◌≡◌, ◌≤◌}

abbrev pub chip_of_column : ℕ → ℕ → Chip
chip_of_column x y = record { x = x; y = y }

-- the word tells which of the links live, of the chips below this one
pub record TellsTo (m : Description) (x : ℕ) (d : Dir) (word i : ℕ) : Type 0 where
  pub told : (y : ℕ) → y < i → (bit_at word y ≡ 1) ↔ IsLiveLink m (chip_of_column x y) d
  pub clear : (y : ℕ) → i ≤ y → bit_at word y ≡ 0

pub TellsTo-set : (m : Description) (x : ℕ) (d : Dir) (word i : ℕ) → i < 64 → IsLiveLink m (chip_of_column x i) d → TellsTo m x d word i →
    TellsTo m x d (bit_or word (1 * 2 ^ i % 2 ^ bits w64)) (i + 1)
TellsTo-set m x d word i few lives so_far = record {
  told = λ y below. elim (cases_eq y i) [
    | inl here ↦ (
      λ _. subst (λ k. IsLiveLink m (chip_of_column x k) d) (sym here) lives,
      λ _. subst (λ k. bit_at (bit_or word (1 * 2 ^ i % 2 ^ bits w64)) k ≡ 1) (sym here) (bit_at_set_same w64 word i few),
    )
    | inr other ↦
        let same : bit_at (bit_or word (1 * 2 ^ i % 2 ^ bits w64)) y ≡ bit_at word y = bit_at_set_other w64 word i few y other in
        let known = so_far.told y (omega arith) in
        (λ set. known.0 (sym same ∙ set), λ live. same ∙ known.1 live)
  ];
  clear = λ y from. bit_at_set_other w64 word i few y (λ same. absurd (omega arith)) ∙ so_far.clear y (omega arith);
}

pub TellsTo-skip : (m : Description) (x : ℕ) (d : Dir) (word i : ℕ) → is_live_link m (chip_of_column x i) d ≡ false → TellsTo m x d word i →
    TellsTo m x d word (i + 1)
TellsTo-skip m x d word i dead so_far = record {
  told = λ y below. elim (cases_eq y i) [
    | inl here ↦ (
      λ set. absurd (let clear : bit_at word y ≡ 0 = so_far.clear y (omega arith) in omega (arith, clear, set)),
      λ live. absurd (false≢true (sym dead ∙ subst (λ k. IsLiveLink m (chip_of_column x k) d) here live)),
    )
    | inr other ↦ so_far.told y (omega arith)
  ];
  clear = λ y from. so_far.clear y (omega arith);
}

-- the words of the links below this place
pub record RoadsTo (m : Description) (words : List ℕ) (i : ℕ) : Type 0 where
  pub long : length words ≡ i
  pub told : (x y : ℕ) (d : Dir) → x * 6 + dir_number d < i → y < m.height →
      (bit_at (get_or words (x * 6 + dir_number d) 0) y ≡ 1) ↔ IsLiveLink m (chip_of_column x y) d

-- and one word more
pub RoadsTo-more : (m : Description) (words : List ℕ) (i x word : ℕ) (d : Dir) → x * 6 + dir_number d ≡ i →
    ((y : ℕ) → y < m.height → (bit_at word y ≡ 1) ↔ IsLiveLink m (chip_of_column x y) d) →
    RoadsTo m words i → RoadsTo m (words ++ word ∷ []) (i + 1)
RoadsTo-more m words i x word d at tells so_far = record {
  long = length-append words (word ∷ []) ∙ ap (λ n. n + 1) so_far.long;
  told = λ z y f below inside. elim (cases_eq (z * 6 + dir_number f) i) [
    | inl here ↦
        let parts = same_from_place z (dir_number f) x (dir_number d) 6 (below_six f) (below_six d) (here ∙ sym at) in
        let link : f ≡ d = same_dir f d parts.1 in
        let read : get_or (words ++ word ∷ []) (z * 6 + dir_number f) 0 ≡ word = get_or_at words word [] 0 (z * 6 + dir_number f) (so_far.long ∙ sym here) in
        let known = tells y inside in (
          λ set. subst (λ (o : Dir). IsLiveLink m (chip_of_column z y) o) (sym link)
              (subst (λ k. IsLiveLink m (chip_of_column k y) d) (sym parts.0) (known.0 (ap (λ n. bit_at n y) (sym read) ∙ set))),
          λ live. ap (λ n. bit_at n y) read ∙ known.1 (subst (λ k. IsLiveLink m (chip_of_column k y) d) parts.0
              (subst (λ (o : Dir). IsLiveLink m (chip_of_column z y) o) link live)),
        )
    | inr other ↦
        let before : z * 6 + dir_number f < i = omega arith in
        let same : get_or (words ++ word ∷ []) (z * 6 + dir_number f) 0 ≡ get_or words (z * 6 + dir_number f) 0 =
        get_or_append_left words (word ∷ []) 0 (z * 6 + dir_number f) (subst (λ n. z * 6 + dir_number f < n) (sym so_far.long) before) in
        let known = so_far.told z y f before inside in
        (λ set. known.0 (ap (λ n. bit_at n y) (sym same) ∙ set), λ live. ap (λ n. bit_at n y) same ∙ known.1 live)
  ];
}
