-- From the mask of eight comparisons to the entries that were compared.
use Rattle.std.proofs.Common.{rules, ◌≡◌, ℕ, ◌+◌, ◌-◌, ◌%◌, ◌^◌, ◌<◌, ◌≤◌, eqb, cond, Bool, true, false, not, List, map, length, get_or, take, drop, replicate, bit_and, sym, ap, ◌∙◌, arith}
use Rattle.std.proofs.lemmas.{Bool.not-true, Bool.not-false, List.map-id, List.length-take-le, List.length-drop, List.length-replicate, List.get_or-take, List.get_or-drop, List.get_or-replicate}
use Rattle.std.proofs.lemmas.{List.Sums.prefix_len-le-length, List.Sums.prefix_len_passes, List.Sums.prefix_len_stops, Simd.mask_l-mod, Simd.length-chunk, Simd.length-zip2, Simd.get_or-chunk}
use Rattle.std.proofs.lemmas.Simd.{get_or-zip2, first_set_mask_l, tops_compared}
use Rattle.std.specs.{Int.w32, List.prefix_len}
use lib.Lanes.{chunk, zip2, mask_l, top}
use Rattle.tcam_find.specs.Lanes.{first_set}

-- eight lanes of a row, from at on
abbrev lanes : List ℕ → ℕ → List ℕ
lanes row at = chunk 0 8 (take (at + 8 - at) (drop at row))

long : (row : List ℕ) (at : ℕ) → at + 8 ≤ length row → length (lanes row at) ≡ 8
long row at room = search (rules, length-take-le, length-drop, length-chunk)

lane : (row : List ℕ) (at k : ℕ) → k < 8 → get_or (lanes row at) k 0 ≡ get_or row (at + k) 0
lane row at k inside = grind (arith, get_or-chunk 0 8 (take (at + 8 - at) (drop at row)) k 0 inside, get_or-take (at + 8 - at) (drop at row) k 0 (omega arith), get_or-drop at row k 0, get_or)

module _ (keys masks : List ℕ) (at key r : ℕ) (in_keys : at + 8 ≤ length keys) (in_masks : at + 8 ≤ length masks)
    (found : r ≡ first_set (mask_l (map (top 31) (zip2 (λ a b. cond (eqb a b) (2 ^ 32 - 1) 0) (zip2 bit_and (replicate 8 key) (lanes masks at)) (lanes keys at))) % 2 ^ 64)) where
  abbrev kept : List ℕ
  kept = zip2 bit_and (replicate 8 key) (lanes masks at)

  abbrev tests : List Bool
  tests = zip2 eqb kept (lanes keys at)

  kept_long : length kept ≡ 8
  kept_long = length-zip2 bit_and (replicate 8 key) (lanes masks at) (length-replicate 8 key ∙ sym (long masks at in_masks)) ∙ length-replicate 8 key

  tests_long : length tests ≡ 8
  tests_long = length-zip2 eqb kept (lanes keys at) (kept_long ∙ sym (long keys at in_keys)) ∙ kept_long

  test_at : (k : ℕ) → k < 8 → get_or tests k false ≡ eqb (bit_and key (get_or masks (at + k) 0)) (get_or keys (at + k) 0)
  test_at k inside =
      get_or-zip2 eqb kept (lanes keys at) k 0 0 false (omega (arith, kept_long)) (omega (arith, long keys at in_keys))
      ∙ ap (λ b. eqb (get_or kept k 0) b) (lane keys at k inside)
      ∙ ap (λ a. eqb a (get_or keys (at + k) 0))
      (get_or-zip2 bit_and (replicate 8 key) (lanes masks at) k 0 0 0 (omega (arith, length-replicate 8 key)) (omega (arith, long masks at in_masks))
      ∙ ap (λ b. bit_and (get_or (replicate 8 key) k 0) b) (lane masks at k inside)
      ∙ ap (λ a. bit_and a (get_or masks (at + k) 0)) (get_or-replicate 8 k key 0 inside))

  counted : r ≡ prefix_len not tests
  counted =
      let same = tops_compared w32 eqb kept (lanes keys at) in
      let mask = ap (λ l. mask_l l % 2 ^ 64) (same ∙ sym (map-id tests)) ∙ mask_l-mod (map (λ (b : Bool). b) tests) 64 (omega (arith, ap length (map-id tests), tests_long)) in
      found ∙ ap first_set mask ∙ first_set_mask_l (λ b. b) tests 8 tests_long (omega arith)

  pub lane_within : r ≤ 8
  lane_within = omega (arith, counted, tests_long, prefix_len-le-length not tests)

  pub lane_before : (k : ℕ) → k < r → eqb (bit_and key (get_or masks (at + k) 0)) (get_or keys (at + k) 0) ≡ false
  lane_before k before =
      sym (test_at k (omega (arith, lane_within))) ∙ not-true _ (prefix_len_passes not tests k false (omega (arith, counted)))

  pub lane_found : r < 8 → eqb (bit_and key (get_or masks (at + r) 0)) (get_or keys (at + r) 0) ≡ true
  lane_found short =
      sym (test_at r short)
      ∙ ap (λ i. get_or tests i false) counted
      ∙ not-false _ (prefix_len_stops not tests false (omega (arith, counted, tests_long)))
