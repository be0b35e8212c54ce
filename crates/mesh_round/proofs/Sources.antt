-- Each queue into which copies come has one source: an output of a live chip, or the cores of one. So what entered the queues
-- behind all sources is what entered all queues.
use Rattle.mesh_round.proofs.Common.{Among, Bool, Chip, Description, IsLiveChip, IsOutput, List, None, Option, Out, Some, all_once, all_outs, among_filter, ap, arith, both_ways, cases_Bool, chip_eq}
use Rattle.mesh_round.proofs.Common.{chip_eq_same, chip_eq_true, chip_of, chip_of-index_of, cond, count_by, counted, eq-eqb, eqb-true, false, filter, gathered, grid_chips, index_below, index_of}
use Rattle.mesh_round.proofs.Common.{index_of-chip_of, inl, inr, is_live_chip, live_inside, map, nat_eq_same, out_eq, out_eq_same, out_eq_true, range_with_len, refl, subst, suc, sum_by, sum_by-cons}
use Rattle.mesh_round.proofs.Common.{sym, true, true≢false, zero, ℕ, ◌&&◌, ◌*◌, ◌+◌, ◌<◌, ◌==◌, ◌∙◌, ◌∷◌, ◌≡◌, ◌≤◌}
use Rattle.mesh_round.proofs.Sums.{sum_agree, sum_none, sum_filter, sum_map, sum_gathered, sum_at-plain}
use Rattle.mesh_round.proofs.CountSums.{one_if}
pub use Rattle.mesh_run.proofs.OutputBits.{range_parts}

-- ---- each number stands once in a range

before_range : (i a n : ℕ) → i < a → count_by (λ j. i == j) (range_with_len a n) ≡ 0
before_range i a n below =
    sum_none (λ j. cond (i == j) 1 0) _ (λ j there. elim (cases_Bool (i == j)) [ inl same ↦ absurd (later a n j there (omega (arith, below, eqb-true i j same))) | inr other ↦ ap one_if other ])
  where
    later : (a n j : ℕ) → Among j (range_with_len a n) → j < a → ⊥
    later a zero j none low = none
    later a (suc n) j (inl here) low = omega (arith, here, low)
    later a (suc n) j (inr there) low = later (a + 1) n j there (omega (arith, low))

pub once_in_range : (i a n : ℕ) → a ≤ i → i < a + n → count_by (λ j. i == j) (range_with_len a n) ≡ 1
once_in_range i a zero from below = absurd (omega (arith, from, below))
once_in_range i a (suc n) from below =
    let all = sum_by-cons (λ j. one_if (i == j)) a (range_with_len (a + 1) n) in
    elim (cases_Bool (i == a)) [
      | inl same ↦
          let one : one_if (i == a) ≡ 1 = ap one_if same in
          let rest = before_range i (a + 1) n (omega (arith, eqb-true i a same)) in
          omega (arith, all, one, rest)
      | inr other ↦
          let none : one_if (i == a) ≡ 0 = ap one_if other in
          let rest = once_in_range i (a + 1) n (omega (arith, from, differ i a other)) (omega (arith, below)) in
          omega (arith, all, none, rest)
    ]
  where
    differ : (i a : ℕ) → (i == a) ≡ false → i ≡ a → ⊥
    differ i a other same = grind (arith, nat_eq_same i)

-- a number below the end is in the range
pub number_in_range : (i n : ℕ) → i < n → Among i (range_with_len 0 n)
number_in_range i n below = grind (arith, once_in_range i 0 n (omega arith) (omega (arith, below)), counted, Among, eqb-true)

-- ---- each live chip stands once among the live chips, and each output once among the outputs

abbrev pub live_chips : Description → List Chip
live_chips m = filter (is_live_chip m) (grid_chips m)

pub live_of_live_chips : (m : Description) (c : Chip) → Among c (live_chips m) → IsLiveChip m c
live_of_live_chips m c a = (among_filter (is_live_chip m) c (grid_chips m) a).1

pub live_chip_once : (m : Description) (c : Chip) → IsLiveChip m c → count_by (chip_eq c) (live_chips m) ≡ 1
live_chip_once m c live =
    sum_filter (is_live_chip m) (λ e. one_if (chip_eq c e)) (grid_chips m)
    ∙ (sum_agree (λ e. cond (is_live_chip m e) (one_if (chip_eq c e)) 0) (λ e. one_if (chip_eq c e)) (grid_chips m) (λ e a. same e)
    ∙ (sum_map (chip_of m) (λ e. one_if (chip_eq c e)) (range_with_len 0 (m.width * m.height))
    ∙ (sum_agree (λ j. one_if (chip_eq c (chip_of m j))) (λ j. one_if (index_of m c == j)) (range_with_len 0 (m.width * m.height)) by_index
    ∙ once_in_range (index_of m c) 0 (m.width * m.height) (omega arith) (omega (arith, index_below m c (live_inside m c live))))))
  where
    same : (e : Chip) → cond (is_live_chip m e) (one_if (chip_eq c e)) 0 ≡ one_if (chip_eq c e)
    same e = grind (arith, chip_eq_true, true≢false)

    by_index : (j : ℕ) → Among j (range_with_len 0 (m.width * m.height)) → one_if (chip_eq c (chip_of m j)) ≡ one_if (index_of m c == j)
    by_index j a = grind (arith, chip_of-index_of m c (live_inside m c live), live_inside m c live, chip_eq_same c, index_of-chip_of m j, one_if, eq-eqb, eqb-true, chip_eq_true)

-- what a chip's copies come from: its cores, or an output of its router
abbrev pub choices : List (Option Out)
choices = None ∷ map Some all_outs

abbrev pub choice_eq : Option Out → Option Out → Bool
choice_eq None None = true
choice_eq None (Some o) = false
choice_eq (Some o) None = false
choice_eq (Some o) (Some p) = out_eq o p

pub choice_eq_true : (x y : Option Out) → choice_eq x y ≡ true → x ≡ y
choice_eq_true x y is = grind (arith, out_eq_true)

pub choice_eq_same : (x : Option Out) → choice_eq x x ≡ true
choice_eq_same x = grind (arith, out_eq_same)

abbrev pub IsChoice : Option Out → Type 0
IsChoice None = Unit {0}
IsChoice (Some o) = IsOutput o

pub choice_once : (x : Option Out) → IsChoice x → count_by (choice_eq x) choices ≡ 1
choice_once None is =
    let all = sum_by-cons (λ y. one_if (choice_eq None y)) None (map Some all_outs) in
    let rest = sum_map Some (λ y. one_if (choice_eq None y)) all_outs in
    let none = sum_none (λ (o : Out). one_if (choice_eq None (Some o))) all_outs (λ o a. refl) in
    omega (arith, all, rest, none)
choice_once (Some o) is = grind (arith, all_once o is, sum_by-cons, sum_map)

-- each chip with each of its sources
abbrev pub sources : Description → List (Chip × Option Out)
sources m = gathered (λ i c. map (λ x. (c, x)) choices) 0 (live_chips m)

pub sum_sources : (m : Description) (g : Chip × Option Out → ℕ) → sum_by g (sources m) ≡ sum_by (λ c. sum_by (λ x. g (c, x)) choices) (live_chips m)
sum_sources m g =
    sum_gathered g (λ i c. map (λ x. (c, x)) choices) 0 (live_chips m)
    ∙ (sum_at-plain (λ c. sum_by g (map (λ x. (c, x)) choices)) 0 (live_chips m)
    ∙ sum_agree (λ c. sum_by g (map (λ x. (c, x)) choices)) (λ c. sum_by (λ x. g (c, x)) choices) (live_chips m) (λ c a. sum_map (λ x. (c, x)) g choices))

-- the source is this chip's and this choice
abbrev pub source_eq : Chip × Option Out → Chip × Option Out → Bool
source_eq s t = chip_eq s.0 t.0 && choice_eq s.1 t.1

pub source_once : (m : Description) (c : Chip) (x : Option Out) → IsLiveChip m c → IsChoice x → count_by (source_eq (c, x)) (sources m) ≡ 1
source_once m c x live is =
    sum_sources m (λ t. one_if (source_eq (c, x) t))
    ∙ (sum_agree (λ e. sum_by (λ y. one_if (chip_eq c e && choice_eq x y)) choices) (λ e. one_if (chip_eq c e)) (live_chips m) (λ e a. each (chip_eq c e))
    ∙ live_chip_once m c live)
  where
    each : (b : Bool) → sum_by (λ y. one_if (b && choice_eq x y)) choices ≡ one_if b
    each true = choice_once x is
    each false = sum_none (λ y. one_if (false && choice_eq x y)) choices (λ y a. refl)
