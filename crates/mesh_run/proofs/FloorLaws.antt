-- Floors chip by chip: the vertices on a chip, the queues behind its outputs, and that there are few vertices.
use Rattle.mesh_run.proofs.Common.{AddsBehind, All, All-at, AllPairs, AllPairs-apart, AreVerticesOf, Behind, Chip, Contains-at, Contains-filter_map, Contains-from_filter_map, CoreBank, Description}
use Rattle.mesh_run.proofs.Common.{Floor, HasSize, IsBankOf, IsFloorOf, IsFloorSoFar, IsLiveIndex, IsOutput, IsSite, List, Option, Out, Setup, Some, Spot, [], ap, append_assoc, arith, cases_eq}
use Rattle.mesh_run.proofs.Common.{chip_of, few_sites, get_or, get_or-range_with_len, grid_size, index_below, inl, inr, length, length-append, length-range_with_len, length_push, live_inside}
use Rattle.mesh_run.proofs.Common.{live_one, mul-le-mul_left, none-some, out_number, out_number_below, out_number_injective, place_behind, place_in, place_of_slot, port_count, range_with_len, refl}
use Rattle.mesh_run.proofs.Common.{rules, site_inside, slice_get, slice_get-append_left, slice_get-get_or, slice_get-pushed, slice_get_there, subst, suc, sym, vertex_at_stands, vertex_on}
use Rattle.mesh_run.proofs.Common.{vertex_there, vertices_by, ℕ, ◌*◌, ◌++◌, ◌+◌, ◌<◌, ◌∙◌, ◌∷◌, ◌≡◌, ◌≢◌, ◌≤◌}
use Rattle.mesh_run.proofs.Going.{pushed}

-- ---- few vertices

pub few_chips : (m : Description) → HasSize m → m.width * m.height ≤ 4096
few_chips m size = grind (arith, mul-le-mul_left m.width size.height_to_64)

pub few_vertices : (m : Description) (spots : List Spot) → AllPairs (λ a b. a ≢ b) spots → All (IsSite m) spots → HasSize m → length spots ≤ 98304
few_vertices m spots different sites size = omega (arith, few_sites m spots different sites, few_chips m size)

-- ---- lists

pub slice_get-first : {X : Type 0} (xs ys : List X) (i : ℕ) → i < length xs → slice_get (xs ++ ys) i ≡ slice_get xs i
slice_get-first xs ys i below = let x = slice_get_there xs i below in slice_get-append_left xs ys i x.0 x.1 ∙ sym x.1

pub slice_get-second : {X : Type 0} (xs ys : List X) (n : ℕ) → slice_get (xs ++ ys) (length xs + n) ≡ slice_get ys n
slice_get-second [] ys n = let e : 0 + n ≡ n = omega arith in ap (slice_get ys) e
slice_get-second (x ∷ xs) ys n = let e : suc (length xs) + n ≡ suc (length xs + n) = omega arith in ap (slice_get (x ∷ (xs ++ ys))) e ∙ slice_get-second xs ys n

-- ---- the vertices on a chip

spot_is : (spot : Spot) (chip : Chip) (n : ℕ) → spot.chip ≡ chip → spot.core ≡ n → spot ≡ record { chip = chip; core = n }
spot_is spot chip n here number = ap (λ (x : Chip). let t : Spot = record { chip = x; core = spot.core } in t) here ∙ ap (λ (k : ℕ). let t : Spot = record { chip = chip; core = k } in t) number

-- the vertices that are found core by core are those on the chip
pub vertices_found : (u : Setup) (i : ℕ) (vs : List ℕ) → AllPairs (λ a b. a ≢ b) u.spots → All (IsSite u.machine) u.spots → vs ≡ vertices_by u.spots (chip_of u.machine i) → AreVerticesOf u i vs
vertices_found u i vs differ sites is = subst (AreVerticesOf u i) (sym is) (record {
  each = λ v has.
      let found = Contains-from_filter_map (vertex_on u.spots chip) (range_with_len 0 24) v has in
      record { spot = spot_of found.0; stands = vertex_at_stands u.spots (spot_of found.0) v found.2; here = refl };
  all = λ v on.
      let core = on.spot.core in
      let below = (site_inside u.machine on.spot (All-at (IsSite u.machine) u.spots v on.spot sites on.stands)).1 in
      let stands : slice_get u.spots v ≡ Some (spot_of core) = on.stands ∙ ap Some (spot_is on.spot chip core on.here refl) in
      let there = vertex_there u.spots (spot_of core) (Contains-at u.spots v (spot_of core) stands) in
      let same = AllPairs-apart u.spots (spot_of core) differ there.0 v (vertex_at_stands u.spots (spot_of core) there.0 there.1) stands in
      Contains-filter_map (vertex_on u.spots chip) (range_with_len 0 24) core v (core, subst (λ n. core < n) (sym (length-range_with_len 0 24)) below, get_or-range_with_len 0 24 core core below ∙ omega arith)
      (there.1 ∙ ap Some same);
})
  where
    chip : Chip
    chip = chip_of u.machine i

    spot_of : ℕ → Spot
    spot_of core = record { chip = chip; core = core }

-- ---- the queues behind outputs

pub placed : (b : Option Behind) → place_in (Some b) ≡ place_of_slot b
placed b = grind arith

pub behind_none : (u : Setup) (c : Chip) (list : List (Option Behind)) → AddsBehind u c 0 list list
behind_none u c list = search rules

pub behind_more : (u : Setup) (c : Chip) (n : ℕ) (before now new : List (Option Behind)) (b : Option Behind) (o : Out) → AddsBehind u c n before now → new ≡ now ++ b ∷ [] → IsOutput o →
    out_number o ≡ n → place_of_slot b ≡ place_behind u c o → AddsBehind u c (n + 1) before new
behind_more u c n before now new b o so_far is output number place = grind (arith, append_assoc, length_push, cases_eq, slice_get-pushed, placed, out_number_injective, slice_get-first)

-- ---- floors

pub floor_none : (u : Setup) (f : Floor) → f.chips.items ≡ [] → f.behind.items ≡ [] → f.banks.items ≡ [] → IsFloorSoFar u 0 f
floor_none u f chips behind banks = grind (arith, none-some)

pub floor_all : (u : Setup) (n : ℕ) (f : Floor) → length u.tables ≡ grid_size u → n ≡ grid_size u → IsFloorSoFar u n f → IsFloorOf u f
floor_all u n f tables all so_far = grind arith

pub bank_of : (u : Setup) (i : ℕ) (b : CoreBank) → b.index ≡ i → b.cores ≡ port_count u → AreVerticesOf u i b.vertices.items → IsBankOf u i b
bank_of u i b index cores vertices = record { index = index; cores = cores; vertices = vertices.each; all = λ live v on. ∣ vertices.all v on ∣₁ }

pub floor_more : (u : Setup) (n : ℕ) (f g : Floor) (chip : Option Chip) (bank : CoreBank) → IsFloorSoFar u n f → g.chips.items ≡ f.chips.items ++ chip ∷ [] → chip ≡ live_one u n →
    AddsBehind u (chip_of u.machine n) 24 f.behind.items g.behind.items → g.banks.items ≡ f.banks.items ++ bank ∷ [] → IsBankOf u n bank → IsFloorSoFar u (n + 1) g
floor_more u n f g chip bank so_far chips is_chip adds banks is_bank =
    let behind_were = so_far.behind_long in
    let all_chips = ap length chips ∙ length_push f.chips.items chip in
    let all_behind = ap length adds.are ∙ length-append f.behind.items adds.more in
    let all_banks = ap length banks ∙ length_push f.banks.items bank in
    record {
      chips_long = omega (arith, all_chips, so_far.chips_long);
      behind_long = omega (arith, all_behind, behind_were, adds.long);
      banks_long = omega (arith, all_banks, so_far.banks_long);
      chips = λ i below. elim (cases_eq i n) [
        | inl same ↦ subst (λ k. slice_get g.chips.items k ≡ Some (live_one u k)) (sym same)
            (ap (λ l. slice_get l n) chips ∙ (slice_get-pushed f.chips.items chip n (sym so_far.chips_long) ∙ ap Some is_chip))
        | inr other ↦ ap (λ l. slice_get l i) chips ∙ slice_get-append_left f.chips.items (chip ∷ []) i (live_one u i) (so_far.chips i (omega (arith, below, other)))
      ];
      behind = λ i o below live output.
          let few = out_number_below o output in
          elim (cases_eq i n) [
            | inl same ↦ subst (λ k. place_in (slice_get g.behind.items (24 * k + out_number o)) ≡ place_behind u (chip_of u.machine k) o) (sym same)
                (ap (λ l. place_in (slice_get l (24 * n + out_number o))) adds.are
                ∙ (ap (λ k. place_in (slice_get (f.behind.items ++ adds.more) (k + out_number o))) (sym so_far.behind_long)
                ∙ (ap place_in (slice_get-second f.behind.items adds.more (out_number o)) ∙ adds.places o output few)))
            | inr other ↦
                ap (λ l. place_in (slice_get l (24 * i + out_number o))) adds.are
                ∙ (ap place_in (slice_get-first f.behind.items adds.more (24 * i + out_number o) (omega (arith, below, other, few, behind_were)))
                ∙ so_far.behind i o (omega (arith, below, other)) live output)
          ];
      banks = pushed (IsBankOf u) f.banks.items bank g.banks.items banks so_far.banks (subst (λ k. IsBankOf u k bank) (sym so_far.banks_long) is_bank);
    }

-- ---- on a floor

-- a live chip's index is below the number of chips
pub live_below : (u : Setup) (i : ℕ) → IsLiveIndex u i → i < grid_size u
live_below u i on = subst (λ (n : ℕ). n < grid_size u) on.is (index_below u.machine (chip_of u.machine i) (live_inside u.machine (chip_of u.machine i) on.live))

module _ (u : Setup) (f : Floor) (of : IsFloorOf u f) (i : ℕ) where
  -- the place of an output of a live chip is there, and what is read there is the queue behind it
  pub behind_inside : (o : Out) → IsLiveIndex u i → IsOutput o → 24 * i + out_number o < length f.behind.items
  behind_inside o live output = omega (arith, live_below u i live, out_number_below o output, of.behind_long)

  pub read_behind : (o : Out) (k : ℕ) (b : Option Behind) → IsLiveIndex u i → IsOutput o → k ≡ 24 * i + out_number o → b ≡ get_or f.behind.items k b →
      place_of_slot b ≡ place_behind u (chip_of u.machine i) o
  read_behind o k b live output is read = grind (arith, slice_get-get_or, behind_inside, placed, get_or, live_below)
