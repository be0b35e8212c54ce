-- What a board tells of the vertices that stand on it.
use Rattle.place_fit.proofs.Common.{AreFreeOn, Board, Bool, Chip, Description, Edge, HasRoom, IsChipTold, IsCurveLevel, IsFilled, IsParted, IsWholeBoard, List, None, Option, Placed, Some, Spot}
use Rattle.place_fit.proofs.Common.{Stands, Vertex, [], and-true, and_from, and_left, and_parts, and_right, ap, arith, bit_at, bit_at-trailing_zeros, bit_at-zero, cases_Bool, cases_eq, cases_lt}
use Rattle.place_fit.proofs.Common.{chip_eq, chip_eq_same, chip_eq_true, cond, cond-false, cond-true, core_spot, curve_place, eqb, false, get_or, get_or-set_other, get_or-set_same, hilbert, inl, inr}
use Rattle.place_fit.proofs.Common.{inside_parts, is_free_core, is_live_chip, is_none, is_usable, length, length_push, list_any, list_any-append, live_inside, nat_tests, need_of, not, not-true}
use Rattle.place_fit.proofs.Common.{or_left, or_neither, or_right, refl, room_left, same_spot, set, slice_get, slice_get_within, spot_eq, subst, sym, true, used_on, w32, ℕ, ◌&&◌, ◌++◌, ◌+◌, ◌-◌, ◌<◌}
use Rattle.place_fit.proofs.Common.{◌^◌, ◌||◌, ◌∙◌, ◌∷◌, ◌≡◌, ◌≢◌, ◌≤◌}
use Rattle.place_fit.proofs.CurveLaws.{IsIn, place_at}

pub live_in : (m : Description) (c : Chip) (side : ℕ) → is_live_chip m c ≡ true → m.width ≤ side → m.height ≤ side → IsIn side c
live_in m c side live wide high = let f = inside_parts m c (live_inside m c live) in (omega (arith, f.0, wide), omega (arith, f.1, high))

-- some vertex stands on the core
abbrev pub is_taken : List Spot → Spot → Bool
is_taken spots s = list_any (spot_eq s) spots

-- ---- bits

-- a bit that a test gives
pub bit_yes : (b : Bool) → (cond b 1 0 ≡ (let one : ℕ = 1 in one)) → b ≡ true
bit_yes b e = grind arith

pub some_bits : (n i : ℕ) → bit_at n i ≡ 1 → 0 < n
some_bits n i one = grind (arith, cases_eq n 0, bit_at-zero i)

-- the least core, as a bit
pub least_bit : (cores : ℕ) → 0 < cores → cores < 2 ^ 18 → (core : ℕ) × (core < 32) × (bit_at cores core ≡ 1)
least_bit cores some few = grind (arith, bit_at-trailing_zeros w32 cores some (omega (arith, few)))

pub usable_parts : (m : Description) (s : Spot) → is_usable m s ≡ true → (is_live_chip m s.chip ≡ true) × (s.core < 18)
usable_parts m s u = grind (arith, nat_tests, and_parts)

pub free_parts : (m : Description) (ss : List Spot) (s : Spot) → is_free_core m ss s ≡ true → (is_usable m s ≡ true) × (is_taken ss s ≡ false)
free_parts m ss s f = grind (arith, and_parts, not-true)

module _ (m : Description) (vs : List Vertex) (ss : List Spot) (c : Chip) (cores room : ℕ) (told : IsChipTold m vs ss c cores room) where
  pub free_at : (p : ℕ) → p < 32 → bit_at cores p ≡ 1 → is_free_core m ss (core_spot c p) ≡ true
  free_at p low one = bit_yes (is_free_core m ss (core_spot c p)) (sym (told.free p low) ∙ one)

  pub bit_of_free : (p : ℕ) → is_free_core m ss (core_spot c p) ≡ true → bit_at cores p ≡ 1
  bit_of_free p free = grind (arith, usable_parts, free_parts, cond-true)

  pub cores_with_room : (need : ℕ) → need < room → 0 < cores
  cores_with_room need more = grind (arith, cases_lt 0 cores)

  -- a chip has room where its number says so
  pub has_room : (v : Vertex) → cores < 2 ^ 18 → v.sdram < room → HasRoom m vs ss v c
  has_room v few more =
      let some = cores_with_room v.sdram more in
      let least = least_bit cores some few in
      record {
        core = least.0;
        free = free_at least.0 least.1 least.2;
        memory = (let l = told.left some in omega (arith, l, more));
      }

  pub room_for : (v : Vertex) → HasRoom m vs ss v c → v.sdram < room
  room_for v has = let l = told.left (some_bits cores has.core (bit_of_free has.core has.free)) in omega (arith, l, has.memory)

-- ---- the board on which no vertex stands

room_some : (cores left : ℕ) → 0 < cores → room_left cores left ≡ left + 1
room_some cores left some = let t : eqb cores 0 ≡ false = grind (arith, nat_tests) in rw t refl

room_none : (cores left : ℕ) → cores ≡ 0 → room_left cores left ≡ 0
room_none cores left none = let t : eqb cores 0 ≡ true = grind (arith, nat_tests) in rw t refl

pub stands_first : (m : Description) (b : Board) → IsWholeBoard b → AreFreeOn m b → Stands m [] [] b
stands_first m b whole free = grind (arith, slice_get_within, and-true, room_none, room_some, get_or)

-- ---- one vertex more

used_push : (c : Chip) (vs : List Vertex) (ss : List Spot) (v : Vertex) (s : Spot) → length vs ≡ length ss
    → used_on c (vs ++ v ∷ []) (ss ++ s ∷ []) ≡ used_on c vs ss + cond (chip_eq c s.chip) (need_of v) 0
used_push c [] [] v s same = omega arith
used_push c [] (t ∷ ts) v s same = absurd (omega arith)
used_push c (w ∷ ws) [] v s same = absurd (omega arith)
used_push c (w ∷ ws) (t ∷ ts) v s same = let rest = used_push c ws ts v s (omega arith) in omega (arith, rest)

taken_push : (ss : List Spot) (s x : Spot) → is_taken (ss ++ s ∷ []) x ≡ (is_taken ss x || (spot_eq x s || false))
taken_push ss s x = list_any-append (spot_eq x) ss (s ∷ [])

or_last : (a b : Bool) → b ≡ true → (a || (b || false)) ≡ true
or_last a b e = or_right a (b || false) (or_left b false e)

-- nothing, whether or not it is on this chip
cond_same : (b : Bool) (n : ℕ) → cond b n n ≡ n
cond_same b n = grind arith

-- ---- what a vertex needs

pub need_of_core : (v : Vertex) → v.device ≡ None → need_of v ≡ v.sdram
need_of_core v is = ap (λ (o : Option Edge). cond (is_none o) v.sdram 0) is

pub need_of_device : (v : Vertex) (device : Edge) → v.device ≡ Some device → need_of v ≡ 0
need_of_device v device is = ap (λ (o : Option Edge). cond (is_none o) v.sdram 0) is

module _ (m : Description) (vs : List Vertex) (ss : List Spot) (same : length vs ≡ length ss) (v : Vertex) (c : Chip) (cores room : ℕ) (told : IsChipTold m vs ss c cores room) where
  -- what is free where a vertex stands there too that takes no core of these
  still_free : (s : Spot) (p : ℕ) → is_taken (ss ++ s ∷ []) (core_spot c p) ≡ is_taken ss (core_spot c p) → p < 32
      → bit_at cores p ≡ cond (is_free_core m (ss ++ s ∷ []) (core_spot c p)) 1 0
  still_free s p taken low = told.free p low ∙ ap (λ b. cond (is_usable m (core_spot c p) && not b) 1 0) (sym taken)

  untaken_push : (s : Spot) (p : ℕ) → spot_eq (core_spot c p) s ≡ false → is_taken (ss ++ s ∷ []) (core_spot c p) ≡ is_taken ss (core_spot c p)
  untaken_push s p other = taken_push ss s (core_spot c p) ∙ or_neither (is_taken ss (core_spot c p)) (spot_eq (core_spot c p) s) other

  told_other : (s : Spot) → chip_eq c s.chip ≡ false → IsChipTold m (vs ++ v ∷ []) (ss ++ s ∷ []) c cores room
  told_other s other = grind (arith, used_push c vs ss v s same, cond-false (chip_eq c s.chip) (need_of v) 0 other, still_free, untaken_push, and_left)

  -- a device takes no core and no memory
  told_device : (s : Spot) → 18 ≤ s.core → need_of v ≡ 0 → IsChipTold m (vs ++ v ∷ []) (ss ++ s ∷ []) c cores room
  told_device s high none = grind (arith, used_push c vs ss v s same, cond_same (chip_eq c s.chip) 0, nat_tests, cases_Bool, usable_parts, still_free, and_left, untaken_push, and_right)

  told_here : (core others : ℕ) → need_of v ≡ v.sdram → v.sdram < room → 0 < cores → IsParted cores core others
      → IsChipTold m (vs ++ v ∷ []) (ss ++ core_spot c core ∷ []) c others (room_left others (room - 1 - v.sdram))
  told_here core others plain enough some parted =
      grind (arith, used_push, cond-true, chip_eq_same, cases_eq, and_from, nat_tests, taken_push, or_last, and_right, still_free, untaken_push, room_none, room_some)

module _ (m : Description) (vs : List Vertex) (ss : List Spot) (old new : Board) (stands : Stands m vs ss old) (v : Vertex) (place : ℕ) (r : Placed)
    (plain : need_of v ≡ v.sdram) (within : place < length old.chips) (enough : v.sdram < get_or old.rooms place 0) (filled : IsFilled place v.sdram old new r) where
  here_told : IsChipTold m vs ss r.spot.chip (get_or old.cores.items place 0) (get_or old.rooms place 0)
  here_told = stands.told place r.spot.chip filled.chip

  here_some : 0 < get_or old.cores.items place 0
  here_some = cores_with_room m vs ss r.spot.chip (get_or old.cores.items place 0) (get_or old.rooms place 0) here_told v.sdram enough

  spot_is : core_spot r.spot.chip r.spot.core ≡ r.spot
  spot_is = same_spot (core_spot r.spot.chip r.spot.core) r.spot refl refl

  on_curve : (q : ℕ) (c : Chip) → slice_get old.chips q ≡ Some c → slice_get (hilbert old.level) q ≡ Some c
  on_curve q c at = ap (λ l. slice_get l q) (sym old.curve) ∙ at

  apart : (q : ℕ) (c : Chip) → slice_get old.chips q ≡ Some c → q ≢ place → chip_eq c r.spot.chip ≡ false
  apart q c at other =
      elim (cases_Bool (chip_eq c r.spot.chip)) [
        | inl same ↦ absurd (
            let one : c ≡ r.spot.chip = chip_eq_true c r.spot.chip same in
            other (sym (place_at old.level q c (on_curve q c at)) ∙ (ap (curve_place old.level) one ∙ place_at old.level place r.spot.chip (on_curve place r.spot.chip filled.chip)))
            )
        | inr differ ↦ differ
      ]

  pub stands_more : Stands m (vs ++ v ∷ []) (ss ++ r.spot ∷ []) new
  stands_more = record {
    level = subst (IsCurveLevel m) (sym filled.level) stands.level;
    sdram = filled.sdram_is ∙ stands.sdram;
    same = length_push vs v ∙ (ap (λ n. n + 1) stands.same ∙ sym (length_push ss r.spot));
    told = λ q c at_new.
        let at : slice_get old.chips q ≡ Some c = ap (λ l. slice_get l q) (sym filled.chips) ∙ at_new in
        let others = filled.others in
        let room = room_left others (get_or old.rooms place 0 - 1 - v.sdram) in
        let T : ℕ → ℕ → Type 0 = λ x y. IsChipTold m (vs ++ v ∷ []) (ss ++ r.spot ∷ []) c x y in
        elim (cases_eq q place) [
          | inl here ↦ (
              let same_chip : Some r.spot.chip ≡ Some c = sym filled.chip ∙ (ap (slice_get old.chips) (sym here) ∙ at) in
              let chip_is : r.spot.chip ≡ c = cc in
              let told =
              told_here m vs ss stands.same v r.spot.chip (get_or old.cores.items place 0) (get_or old.rooms place 0) here_told r.spot.core others plain enough here_some filled.parted in
              let told_spot = subst (λ s. IsChipTold m (vs ++ v ∷ []) (ss ++ s ∷ []) r.spot.chip others room) spot_is told in
              let told_chip = subst (λ z. IsChipTold m (vs ++ v ∷ []) (ss ++ r.spot ∷ []) z others room) chip_is told_spot in
              let core_is : get_or new.cores.items q 0 ≡ others = ap (λ l. get_or l q 0) filled.cores ∙ (ap (λ n. get_or (set old.cores.items place others) n 0) here ∙ get_or-set_same old.cores.items place others 0 (omega (arith, within, old.cores_beside))) in
              let room_is : get_or new.rooms q 0 ≡ room = ap (λ l. get_or l q 0) filled.rooms ∙ (ap (λ n. get_or (set old.rooms place room) n 0) here ∙ get_or-set_same old.rooms place room 0 (omega (arith, within, old.rooms_beside))) in
              subst (λ x. T x (get_or new.rooms q 0)) (sym core_is) (subst (T others) (sym room_is) told_chip)
              )
          | inr there ↦ (
              let told = told_other m vs ss stands.same v c (get_or old.cores.items q 0) (get_or old.rooms q 0) (stands.told q c at) r.spot (apart q c at there) in
              let core_is : get_or new.cores.items q 0 ≡ get_or old.cores.items q 0 = ap (λ l. get_or l q 0) filled.cores ∙ get_or-set_other old.cores.items place q others 0 there in
              let room_is : get_or new.rooms q 0 ≡ get_or old.rooms q 0 = ap (λ l. get_or l q 0) filled.rooms ∙ get_or-set_other old.rooms place q room 0 there in
              subst (λ x. T x (get_or new.rooms q 0)) (sym core_is) (subst (T (get_or old.cores.items q 0)) (sym room_is) told)
              )
        ];
  }

-- a device more leaves the board as it is
pub stands_device : (m : Description) (vs : List Vertex) (ss : List Spot) (b : Board) (v : Vertex) (s : Spot) → Stands m vs ss b → 18 ≤ s.core → need_of v ≡ 0 → Stands m (vs ++ v ∷ []) (ss ++ s ∷ []) b
stands_device m vs ss b v s stands high none = record {
  level = stands.level;
  sdram = stands.sdram;
  same = length_push vs v ∙ (ap (λ n. n + 1) stands.same ∙ sym (length_push ss s));
  told = λ q c at. told_device m vs ss stands.same v c (get_or b.cores.items q 0) (get_or b.rooms q 0) (stands.told q c at) s high none;
}
