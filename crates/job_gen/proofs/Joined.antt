-- The chips of the board are joined by live links.
use Rattle.job_gen.proofs.Common.{Bool, Chip, Description, Dir, IsCutOff, IsLiveChip, IsLiveLink, IsLiveWalk, IsWalkTo, LeadsTo, List, None, Option, Some, South, SouthWest, West, [], agree_below}
use Rattle.job_gen.proofs.Common.{agree_below_at, and_parts, ap, arith, chip_eq, chip_eq_true, false, false≢true, far_back, far_of, if◌then◌else◌, inl, inr, inside_parts, is_live_chip, is_live_link}
use Rattle.job_gen.proofs.Common.{last_of, live_back, live_count_of, live_ends, live_inside, ltb-true, nat_lt, not, not-true, opposite_of, or_cases, refl, subst, suc, sym, true, zero, ℕ, ◌&&◌, ◌++◌}
use Rattle.job_gen.proofs.Common.{◌+◌, ◌<◌, ◌||◌, ◌∙◌, ◌∷◌, ◌≡◌, ◌≤◌, ◌⊎◌}
use Rattle.job_gen.specs.{Board.generated_board, Values.dead_pairs}

pub live_chips : live_count_of generated_board ≡ 48
unfolding generated_board dead_pairs
live_chips = refl

-- ---- from each chip a live link leads nearer to (0, 0), whose number of steps falls

abbrev origin : Chip
origin = record { x = 0; y = 0 }

abbrev steps_of : Chip → ℕ
steps_of c = c.x + c.y

abbrev toward : Chip → Dir
toward c = if is_live_link generated_board c West then West else (if is_live_link generated_board c South then South else SouthWest)

abbrev is_nearer : Chip → Option Chip → Bool
is_nearer c None = false
is_nearer c (Some e) = nat_lt (steps_of e) (steps_of c)

abbrev goes_nearer : Chip → Bool
goes_nearer c = not (is_live_chip generated_board c) || (chip_eq c origin || (is_live_link generated_board c (toward c) && is_nearer c (far_of generated_board c (toward c))))

abbrev chip : ℕ → ℕ → Chip
chip x y = record { x = x; y = y }

-- by computing over the board once
each_goes : agree_below (λ (x : ℕ). agree_below (λ (y : ℕ). goes_nearer (chip x y)) (λ (y : ℕ). true) 8) (λ (x : ℕ). true) 8 ≡ true
unfolding generated_board dead_pairs
each_goes = refl

inside : (c : Chip) → IsLiveChip generated_board c → (c.x < 8) × (c.y < 8)
unfolding generated_board
inside c live = inside_parts generated_board c (live_inside generated_board c live)

goes : (c : Chip) → IsLiveChip generated_board c → goes_nearer c ≡ true
goes c live =
    let within = inside c live in
    agree_below_at (λ (y : ℕ). goes_nearer (chip c.x y)) (λ (y : ℕ). true) 8 c.y
    (agree_below_at (λ (x : ℕ). agree_below (λ (y : ℕ). goes_nearer (chip x y)) (λ (y : ℕ). true) 8) (λ (x : ℕ). true) 8 c.x each_goes within.0)
    within.1

-- the chip is (0, 0), or a live link leads from it to a nearer one
pub record IsNearer (c : Chip) : Type 0 where
  pub next : Chip
  pub forth : LeadsTo generated_board c next
  pub back : LeadsTo generated_board next c
  pub live : IsLiveChip generated_board next
  pub less : steps_of next < steps_of c

nearer_at : (c e : Chip) (d : Dir) → IsLiveChip generated_board c → IsLiveLink generated_board c d → far_of generated_board c d ≡ Some e → IsLiveChip generated_board e →
    is_nearer c (far_of generated_board c d) ≡ true → IsNearer c
nearer_at c e d live link far live_e less =
    let fewer : is_nearer c (Some e) ≡ true = ap (is_nearer c) (sym far) ∙ less in
    record {
      next = e;
      forth = (d, link, far);
      back = (opposite_of d, live_back generated_board c e d far link, far_back generated_board c e d (live_inside generated_board c live) far);
      live = live_e;
      less = ltb-true (steps_of e) (steps_of c) fewer;
    }

step : (c : Chip) → IsLiveChip generated_board c → (c ≡ origin) ⊎ IsNearer c
step c live = grind (arith, goes c live, or_cases, false≢true, chip_eq_true, and_parts, live_ends, nearer_at, not-true)

-- ---- walks

walk_more : (m : Description) (a : Chip) (w : List Chip) (v : List Chip) → IsLiveWalk m (a ∷ w) → IsLiveWalk m (last_of a w ∷ v) → IsLiveWalk m (a ∷ (w ++ v))
walk_more m a [] v first second = second
walk_more m a (b ∷ w) v first second = (first.0, walk_more m b w v first.1 second)

last_more : (a : Chip) (w v : List Chip) → last_of a (w ++ v) ≡ last_of (last_of a w) v
last_more a [] v = refl
last_more a (b ∷ w) v = last_more b w v

unfoldable Joins : Chip → Chip → Type 0
Joins a b = (walk : List Chip) × IsWalkTo generated_board a b walk

join : (a b c : Chip) → Joins a b → Joins b c → Joins a c
unfolding Joins
join a b c one two = grind (arith, last_more a one.0 two.0, walk_more)

by_link : (a b : Chip) → LeadsTo generated_board a b → Joins a b
unfolding Joins
by_link a b leads = (b ∷ [], ((leads, tt), refl))

itself : (a : Chip) → Joins a a
unfolding Joins
itself a = ([], (tt, refl))

-- walks to (0, 0) and back
at_origin : (c : Chip) → c ≡ origin → Joins c origin × Joins origin c
at_origin c same = (subst (λ e. Joins e origin) (sym same) (itself origin), subst (λ e. Joins origin e) (sym same) (itself origin))

home : (k : ℕ) (c : Chip) → steps_of c ≤ k → IsLiveChip generated_board c → Joins c origin × Joins origin c
home zero c few live = grind (arith, step c live, at_origin)
home (suc k) c few live = elim (step c live) [
  | inl same ↦ at_origin c same
  | inr nearer ↦ grind (arith, home k nearer.next (omega (arith, nearer.less)) nearer.live, by_link nearer.next c nearer.back, by_link c nearer.next nearer.forth, join)
]

pub joined : (a b : Chip) → IsLiveChip generated_board a → IsLiveChip generated_board b → (walk : List Chip) × IsWalkTo generated_board a b walk
unfolding Joins
joined a b live also = join a origin b (home (steps_of a) a (omega arith) live).0 (home (steps_of b) b (omega arith) also).1

pub not_cut_off : (a b : Chip) → IsLiveChip generated_board a → IsLiveChip generated_board b → IsCutOff generated_board a b → ⊥
not_cut_off a b live also cut = let way = joined a b live also in cut way.0 way.1
