-- A search that marks chips until no flagged link leads from a marked chip to another.
use Rattle.link_detours.proofs.Common.{All, All-contains, Bool, Chip, Contains, Contains-append_left, Contains-none, Contains-push, Contains-push_cases, Description, Dir, East, FlaggedStep, IsInside}
use Rattle.link_detours.proofs.Common.{IsReachedBy, List, Some, [], all_dirs, ap, arith, cases_Bool, cases_eq, chip_eq, chip_eq-from_same, chip_eq_true, dir_number, dir_number-dir_at, false}
use Rattle.link_detours.proofs.Common.{false≢true, far_inside, far_of, get_or, get_or-set_other, get_or-set_same, get_or_default, index_below, index_of, inl, inr, is_flagged, is_marked, length}
use Rattle.link_detours.proofs.Common.{length-append, length-set, refl, rules, same_Some, same_dir, same_index, set, subst, suc, sum_by, sum_by-set, sym, true, ℕ, ◌*◌, ◌++◌, ◌+◌, ◌<◌, ◌↔◌, ◌∙◌, ◌∷◌}
use Rattle.link_detours.proofs.Common.{◌≡◌, ◌≢◌, ◌≤◌, ◌⊎◌}
use Rattle.link_detours.proofs.Stepping.{reached_has}

-- two chips are the same or not
pub cases_chip : (a b : Chip) → (a ≡ b) ⊎ (a ≢ b)
cases_chip a b = grind (arith, cases_Bool (chip_eq a b), chip_eq_true, false≢true, chip_eq-from_same)

-- what a place of a table weighs: less once it is marked
abbrev pub unmarked : Bool → ℕ
unmarked true = 0
unmarked false = 1

module _ (m : Description) (table : List Bool) (seeds : List Chip) where
  -- what holds of the marks, and of the chips that are left to be looked at, while links wait: those that the last argument names
  pub record Ongoing (marks : List Bool) (left : List Chip) (Waiting : Chip → ℕ → Type 0) : Type 0 where
    pub long : length marks ≡ m.width * m.height
    pub known : (c : Chip) → Contains left c → IsInside m c × (is_marked m marks c ≡ true)
    pub at_seeds : (a : Chip) → Contains seeds a → is_marked m marks a ≡ true
    pub walks : (c : Chip) → IsInside m c → is_marked m marks c ≡ true → (n : ℕ) × IsReachedBy (FlaggedStep m table) (Contains seeds) n c
    pub near : (c e : Chip) (d : Dir) → IsInside m c → is_marked m marks c ≡ true → is_flagged m table c d ≡ true →
        far_of m c d ≡ Some e → Waiting c (dir_number d) ⊎ (is_marked m marks e ≡ true)

  -- the links that wait while a chip is looked at, from link number i on
  abbrev pub WaitsFrom : List Chip → Chip → ℕ → Chip → ℕ → Type 0
  WaitsFrom left at i c j = Contains left c ⊎ ((c ≡ at) × (i ≤ j))

  -- what holds while the links of a chip are looked at, from link number i on
  pub record Looking (marks : List Bool) (left : List Chip) (at : Chip) (i : ℕ) : Type 0 where
    pub at_inside : IsInside m at
    pub at_marked : is_marked m marks at ≡ true
    pub ongoing : Ongoing marks left (WaitsFrom left at i)

  -- the marks after one chip more is marked
  marked_here : (marks : List Bool) (e c : Chip) → length marks ≡ m.width * m.height → IsInside m e → c ≡ e →
      is_marked m (set marks (index_of m e) true) c ≡ true
  marked_here marks e c long inside same = grind (arith, index_below m e inside, get_or-set_same)

  marked_other : (marks : List Bool) (e c : Chip) → IsInside m e → IsInside m c → c ≢ e →
      is_marked m (set marks (index_of m e) true) c ≡ is_marked m marks c
  marked_other marks e c at inside other = grind (arith, get_or-set_other, same_index)

  still_marked : (marks : List Bool) (e c : Chip) → length marks ≡ m.width * m.height → IsInside m e → is_marked m marks c ≡ true →
      is_marked m (set marks (index_of m e) true) c ≡ true
  still_marked marks e c long inside marked = grind (arith, cases_eq (index_of m c) (index_of m e), index_below m e inside, get_or, get_or-set_same, get_or-set_other)

  -- the marks before the search: those of the seeds
  pub start : (marks : List Bool) → length marks ≡ m.width * m.height → All (IsInside m) seeds →
      ((c : Chip) → IsInside m c → (is_marked m marks c ≡ true) ↔ Contains seeds c) → Ongoing marks seeds (λ c j. Contains seeds c)
  start marks long inside told = grind (arith, All-contains)

  -- the last of the chips that are left is taken, and its links are still to be looked at
  pub start_looking : (marks : List Bool) (before left : List Chip) (at : Chip) → before ≡ left ++ at ∷ [] → Ongoing marks before (λ c j. Contains before c) → Looking marks left at 0
  start_looking marks before left at is now = record {
    at_inside = (now.known at mine).0;
    at_marked = (now.known at mine).1;
    ongoing = record {
      long = now.long;
      known = λ c has. now.known c (subst (λ cs. Contains cs c) (sym is) (Contains-append_left left (at ∷ []) c has));
      at_seeds = now.at_seeds;
      walks = now.walks;
      near = λ c e d inside marked flagged leads. elim (now.near c e d inside marked flagged leads) [
        | inl waits ↦ inl (elim (Contains-push_cases left at c (subst (λ cs. Contains cs c) is waits)) [ inl still ↦ inl still | inr here ↦ inr (sym here, omega arith) ])
        | inr done ↦ inr done
      ];
    };
  }
    where
      mine : Contains before at
      mine = subst (λ cs. Contains cs at) (sym is) (Contains-push left at)

  -- a link that leads nowhere, or to a marked chip
  pub look_past : (marks : List Bool) (left : List Chip) (at : Chip) (i : ℕ) (d : Dir) → dir_number d ≡ i →
      ((e : Chip) → is_flagged m table at d ≡ true → far_of m at d ≡ Some e → is_marked m marks e ≡ true) → Looking marks left at i → Looking marks left at (i + 1)
  look_past marks left at i d link fine now = grind (arith, cases_eq, same_dir)

  -- a link that leads to an unmarked chip: it is marked, and left to be looked at
  pub look_at_end : (marks : List Bool) (left : List Chip) (at e : Chip) (i : ℕ) (d : Dir) → dir_number d ≡ i → is_flagged m table at d ≡ true → far_of m at d ≡ Some e →
      Looking marks left at i → Looking (set marks (index_of m e) true) (left ++ e ∷ []) at (i + 1)
  look_at_end marks left at e i d link flagged leads now = record {
    at_inside = now.at_inside;
    at_marked = still at now.at_marked;
    ongoing = record {
      long = length-set marks (index_of m e) true ∙ now.ongoing.long;
      known = λ c has. elim (Contains-push_cases left e c has) [
        | inl before ↦ let was = now.ongoing.known c before in (was.0, still c was.1)
        | inr here ↦ subst (λ (x : Chip). IsInside m x × (is_marked m (set marks (index_of m e) true) x ≡ true)) here (e_inside, marked_here marks e e now.ongoing.long e_inside refl)
      ];
      at_seeds = λ a has. still a (now.ongoing.at_seeds a has);
      walks = λ c inside marked. elim (cases_chip c e) [
        | inl same ↦
            let walk = now.ongoing.walks at now.at_inside now.at_marked in
            (suc walk.0, (walk.1.0, walk.1.1, (at, walk.1.2, (now.at_inside, (d, flagged, leads ∙ ap Some (sym same))))))
        | inr other ↦ now.ongoing.walks c inside (sym (marked_other marks e c e_inside inside other) ∙ marked)
      ];
      near = λ c f g inside marked flag goes. elim (cases_chip c e) [
        | inl same ↦ inl (inl (subst (Contains (left ++ e ∷ [])) (sym same) (Contains-push left e)))
        | inr other ↦ near_after c f g goes (now.ongoing.near c f g inside (sym (marked_other marks e c e_inside inside other) ∙ marked) flag goes)
      ];
    };
  }
    where
      e_inside : IsInside m e
      e_inside = far_inside m at e d now.at_inside leads

      still : (c : Chip) → is_marked m marks c ≡ true → is_marked m (set marks (index_of m e) true) c ≡ true
      still c marked = still_marked marks e c now.ongoing.long (far_inside m at e d now.at_inside leads) marked

      near_after : (c f : Chip) (g : Dir) → far_of m c g ≡ Some f → WaitsFrom left at i c (dir_number g) ⊎ (is_marked m marks f ≡ true) →
          WaitsFrom (left ++ e ∷ []) at (i + 1) c (dir_number g) ⊎ (is_marked m (set marks (index_of m e) true) f ≡ true)
      near_after c f g goes its_4 = search (rules, Contains-append_left, cases_eq, same_dir, marked_here, far_inside, same_Some, still_marked)

  -- when no chip is left, the marked chips are those that walks reach
  pub marked_reached : (marks : List Bool) (left : List Chip) → left ≡ [] → All (IsInside m) seeds → Ongoing marks left (λ c j. Contains left c) → (c : Chip) → IsInside m c →
      (is_marked m marks c ≡ true) ↔ ((n : ℕ) × IsReachedBy (FlaggedStep m table) (Contains seeds) n c)
  marked_reached marks left none inside now c c_inside = (
    λ marked. now.walks c c_inside marked,
    λ way. (reached_has (FlaggedStep m table) (Contains seeds) (λ (x : Chip). IsInside m x × (is_marked m marks x ≡ true))
        (λ a has. (All-contains (IsInside m) seeds a inside has, now.at_seeds a has))
        (λ a b known step. (
          far_inside m a b step.1.0 known.0 step.1.2,
          elim (now.near a b step.1.0 known.0 known.1 step.1.1 step.1.2) [
            | inl waits ↦ absurd (Contains-none a (subst (λ cs. Contains cs a) none waits))
            | inr marked ↦ marked
          ],
        )) way.0 c way.1).1,
  )

  -- a mark more weighs as much less as two chips that are left
  pub weight_falls : (marks : List Bool) (left : List Chip) (e : Chip) (most : ℕ) → length marks ≡ m.width * m.height → IsInside m e → is_marked m marks e ≡ false →
      2 * sum_by unmarked marks + length left ≤ most → 2 * sum_by unmarked (set marks (index_of m e) true) + length (left ++ e ∷ []) ≤ most
  weight_falls marks left e most long inside clear before = grind (arith, index_below m e inside, length-append left (e ∷ []), get_or, sum_by-set)

pub dir_number_at : (i : ℕ) (d : Dir) → i < 6 → dir_number (get_or all_dirs i d) ≡ i
dir_number_at i d h = ap dir_number (get_or_default all_dirs i d East h) ∙ dir_number-dir_at i h
