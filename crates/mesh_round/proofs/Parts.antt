-- Bags of moves put together from parts, of which each says how many marks leave and come.
use Rattle.mesh_round.proofs.Common.{Among, Bool, IsMoveOf, List, Mark, McCopy, Moved, Some, State, Station, [], ap, arith, cond, count_by, count_by-append, count_come, count_left, if◌then◌else◌, inl}
use Rattle.mesh_round.proofs.Common.{inr, last_hop, mark, marks_at, refl, slice_get, subst, suc, sum_by, sum_by-cons, sym, ℕ, ◌++◌, ◌+◌, ◌∙◌, ◌∷◌, ◌≡◌, ◌≤◌}
use Rattle.mesh_round.proofs.{CountSums.one_if, Sums.sum_at, Sums.sum_single}

-- how many marks of each kind
abbrev pub Counts : Type 0
Counts = (Mark → Bool) → ℕ

-- Moves of which so many marks leave and so many come, of every kind.
pub record Part (m : State) (leave come : Counts) : Type 0 where
  pub moves : List (Moved m)
  pub leaving : (p : Mark → Bool) → count_left p moves ≡ leave p
  pub coming : (p : Mark → Bool) → count_come p moves ≡ come p

pub count_left-append : {m : State} (p : Mark → Bool) (vs ws : List (Moved m)) → count_left p (vs ++ ws) ≡ count_left p vs + count_left p ws
count_left-append p [] ws = omega arith
count_left-append p (v ∷ vs) ws = grind (arith, count_left-append p vs ws)

pub count_come-append : {m : State} (p : Mark → Bool) (vs ws : List (Moved m)) → count_come p (vs ++ ws) ≡ count_come p vs + count_come p ws
count_come-append p [] ws = omega arith
count_come-append p (v ∷ vs) ws = grind (arith, count_come-append p vs ws)

module _ {m : State} where
  pub no_part : Part m (λ p. 0) (λ p. 0)
  no_part = record { moves = []; leaving = λ p. refl; coming = λ p. refl }

  unfoldable pub both_parts : {leave come leave' come' : Counts} → Part m leave come → Part m leave' come' → Part m (λ p. leave p + leave' p) (λ p. come p + come' p)
  both_parts a b = record {
    moves = a.moves ++ b.moves;
    leaving = λ p. let both = count_left-append p a.moves b.moves in let one = a.leaving p in let two = b.leaving p in omega (arith, both, one, two);
    coming = λ p. let both = count_come-append p a.moves b.moves in let one = a.coming p in let two = b.coming p in omega (arith, both, one, two);
  }

  pub part_each : {X : Type 0} (leave come : X → Counts) (xs : List X) → ((x : X) → Among x xs → Part m (leave x) (come x)) →
      Part m (λ p. sum_by (λ x. leave x p) xs) (λ p. sum_by (λ x. come x p) xs)
  part_each leave come [] part = no_part
  part_each leave come (x ∷ xs) part =
      let all = both_parts (part x (inl refl)) (part_each leave come xs (λ y a. part y (inr a))) in
      record {
        moves = all.moves;
        leaving = λ p. all.leaving p ∙ sym (sum_by-cons (λ y. leave y p) x xs);
        coming = λ p. all.coming p ∙ sym (sum_by-cons (λ y. come y p) x xs);
      }

  pub part_at : {X : Type 0} (leave come : ℕ → X → Counts) (a : ℕ) (xs : List X) → ((i : ℕ) (x : X) → slice_get xs i ≡ Some x → Part m (leave (a + i) x) (come (a + i) x)) →
      Part m (λ p. sum_at (λ i x. leave i x p) a xs) (λ p. sum_at (λ i x. come i x p) a xs)
  part_at leave come a [] part = no_part
  part_at leave come a (x ∷ xs) part =
      let here : a + 0 ≡ a = omega arith in
      let first = subst (λ j. Part m (leave j x) (come j x)) here (part 0 x refl) in
      both_parts first (part_at leave come (a + 1) xs (λ i y at.
      let next : a + suc i ≡ (a + 1) + i = omega arith in
      subst (λ j. Part m (leave j y) (come j y)) next (part (suc i) y at)))

  -- copies that leave one station, each for the marks that come in its place
  pub part_of : (at : Station) (put : McCopy → List Mark) (ks : List McCopy) → ((k : McCopy) → Among k ks → IsMoveOf m k at (put k) × (k.hop ≤ last_hop)) →
      Part m (λ p. count_by p (marks_at at ks)) (λ p. sum_by (λ k. count_by p (put k)) ks)
  part_of at put [] each = no_part
  part_of at put (k ∷ ks) each =
      let rest = part_of at put ks (λ j a. each j (inr a)) in
      let first = each k (inl refl) in
      record {
        moves = record { leaves = mark k at; come = put k; is_move = first.0; small = first.1 } ∷ rest.moves;
        leaving = λ p. ap (λ c. (if p (mark k at) then 1 else 0) + c) (rest.leaving p) ∙ sym (sum_by-cons (λ x. cond (p x) 1 0) (mark k at) (marks_at at ks));
        coming = λ p. ap (λ c. count_by p (put k) + c) (rest.coming p) ∙ sym (sum_by-cons (λ j. count_by p (put j)) k ks);
      }

  -- copies of which each leaves one station for another
  pub part_one : {X : Type 0} (copy : X → McCopy) (at to : X → Station) (xs : List X) →
      ((x : X) → Among x xs → IsMoveOf m (copy x) (at x) (mark (copy x) (to x) ∷ []) × ((copy x).hop ≤ last_hop)) →
      Part m (λ p. sum_by (λ x. count_by p (mark (copy x) (at x) ∷ [])) xs) (λ p. sum_by (λ x. count_by p (mark (copy x) (to x) ∷ [])) xs)
  part_one copy at to [] each = no_part
  part_one copy at to (x ∷ xs) each =
      let rest = part_one copy at to xs (λ y a. each y (inr a)) in
      let first = each x (inl refl) in
      record {
        moves = record { leaves = mark (copy x) (at x); come = mark (copy x) (to x) ∷ []; is_move = first.0; small = first.1 } ∷ rest.moves;
        leaving = λ p.
            let one = sum_single (λ k. one_if (p k)) (mark (copy x) (at x)) in
            omega (arith, one, rest.leaving p, sum_by-cons (λ y. count_by p (mark (copy y) (at y) ∷ [])) x xs);
        coming = λ p. omega (arith, rest.coming p, sum_by-cons (λ y. count_by p (mark (copy y) (to y) ∷ [])) x xs);
      }

-- ---- all marks that leave, and all that come

abbrev pub all_left : {s : State} → List (Moved s) → List Mark
all_left [] = []
all_left (v ∷ vs) = v.leaves ∷ all_left vs

abbrev pub all_come : {s : State} → List (Moved s) → List Mark
all_come [] = []
all_come (v ∷ vs) = v.come ++ all_come vs

pub left_counts : {s : State} (p : Mark → Bool) (vs : List (Moved s)) → count_left p vs ≡ count_by p (all_left vs)
left_counts p [] = refl
left_counts p (v ∷ vs) =
    let rest = left_counts p vs in
    let all = sum_by-cons (λ x. one_if (p x)) v.leaves (all_left vs) in
    omega arith

pub come_counts : {s : State} (p : Mark → Bool) (vs : List (Moved s)) → count_come p vs ≡ count_by p (all_come vs)
come_counts p [] = refl
come_counts p (v ∷ vs) = grind (arith, come_counts p vs, count_by-append p v.come (all_come vs))
