-- Vertices that were read have names, so a text that is found among these is a name.
use Rattle.job_readers.proofs.Common.{Bool, Data, JobFault, List, None, Option, Some, Vertex, [], and_parts, ap, arith, as_str, both_true, bytes_eq, bytes_eq-Decides, codes, double_faults, false}
use Rattle.job_readers.proofs.Common.{if◌then◌else◌, is_name, item_at, list_all, map, member_at, member_of, name_place_in, next_vertex_faults, object_faults, option_and_then, option_map, range_unless}
use Rattle.job_readers.proofs.Common.{refl, sender_at, subst, sym, text_faults, text_value, true, typed_faults, unknown_faults, unwrap_or, ℕ, ◌++◌, ◌+◌, ◌∙◌, ◌∷◌, ◌≡◌, ◌▹◌}
use Rattle.job_readers.specs.GraphPart.{name_faults, name_value, sender_in, vertex_faults, vertex_names_of, vertex_value, vertices_faults, vertices_value}
use Rattle.job_readers.specs.{Items.following_faults, Places.new_name_faults}
use Rattle.job_readers.proofs.NoFaults.{none_first, none_inside, none_second}

-- ---- a text that has a place is a name

unmapped : (o : Option ℕ) (i : ℕ) → option_map (λ j. j + 1) o ≡ Some i → (k : ℕ) × (o ≡ Some k)
unmapped None i e = absurd cc
unmapped (Some k) i e = (k, refl)

pub placed_is_name : (names : List (List ℕ)) (s : List ℕ) (i : ℕ) → name_place_in names s ≡ Some i → list_all is_name names ≡ true → is_name s ≡ true
placed_is_name [] s i at all = absurd cc
placed_is_name (n ∷ names) s i at all = by_first (bytes_eq n s) refl at (λ k there. placed_is_name names s k there (and_parts (is_name n) (list_all is_name names) all).1)
  where
    by_first : (b : Bool) → bytes_eq n s ≡ b → (if b then Some 0 else option_map (λ j. j + 1) (name_place_in names s)) ≡ Some i
        → ((k : ℕ) → name_place_in names s ≡ Some k → is_name s ≡ true) → is_name s ≡ true
    by_first true same here rest = subst (λ t. is_name t ≡ true) ((bytes_eq-Decides n s).0 same) (and_parts (is_name n) (list_all is_name names) all).0
    by_first false other later rest = let k = unmapped (name_place_in names s) i later in rest k.0 k.1

taken : (o : Option ℕ) (f : ℕ → Option ℕ) (i : ℕ) → option_and_then f o ≡ Some i → (k : ℕ) × (o ≡ Some k)
taken None f i e = absurd cc
taken (Some k) f i e = (k, refl)

pub sender_is_name : (vertices : List Vertex) (s : List ℕ) (i : ℕ) → sender_in vertices s ≡ Some i → list_all is_name (vertex_names_of vertices) ≡ true → is_name s ≡ true
unfolding sender_in
sender_is_name vertices s i at all =
    let k = taken (name_place_in (vertex_names_of vertices) s) (sender_at vertices) i at in
    placed_is_name (vertex_names_of vertices) s k.0 k.1 all

-- ---- what a text that is found gives

module _ (place : List ℕ → Option ℕ) (path : List ℕ) (o : Option Data) where
  said : (t : Option (List ℕ)) → option_and_then as_str o ≡ t
      → (text_faults path o ▹ unknown_faults path (place (text_value o))) ≡ (typed_faults is_name path t ▹ unknown_faults path (place (unwrap_or t [])))
  said t is = ap (λ u. typed_faults is_name path u ▹ unknown_faults path (place (unwrap_or u []))) is

  pub found_faults : (s : List ℕ) (i : ℕ) → option_and_then as_str o ≡ Some s → place s ≡ Some i → is_name s ≡ true → (text_faults path o ▹ unknown_faults path (place (text_value o))) ≡ []
  found_faults s i is at named = grind (arith, said (Some s) is)

  pub found_value : (s : List ℕ) (i : ℕ) → option_and_then as_str o ≡ Some s → place s ≡ Some i → i ≡ unwrap_or (place (text_value o)) 0
  found_value s i is at = sym (ap (λ u. unwrap_or (place (unwrap_or u [])) 0) is ∙ ap (λ p. unwrap_or p 0) at)

-- ---- the vertices that were read

none_own : (own inner : List JobFault) → own ▹ inner ≡ [] → own ≡ []
none_own [] inner none = refl
none_own (f ∷ own) inner none = cc

in_range : (b : Bool) (path : List ℕ) → range_unless b path ≡ [] → b ≡ true
in_range true path none = refl
in_range false path none = cc

typed_name : (o : Option (List ℕ)) (path : List ℕ) → typed_faults is_name path o ≡ [] → is_name (unwrap_or o []) ≡ true
typed_name None path none = cc
typed_name (Some s) path none = in_range (is_name s) path none

name_is_name : (before : List (List ℕ)) (path : List ℕ) (d : Data) → name_faults before path d ≡ [] → is_name (name_value d) ≡ true
unfolding name_faults new_name_faults name_value
name_is_name before path d none =
    typed_name (option_and_then as_str (member_of (codes "name") d)) (member_at path (codes "name"))
    (none_own (text_faults (member_at path (codes "name")) (member_of (codes "name") d))
    (double_faults (member_at path (codes "name")) (name_place_in before (text_value (member_of (codes "name") d)))) none)

vertex_has_name : (version : ℕ) (before : List Vertex) (path : List ℕ) (d : Data) → next_vertex_faults version before path d ≡ [] → is_name (vertex_value version d).name ≡ true
unfolding vertex_faults vertex_value
vertex_has_name version before path d none = name_is_name (vertex_names_of before) path d (none_first _ _ (none_inside (object_faults path (Some d)) _ none))

module _ {A : Type 0} (name : A → List ℕ) (f : List A → List ℕ → Data → List JobFault) (value : Data → A)
    (tells : (before : List A) (path : List ℕ) (d : Data) → f before path d ≡ [] → is_name (name (value d)) ≡ true) where
  all_names : (before : List A) (path : List ℕ) (i : ℕ) (ds : List Data) → following_faults f value before path i ds ≡ [] → list_all is_name (map name (map value ds)) ≡ true
  unfolding following_faults
  all_names before path i [] none = refl
  all_names before path i (d ∷ ds) none =
      both_true (tells before (item_at path i) d (none_first (f before (item_at path i) d) (following_faults f value (before ++ value d ∷ []) path (i + 1) ds) none))
      (all_names (before ++ value d ∷ []) path (i + 1) ds (none_second (f before (item_at path i) d) (following_faults f value (before ++ value d ∷ []) path (i + 1) ds) none))

pub vertices_known : (version : ℕ) (path : List ℕ) (d : Data) → vertices_faults version path d ≡ [] → list_all is_name (vertex_names_of (vertices_value version d)) ≡ true
unfolding vertices_faults vertices_value vertex_names_of
vertices_known version path d none = grind (arith, vertex_has_name version, all_names, none_second)
