-- Edges that are put in order give one tree.
use Rattle.spin_checks.proofs.Common.{All, All-cons, AllPairs, AllPairs-head, AllPairs-tail, Bool, Chip, Edge, IsEdgeBefore, IsPermutation, IsPermutation-sym, IsPermutation-trans, IsTreeOf, List}
use Rattle.spin_checks.proofs.Common.{Tree, [], ap, arith, edge_eq, edge_eq-true, edge_eq_self, edge_key, false, get_or, refl, same_chip, same_dir, same_edge, same_from_neither, subst, sum_by}
use Rattle.spin_checks.proofs.Common.{sum_by-IsPermutation, sum_by-cons, sum_by-le, sym, true, ℕ, ◌+◌, ◌∙◌, ◌∷◌, ◌≡◌, ◌≤◌}

-- no edge is before itself
not_before_itself : (e : Edge) → IsEdgeBefore e e → ⊥
not_before_itself e its_1 = grind arith

-- two edges of which none is before the other are the same
level : (e f : Edge) → (IsEdgeBefore e f → ⊥) → (IsEdgeBefore f e → ⊥) → e ≡ f
level e f one other = let same = same_from_neither (edge_key e) (edge_key f) one other in same_edge e f (same_chip e.chip f.chip same.0 same.1) (same_dir e.dir f.dir same.2)

-- how often an edge stands in a list
abbrev count_at : Bool → ℕ
count_at true = 1
count_at false = 0

abbrev times : Edge → List Edge → ℕ
times e edges = sum_by (λ f. count_at (edge_eq e f)) edges

times_more : (e f : Edge) (fs : List Edge) → times e (f ∷ fs) ≡ count_at (edge_eq e f) + times e fs
times_more e f fs = sum_by-cons (λ g. count_at (edge_eq e g)) f fs

abbrev IsInOrder : List Edge → Type 0
IsInOrder edges = AllPairs (λ e f. IsEdgeBefore f e → ⊥) edges

-- an edge before the first of a list in order does not stand there
not_there : (e f : Edge) (fs : List Edge) → IsInOrder (f ∷ fs) → IsEdgeBefore e f → times e (f ∷ fs) ≤ 0
not_there e f fs up before =
    let none : All (λ g. count_at (edge_eq e g) ≤ 0) (f ∷ fs) =
    All-cons (λ g. count_at (edge_eq e g) ≤ 0) f fs (off f (λ same. not_before_itself f (subst (λ g. IsEdgeBefore g f) same before)) (edge_eq e f) refl)
    (λ k d below.
    let later : IsEdgeBefore (get_or fs k d) f → ⊥ = AllPairs-head (λ (a b : Edge). IsEdgeBefore b a → ⊥) f fs up k d below in
    off (get_or fs k d) (λ same. later (subst (λ g. IsEdgeBefore g f) same before)) (edge_eq e (get_or fs k d)) refl) in
    let few = sum_by-le (λ g. count_at (edge_eq e g)) 0 (f ∷ fs) none in
    omega (arith, few)
  where
    off : (g : Edge) → (e ≡ g → ⊥) → (b : Bool) → edge_eq e g ≡ b → count_at b ≤ 0
    off g other b is = grind (arith, edge_eq-true)

-- two lists in order with each edge as often are the same
same_counts : (es fs : List Edge) → IsInOrder es → IsInOrder fs → ((e : Edge) → times e es ≡ times e fs) → es ≡ fs
same_counts [] [] up also same = refl
same_counts [] (f ∷ fs) up also same = grind (arith, edge_eq_self f, times_more f f fs)
same_counts (e ∷ es) [] up also same = grind (arith, edge_eq_self e, times_more e e es)
same_counts (e ∷ es) (f ∷ fs) up also same =
    let heads : e ≡ f = level e f (λ before. missed e f es fs up also before (same e)) (λ before. missed f e fs es also up before (sym (same f))) in
    let tails : es ≡ fs = same_counts es fs (AllPairs-tail (λ (a b : Edge). IsEdgeBefore b a → ⊥) e es up) (AllPairs-tail (λ (a b : Edge). IsEdgeBefore b a → ⊥) f fs also) (λ g.
    let whole : count_at (edge_eq g e) + times g es ≡ count_at (edge_eq g f) + times g fs = sym (times_more g e es) ∙ (same g ∙ times_more g f fs) in
    let first : count_at (edge_eq g e) ≡ count_at (edge_eq g f) = ap (λ h. count_at (edge_eq g h)) heads in
    omega (arith, whole, first)) in
    λ i. heads i ∷ tails i
  where
    missed : (a b : Edge) (xs ys : List Edge) → IsInOrder (a ∷ xs) → IsInOrder (b ∷ ys) → IsEdgeBefore a b → times a (a ∷ xs) ≡ times a (b ∷ ys) → ⊥
    missed a b xs ys up also before same = grind (arith, edge_eq_self a, not_there a b ys also before, times_more a a xs)

-- edges that are handed in have one tree
pub one_tree : (root : Chip) (edges : List Edge) (t u : Tree) → IsTreeOf root edges t → IsTreeOf root edges u → t ≡ u
one_tree root edges t u x y =
    let moved : IsPermutation t.edges u.edges = IsPermutation-trans t.edges edges u.edges (IsPermutation-sym edges t.edges x.same_edges) y.same_edges in
    let same : t.edges ≡ u.edges = same_counts t.edges u.edges x.in_order y.in_order (λ e. sym (sum_by-IsPermutation (λ f. count_at (edge_eq e f)) t.edges u.edges moved)) in
    let begins : t.root ≡ u.root = x.begins ∙ sym y.begins in
    λ i. record { root = begins i; edges = same i }
