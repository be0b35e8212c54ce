-- Of five rows the first four are places of one route, where they have it.
use Rattle.std.proofs.Common.{◌≡◌, ℕ, ◌<◌, [], ◌∷◌, ◌∙◌, sym, arith, length}
use Rattle.std.specs.Prelude.{AllPairs}
use Rattle.std.proofs.lemmas.List.{Elements.All-nil, Elements.All-cons, Kept.AllPairs-cons}
use Rattle.spin_base.specs.declared.routes.Route.{Route}
use Rattle.tern_word.specs.declared.tables.Row.{Row}
use Rattle.cover_merge.specs.Merge.{IsOneRoute, SameRoute}

pairs_of_four : (R : ℕ → ℕ → Type 0) → R 0 1 → R 0 2 → R 0 3 → R 1 2 → R 1 3 → R 2 3 → AllPairs R (0 ∷ 1 ∷ 2 ∷ 3 ∷ [])
pairs_of_four R a b c d e f =
    AllPairs-cons R 0 (1 ∷ 2 ∷ 3 ∷ []) (All-cons (R 0) 1 (2 ∷ 3 ∷ []) a (All-cons (R 0) 2 (3 ∷ []) b (All-cons (R 0) 3 [] c (All-nil (R 0)))))
    (AllPairs-cons R 1 (2 ∷ 3 ∷ []) (All-cons (R 1) 2 (3 ∷ []) d (All-cons (R 1) 3 [] e (All-nil (R 1))))
    (AllPairs-cons R 2 (3 ∷ []) (All-cons (R 2) 3 [] f (All-nil (R 2))) (λ i j x less within. absurd (omega (arith, less, within)))))

pub four_of_five : (r : Route) (a b c d e : Row) → a.route ≡ r → b.route ≡ r → c.route ≡ r → d.route ≡ r → IsOneRoute (a ∷ b ∷ c ∷ d ∷ e ∷ []) (0 ∷ 1 ∷ 2 ∷ 3 ∷ [])
four_of_five r a b c d e p q s t =
    let rows = a ∷ b ∷ c ∷ d ∷ e ∷ [] in
    let inside = λ (k : ℕ). k < length rows in record {
      ascending = pairs_of_four (λ k l. k < l) (omega arith) (omega arith) (omega arith) (omega arith) (omega arith) (omega arith);
      in_range = All-cons inside 0 (1 ∷ 2 ∷ 3 ∷ []) (omega arith) (All-cons inside 1 (2 ∷ 3 ∷ []) (omega arith) (All-cons inside 2 (3 ∷ []) (omega arith) (All-cons inside 3 [] (omega arith) (All-nil inside))));
      one_route = pairs_of_four (SameRoute rows) (λ x. p ∙ sym q) (λ x. p ∙ sym s) (λ x. p ∙ sym t) (λ x. q ∙ sym s) (λ x. q ∙ sym t) (λ x. s ∙ sym t);
    }
