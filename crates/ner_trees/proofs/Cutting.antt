-- Walks cut at the last chip that a table has, and tables that note where links lead.
use Rattle.ner_trees.proofs.Common.{All-nil, All-push, Any, Bool, Chip, Contains, Contains-append_left, Contains-push, Contains-push_cases, Description, Dir, Edge, IsCutAt, IsInside, IsMarkedBy, List}
use Rattle.ner_trees.proofs.Common.{None, Some, [], ap, append-nil, append_assoc, arith, cases_eq, end_of, end_of_walk, false, far_inside, get_or, get_or-set_other, get_or-set_same, index_below}
use Rattle.ner_trees.proofs.Common.{index_of, inl, inr, is_on, length, links_of, next_of, none-some, refl, same_Some, same_index, set, subst, sym, take, take_more, true, ℕ, ◌*◌, ◌++◌, ◌+◌, ◌<◌, ◌∙◌}
use Rattle.ner_trees.proofs.Common.{◌∷◌, ◌≡◌, ◌⊎◌}
use Rattle.ner_trees.proofs.Trees.{link, walk_end}

-- one step more at the end of a walk
pub links_push : (m : Description) (c : Chip) (ds : List Dir) (d : Dir) → links_of m c (ds ++ d ∷ []) ≡ links_of m c ds ++ link (end_of_walk m c ds) d ∷ []
links_push m c [] d = refl
links_push m c (e ∷ ds) d = ap (λ es. link c e ∷ es) (links_push m (next_of m c e) ds d)

-- where a walk is after one step more
pub at_more : (m : Description) (near : Chip) (walk : List Dir) (i : ℕ) (d : Dir) (at next : Chip) → i < length walk → at ≡ end_of_walk m near (take i walk) →
    next ≡ next_of m at (get_or walk i d) → next ≡ end_of_walk m near (take (i + 1) walk)
at_more m near walk i d at next within ends is = grind (arith, get_or walk i d, walk_end m near (take i walk) (get_or walk i d ∷ []), take_more walk i d within)

-- a step to a chip of the table is where the branch starts anew
pub cut_again_at : (m : Description) (on : List Bool) (near : Chip) (walk : List Dir) (i : ℕ) (d : Dir) (at next : Chip) (links : List Edge) → i < length walk →
    at ≡ end_of_walk m near (take i walk) → next ≡ next_of m at (get_or walk i d) → IsInside m next → is_on m on next ≡ true → links ≡ [] →
    IsCutAt m on near (take (i + 1) walk) next links
cut_again_at m on near walk i d at next links within ends is inside has none = grind (arith, append-nil (take (i + 1) walk), at_more m near walk i d at next within ends is, All-nil)

-- another step is added
pub cut_more_at : (m : Description) (on : List Bool) (near : Chip) (walk : List Dir) (i : ℕ) (d : Dir) (at next start : Chip) (added links : List Edge) → i < length walk →
    at ≡ end_of_walk m near (take i walk) → IsInside m at → next ≡ next_of m at (get_or walk i d) → is_on m on next ≡ false →
    links ≡ added ++ link at (get_or walk i d) ∷ [] → IsCutAt m on near (take i walk) start added → IsCutAt m on near (take (i + 1) walk) start links
cut_more_at m on near walk i d at next start added links within ends inside is has grows cut =
    let o : Dir = get_or walk i d in
    subst (λ es. IsCutAt m on near (take (i + 1) walk) start es) (sym grows) (record {
      passed = cut.passed;
      rest = cut.rest ++ o ∷ [];
      walk_is = take_more walk i d within ∙ (ap (λ es. es ++ o ∷ []) cut.walk_is ∙ append_assoc cut.passed cut.rest (o ∷ []));
      start_is = cut.start_is;
      start_inside = cut.start_inside;
      start_on = cut.start_on;
      added_is =
          let here : end_of_walk m start cut.rest ≡ at =
          ap (λ (c : Chip). end_of_walk m c cut.rest) (sym cut.start_is) ∙ (sym (walk_end m near cut.passed cut.rest) ∙ (ap (end_of_walk m near) (sym cut.walk_is) ∙ sym ends)) in
          ap (λ es. es ++ link at o ∷ []) cut.added_is ∙ (ap (λ (c : Chip). links_of m start cut.rest ++ link c o ∷ []) (sym here) ∙ sym (links_push m start cut.rest o));
      added_inside = All-push (λ e. IsInside m e.chip) added (link at o) cut.added_inside inside;
      added_off = All-push (λ e. is_on m on (next_of m e.chip e.dir) ≡ false) added (link at o) cut.added_off (ap (is_on m on) (sym is) ∙ has);
    })

leads_in : (m : Description) (links : List Edge) (e : Edge) (c : Chip) → Contains links e → end_of m e ≡ Some c → Any (λ f. end_of m f ≡ Some c) links
leads_in m links e c has leads = (has.0, e, has.1, has.2, leads)

any_push : (m : Description) (links : List Edge) (e : Edge) (c : Chip) → Any (λ f. end_of m f ≡ Some c) (links ++ e ∷ []) → Any (λ f. end_of m f ≡ Some c) links ⊎ (end_of m e ≡ Some c)
any_push m links e c any = grind (arith, Contains-push_cases links e any.1 (any.0, any.2, any.3), leads_in)

push_any : (m : Description) (links : List Edge) (e : Edge) (c : Chip) → Any (λ f. end_of m f ≡ Some c) links → Any (λ f. end_of m f ≡ Some c) (links ++ e ∷ [])
push_any m links e c any = leads_in m (links ++ e ∷ []) any.1 c (Contains-append_left links (e ∷ []) any.1 (any.0, any.2, any.3)) any.4

pub marked_more : (m : Description) (old new : List Bool) (links : List Edge) (i : ℕ) (d : Edge) (far : Chip) → i < length links → length new ≡ m.width * m.height →
    IsInside m (get_or links i d).chip → end_of m (get_or links i d) ≡ Some far → IsMarkedBy m old new (take i links) → IsMarkedBy m old (set new (index_of m far) true) (take (i + 1) links)
marked_more m old new links i d far within long e_in leads so_far =
    subst (λ es. IsMarkedBy m old (set new (index_of m far) true) es) (sym (take_more links i d within)) (λ c inside. elim (cases_eq (index_of m c) (index_of m far)) [
      | inl same ↦
          let e : Edge = get_or links i d in
          let far_in : IsInside m far = far_inside m e.chip far e.dir e_in leads in
          let is : c ≡ far = same_index m c far inside far_in same in
          let below : index_of m far < length new = (let b : index_of m far < m.width * m.height = index_below m far far_in in omega arith) in
          let at : is_on m (set new (index_of m far) true) c ≡ true =
          ap (λ k. get_or (set new (index_of m far) true) k false) same ∙ get_or-set_same new (index_of m far) true false below in
          (λ _. inr (leads_in m (take i links ++ e ∷ []) e c (Contains-push (take i links) e) (leads ∙ ap Some (sym is))), λ _. at)
      | inr other ↦
          let e : Edge = get_or links i d in
          let at : is_on m (set new (index_of m far) true) c ≡ is_on m new c = get_or-set_other new (index_of m far) (index_of m c) true false other in (
            λ is. elim ((so_far c inside).0 (sym at ∙ is)) [
              | inl was ↦ inl was
              | inr any ↦ inr (push_any m (take i links) e c any)
            ],
            λ or. at ∙ (so_far c inside).1 (elim or [
              | inl was ↦ inl was
              | inr any ↦ elim (any_push m (take i links) e c any) [
                | inl before ↦ inr before
                | inr here ↦ absurd (other (ap (index_of m) (same_Some c far (sym here ∙ leads))))
              ]
            ]),
          )
    ])

pub marked_past : (m : Description) (old new : List Bool) (links : List Edge) (i : ℕ) (d : Edge) → i < length links → end_of m (get_or links i d) ≡ None →
    IsMarkedBy m old new (take i links) → IsMarkedBy m old new (take (i + 1) links)
marked_past m old new links i d within nowhere so_far =
    subst (λ es. IsMarkedBy m old new es) (sym (take_more links i d within)) (λ c inside.
    let e : Edge = get_or links i d in (
      λ is. elim ((so_far c inside).0 is) [
        | inl was ↦ inl was
        | inr any ↦ inr (push_any m (take i links) e c any)
      ],
      λ or. (so_far c inside).1 (elim or [
        | inl was ↦ inl was
        | inr any ↦ elim (any_push m (take i links) e c any) [
          | inl before ↦ inr before
          | inr here ↦ absurd (none-some c (sym nowhere ∙ here))
        ]
      ]),
    ))
