-- What ports and routes tell, as a tree's edges and targets are read one by one.
use Rattle.net_tables.proofs.Common.{Bool, ByLink, Chip, Contains-append_left, Contains-none, Contains-push, Core, Description, Edge, HasChip, IsBlank, IsClearOff, IsInside, IsOutput, Link, List}
use Rattle.net_tables.proofs.Common.{Local, NetPlan, None, Option, Out, Port, Route, Some, Spot, TellsPort, TellsPorts, TellsRoutes, WithOut, [], ap, arith, cases_Bool, cases_eq, edge_eq}
use Rattle.net_tables.proofs.Common.{edge_eq-true, edge_eq_self, end_of, false, false_from_ne_true, false≢true, far_inside, get_or, get_or-set_other, get_or-set_same, get_or_default, has, index_of}
use Rattle.net_tables.proofs.Common.{inl, inr, is_edge_out, is_wanted, leads_to_own, leads_to_spot, length, length-set, list_any, list_any_more, none-some, nothing, opposite_of, or-false, or_assoc}
use Rattle.net_tables.proofs.Common.{or_right, out_of, refl, same_Some, same_index, set, spot_of_out, subst, sym, take, take_all, take_more, tree_cases, tree_push_cases, true, ℕ, ◌*◌, ◌++◌, ◌+◌, ◌<◌}
use Rattle.net_tables.proofs.Common.{◌||◌, ◌∙◌, ◌∷◌, ◌≡◌, ◌≢◌, ◌≤◌}

-- ---- ports

ports_start : (m : Description) (root : Chip) (edges : List Edge) (p : ℕ) (ports : List (Option Port)) → IsBlank m None ports → IsInside m root → p ≡ index_of m root →
    p < length ports → TellsPorts m root (take 0 edges) (set ports p (Some Local))
ports_start m root edges p ports clear root_in at below c inside = grind (arith, cases_eq, get_or-set_same, tree_cases, same_index, get_or, get_or-set_other, Contains-none)

pub ports_first : (m : Description) (root : Chip) (edges : List Edge) (p : ℕ) (ports : List (Option Port)) → IsBlank m None ports →
    IsInside m root → p ≡ index_of m root → p < m.width * m.height →
    (length (set ports p (Some Local)) ≡ m.width * m.height) × TellsPorts m root (take 0 edges) (set ports p (Some Local))
ports_first m root edges p ports clear root_in at below =
    (length-set ports p (Some Local) ∙ clear.long, ports_start m root edges p ports clear root_in at (subst (λ k. p < k) (sym clear.long) below))

-- an edge that leads elsewhere changes nothing at a chip
kept : (m : Description) (root : Chip) (es : List Edge) (e : Edge) (c : Chip) (o : Option Port) → (end_of m e ≢ Some c) →
    TellsPort m root es c o → TellsPort m root (es ++ e ∷ []) c o
kept m root es e c (Some port) other told = grind (arith, Contains-append_left)
kept m root es e c None other told = λ on. elim (tree_push_cases m root es e c on) [
  | inl before ↦ told before
  | inr leads ↦ other leads
]

ports_push : (m : Description) (root : Chip) (es : List Edge) (e : Edge) (far : Chip) (p : ℕ) (ports : List (Option Port)) →
    end_of m e ≡ Some far → IsInside m far → p ≡ index_of m far → p < length ports → TellsPorts m root es ports →
    TellsPorts m root (es ++ e ∷ []) (set ports p (Some (ByLink (opposite_of e.dir))))
ports_push m root es e far p ports leads far_in at below told c inside = elim (cases_eq (index_of m c) p) [
  | inl here ↦
      let is : c ≡ far = same_index m c far inside far_in (here ∙ at) in
      subst (TellsPort m root (es ++ e ∷ []) c) (sym (ap (λ j. get_or (set ports p (Some (ByLink (opposite_of e.dir)))) j None) here ∙ get_or-set_same ports p (Some (ByLink (opposite_of e.dir))) None below))
      (inr (e, Contains-push es e, leads ∙ ap Some (sym is), refl))
  | inr other ↦
      let elsewhere : end_of m e ≢ Some c = λ same. other (ap (index_of m) (same_Some c far (sym same ∙ leads)) ∙ sym at) in
      subst (TellsPort m root (es ++ e ∷ []) c) (sym (get_or-set_other ports p (index_of m c) (Some (ByLink (opposite_of e.dir))) None other))
      (kept m root es e c (get_or ports (index_of m c) None) elsewhere (told c inside))
]

-- one more thing of a list is read, which is the same as another
pub reads : {X : Type 0} (items xs : List X) (i : ℕ) (d : X) → items ≡ xs → i < length items → take (i + 1) xs ≡ take i xs ++ get_or items i d ∷ []
reads items xs i d same within = sym (ap (take (i + 1)) same) ∙ (take_more items i d within ∙ ap (λ l. take i l ++ get_or items i d ∷ []) same)

-- one more edge is read
pub ports_more : (m : Description) (root : Chip) (items edges : List Edge) (i : ℕ) (d : Edge) (far : Chip) (p : ℕ) (ports : List (Option Port)) → items ≡ edges →
    i < length items → end_of m (get_or items i d) ≡ Some far → IsInside m (get_or items i d).chip → p ≡ index_of m far → p < length ports →
    TellsPorts m root (take i edges) ports → TellsPorts m root (take (i + 1) edges) (set ports p (Some (ByLink (opposite_of (get_or items i d).dir))))
ports_more m root items edges i d far p ports same within leads inside at below told =
    subst (λ es. TellsPorts m root es (set ports p (Some (ByLink (opposite_of (get_or items i d).dir))))) (sym (reads items edges i d same within))
    (ports_push m root (take i edges) (get_or items i d) far p ports leads (far_inside m (get_or items i d).chip far (get_or items i d).dir inside leads) at below told)

pub ports_same : (m : Description) (root : Chip) (items edges : List Edge) (i : ℕ) (d : Edge) (ports : List (Option Port)) → items ≡ edges → i < length items →
    end_of m (get_or items i d) ≡ None → TellsPorts m root (take i edges) ports → TellsPorts m root (take (i + 1) edges) ports
ports_same m root items edges i d ports same within none told =
    subst (λ es. TellsPorts m root es ports) (sym (reads items edges i d same within)) (λ c inside. grind (arith, get_or ports (index_of m c) None, kept, none-some))

-- the edges were read to the end
pub ports_all : (m : Description) (root : Chip) (items edges : List Edge) (i : ℕ) (ports : List (Option Port)) → items ≡ edges → length items ≤ i →
    TellsPorts m root (take i edges) ports → TellsPorts m root edges ports
ports_all m root items edges i ports same past = grind (arith, take_all)

-- ---- routes

-- where the route of a chip of the tree is written, chips off the tree have none as before
pub off_kept : (m : Description) (net : NetPlan) (k : Chip) (p : ℕ) (r : Route) (routes : List Route) → IsInside m k → ((HasChip m net k → ⊥) → ⊥) → p ≡ index_of m k →
    IsClearOff m net routes → IsClearOff m net (set routes p r)
off_kept m net k p r routes k_in on at none c inside off = elim (cases_eq (index_of m c) p) [
  | inl here ↦ absurd (on (subst (λ x. HasChip m net x → ⊥) (same_index m c k inside k_in (here ∙ at)) off))
  | inr other ↦ get_or-set_other routes p (index_of m c) r nothing other ∙ none c inside off
]

-- one output more at one chip
module _ (m : Description) (k : Chip) (x : Out) (added : Chip → Out → Bool) (is : added k x ≡ true)
    (only : (c : Chip) (o : Out) → added c o ≡ true → (c ≡ k) × (o ≡ x)) where
  added_one : (routes : List Route) (p : ℕ) (r : Route) (want more : Chip → Out → Bool) → IsInside m k → p ≡ index_of m k → p < length routes →
      WithOut (get_or routes p nothing) x r → ((c : Chip) (o : Out) → more c o ≡ (want c o || added c o)) →
      ((c : Chip) (o : Out) → IsInside m c → IsOutput o → has (get_or routes (index_of m c) nothing) o ≡ want c o) →
      (c : Chip) (o : Out) → IsInside m c → IsOutput o → has (get_or (set routes p r) (index_of m c) nothing) o ≡ more c o
  added_one routes p r want more k_in at below withs says told c o inside valid = elim (cases_eq (index_of m c) p) [
    | inl here ↦
        let same : c ≡ k = same_index m c k inside k_in (here ∙ at) in
        let value : get_or (set routes p r) (index_of m c) nothing ≡ r =
        ap (λ j. get_or (set routes p r) j nothing) here ∙ get_or-set_same routes p r nothing below in
        elim (cases_Bool (added c o)) [
          | inl hit ↦
              ap (λ s. has s o) value ∙ (ap (has r) (only c o hit).1 ∙ (withs.has_it ∙ sym (says c o ∙ or_right _ _ hit)))
          | inr miss ↦
              let apart : o ≢ x = λ e. false≢true (sym miss ∙ (ap (added c) e ∙ (ap (λ d. added d x) same ∙ is))) in
              ap (λ s. has s o) value ∙ (withs.same_else o apart ∙ (ap (λ j. has (get_or routes j nothing) o) (sym here) ∙ (told c o inside valid ∙ not_hit c o miss)))
        ]
    | inr other ↦
        let miss : added c o ≡ false = false_from_ne_true (added c o) (λ hit. other (ap (index_of m) (only c o hit).0 ∙ sym at)) in
        ap (λ s. has s o) (get_or-set_other routes p (index_of m c) r nothing other) ∙ (told c o inside valid ∙ not_hit c o miss)
  ]
    where
      not_hit : (c : Chip) (o : Out) → added c o ≡ false → want c o ≡ more c o
      not_hit c o miss = sym (says c o ∙ (ap (λ b. want c o || b) miss ∙ or-false (want c o)))

edge_adds : Edge → Chip → Out → Bool
edge_adds e c (Link d) = edge_eq (record { chip = c; dir = d }) e
edge_adds e c (Core p) = false

edge_only : (e : Edge) (c : Chip) (o : Out) → edge_adds e c o ≡ true → (c ≡ e.chip) × (o ≡ Link e.dir)
unfolding edge_adds
edge_only e c (Link d) hit = grind (arith, edge_eq-true (record { chip = c; dir = d }) e hit)
edge_only e c (Core p) hit = absurd (false≢true hit)

end_only : (s : Spot) (c : Chip) (o : Out) → leads_to_spot c o s ≡ true → (c ≡ s.chip) × (o ≡ out_of s.core)
end_only s c o hit = let leads = spot_of_out c o s hit in (sym leads.0, leads.1)

edge_more : (edges : List Edge) (i : ℕ) (d : Edge) → i < length edges → (c : Chip) (o : Out) →
    is_wanted (take (i + 1) edges) [] c o ≡ (is_wanted (take i edges) [] c o || edge_adds (get_or edges i d) c o)
unfolding edge_adds
edge_more edges i d within c (Link l) =
    let same : Edge → Bool = edge_eq (record { chip = c; dir = l }) in
    or-false (list_any same (take (i + 1) edges))
    ∙ (list_any_more same edges i d within
    ∙ ap (λ b. b || same (get_or edges i d)) (sym (or-false (list_any same (take i edges)))))
edge_more edges i d within c (Core p) = refl

end_more : (edges : List Edge) (targets : List Spot) (i : ℕ) (d : Spot) → i < length targets → (c : Chip) (o : Out) →
    is_wanted edges (take (i + 1) targets) c o ≡ (is_wanted edges (take i targets) c o || leads_to_spot c o (get_or targets i d))
end_more edges targets i d within c o =
    ap (λ b. is_edge_out edges c o || b) (list_any_more (leads_to_spot c o) targets i d within)
    ∙ sym (or_assoc (is_edge_out edges c o) (list_any (leads_to_spot c o) (take i targets)) (leads_to_spot c o (get_or targets i d)))

links_read : (m : Description) (edges : List Edge) (i : ℕ) (d : Edge) (p : ℕ) (routes : List Route) (old r : Route) → i < length edges →
    IsInside m (get_or edges i d).chip → p ≡ index_of m (get_or edges i d).chip → p < length routes → old ≡ get_or routes p old →
    WithOut old (Link (get_or edges i d).dir) r → TellsRoutes m (take i edges) [] routes →
    TellsRoutes m (take (i + 1) edges) [] (set routes p r)
unfolding edge_adds
links_read m edges i d p routes old r within inside at below is withs told =
    let e : Edge = get_or edges i d in
    let before : old ≡ get_or routes p nothing = is ∙ get_or_default routes p old nothing below in
    added_one m e.chip (Link e.dir) (edge_adds e) (edge_eq_self e) (edge_only e) routes p r
    (is_wanted (take i edges) []) (is_wanted (take (i + 1) edges) []) inside at below
    (subst (λ (o : Route). WithOut o (Link e.dir) r) before withs) (edge_more edges i d within) told

-- the same where the edges are read from a list that is theirs
pub links_more : (m : Description) (items edges : List Edge) (i : ℕ) (d : Edge) (p : ℕ) (routes : List Route) (old r : Route) → items ≡ edges → i < length items →
    IsInside m (get_or items i d).chip → p ≡ index_of m (get_or items i d).chip → p < length routes → old ≡ get_or routes p old →
    WithOut old (Link (get_or items i d).dir) r → TellsRoutes m (take i edges) [] routes →
    TellsRoutes m (take (i + 1) edges) [] (set routes p r)
links_more m items edges i d p routes old r same within inside at below is withs = grind (arith, links_read m items i d p routes old r within inside at below is withs)

ends_read : (m : Description) (edges : List Edge) (targets : List Spot) (i : ℕ) (d : Spot) (p : ℕ) (routes : List Route) (old r : Route) → i < length targets →
    IsInside m (get_or targets i d).chip → p ≡ index_of m (get_or targets i d).chip → p < length routes → old ≡ get_or routes p old →
    WithOut old (out_of (get_or targets i d).core) r → TellsRoutes m edges (take i targets) routes →
    TellsRoutes m edges (take (i + 1) targets) (set routes p r)
ends_read m edges targets i d p routes old r within inside at below is withs told =
    let s : Spot = get_or targets i d in
    let before : old ≡ get_or routes p nothing = is ∙ get_or_default routes p old nothing below in
    added_one m s.chip (out_of s.core) (λ c o. leads_to_spot c o s) (leads_to_own s) (end_only s) routes p r
    (is_wanted edges (take i targets)) (is_wanted edges (take (i + 1) targets)) inside at below
    (subst (λ (o : Route). WithOut o (out_of s.core) r) before withs) (end_more edges targets i d within) told

-- the same where the targets are read from a list that is theirs
pub ends_more : (m : Description) (edges : List Edge) (items targets : List Spot) (i : ℕ) (d : Spot) (p : ℕ) (routes : List Route) (old r : Route) → items ≡ targets → i < length items →
    IsInside m (get_or items i d).chip → p ≡ index_of m (get_or items i d).chip → p < length routes → old ≡ get_or routes p old →
    WithOut old (out_of (get_or items i d).core) r → TellsRoutes m edges (take i targets) routes →
    TellsRoutes m edges (take (i + 1) targets) (set routes p r)
ends_more m edges items targets i d p routes old r same within inside at below is withs = grind (arith, ends_read m edges items i d p routes old r within inside at below is withs)
