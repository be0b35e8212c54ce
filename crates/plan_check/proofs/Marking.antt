-- Marks of the chips into which edges lead, one after the other, and what a tree's edges have to be.
use Rattle.plan_check.proofs.Common.{All, All-cons, All-head, All-nil, All-tail, AllPairs, AllPairs-cons, AllPairs-head, AllPairs-nil, AllPairs-tail, Bool, Chip, Description, Edge, EntersAnew}
use Rattle.plan_check.proofs.Common.{EntersNone, EntersOnce, IsInside, IsLiveLink, IsTrue, List, Some, answers_no, ap, arith, drop, drop-cons, drop_all, end_of, false, false≢true, far_inside, get_or}
use Rattle.plan_check.proofs.Common.{get_or-replicate, get_or-set_other, get_or-set_same, index_below, index_of, inl, inr, length, length-replicate, live_ends, live_inside, mark_at, refl, replicate}
use Rattle.plan_check.proofs.Common.{same_index, set, subst, suc, sym, true, ℕ, ◌*◌, ◌+◌, ◌<◌, ◌↔◌, ◌∙◌, ◌∷◌, ◌≡◌, ◌≢◌, ◌≤◌}

-- the edges are live, and lead into chips that have no mark, no two of them into one
pub record EnterAnew (m : Description) (marks : List Bool) (edges : List Edge) : Type 0 where
  pub live : All (λ e. IsLiveLink m e.chip e.dir) edges
  pub clear : All (λ e. (c : Chip) → end_of m e ≡ Some c → mark_at m marks c ≡ false) edges
  pub apart : AllPairs (λ e f. end_of m e ≢ end_of m f) edges

far_in : (m : Description) (e : Edge) (c : Chip) → IsLiveLink m e.chip e.dir → end_of m e ≡ Some c → IsInside m c
far_in m e c live leads = far_inside m e.chip c e.dir (live_inside m e.chip (live_ends m e.chip e.dir live).2) leads

-- one chip more has a mark
module _ (m : Description) (old : List Bool) (far : Chip) (long : length old ≡ m.width * m.height) (inside : IsInside m far) where
  abbrev now : List Bool
  now = set old (index_of m far) true

  hit : mark_at m now far ≡ true
  hit = get_or-set_same old (index_of m far) true false (subst (λ n. index_of m far < n) (sym long) (index_below m far inside))

  was_clear : (c : Chip) → mark_at m now c ≡ false → (index_of m c ≢ index_of m far) × (mark_at m old c ≡ false)
  was_clear c clear = grind (arith, hit, false≢true, get_or, get_or-set_other)

  still_clear : (c : Chip) → IsInside m c → (c ≡ far → ⊥) → mark_at m old c ≡ false → mark_at m now c ≡ false
  still_clear c c_in differs clear = get_or-set_other old (index_of m far) (index_of m c) true false (λ same. differs (same_index m c far c_in inside same)) ∙ clear

-- the first of the edges enters anew, and the others after it
enter_more : (m : Description) (e : Edge) (es : List Edge) (old new : List Bool) → length old ≡ m.width * m.height → EntersAnew m e old new → EnterAnew m old (e ∷ es) ↔ EnterAnew m new es
enter_more m e es old new long anew = subst (λ marks. EnterAnew m old (e ∷ es) ↔ EnterAnew m marks es) (sym anew.marked) (there, back)
  where
    inside : IsInside m anew.far
    inside = far_in m e anew.far anew.live anew.leads

    there : EnterAnew m old (e ∷ es) → EnterAnew m (now m old anew.far long inside) es
    there enter =
        let live = All-tail (λ (x : Edge). IsLiveLink m x.chip x.dir) e es enter.live in
        let clear = All-tail (λ (x : Edge). (c : Chip) → end_of m x ≡ Some c → mark_at m old c ≡ false) e es enter.clear in
        let first = AllPairs-head (λ (x y : Edge). end_of m x ≢ end_of m y) e es enter.apart in
        record {
          live = live;
          clear = λ k d below c leads.
              still_clear m old anew.far long inside c (far_in m (get_or es k d) c (live k d below) leads) (λ same. first k d below (anew.leads ∙ (ap Some (sym same) ∙ sym leads))) (clear k d below c leads);
          apart = AllPairs-tail (λ (x y : Edge). end_of m x ≢ end_of m y) e es enter.apart;
        }

    same_far : (c : Chip) → end_of m e ≡ Some c → anew.far ≡ c
    same_far c leads = let both : Some anew.far ≡ Some c = sym anew.leads ∙ leads in cc

    back : EnterAnew m (now m old anew.far long inside) es → EnterAnew m old (e ∷ es)
    back enter = record {
      live = All-cons (λ (x : Edge). IsLiveLink m x.chip x.dir) e es anew.live enter.live;
      clear = All-cons (λ (x : Edge). (c : Chip) → end_of m x ≡ Some c → mark_at m old c ≡ false) e es (λ c leads. subst (λ (x : Chip). mark_at m old x ≡ false) (same_far c leads) anew.no_mark)
          (λ k d below c leads. (was_clear m old anew.far long inside c (enter.clear k d below c leads)).1);
      apart = AllPairs-cons (λ (x y : Edge). end_of m x ≢ end_of m y) e es
          (λ k d below same. (was_clear m old anew.far long inside anew.far (enter.clear k d below anew.far (sym same ∙ anew.leads))).0 refl) enter.apart;
    }

enter_none : (m : Description) (e : Edge) (es : List Edge) (old : List Bool) → EntersNone m e old → EnterAnew m old (e ∷ es) → ⊥
enter_none m e es old (inl dead) enter = dead (All-head (λ (x : Edge). IsLiveLink m x.chip x.dir) e es enter.live)
enter_none m e es old (inr had) enter = grind (arith, false≢true, All-head)

module _ (m : Description) (root : Chip) (edges : List Edge) where
  -- what is left of the edges enters anew exactly where all enter once
  abbrev pub GoesOn : ℕ → List Bool → Type 0
  GoesOn i marks = EnterAnew m marks (drop i edges) ↔ EntersOnce m root edges

  -- at first the root alone has a mark
  pub goes_first : (clear : List Bool) → clear ≡ replicate (m.width * m.height) false → IsInside m root → GoesOn 0 (set clear (index_of m root) true)
  goes_first clear is root_in = (
    λ enter. record {
      live = enter.live;
      none_into_root = λ k d below into. false≢true (sym (enter.clear k d below root into) ∙ hit m clear root long root_in);
      one_into_each = enter.apart;
    },
    λ once. record {
      live = once.live;
      clear = λ k d below c leads.
          let c_in : IsInside m c = far_in m (get_or edges k d) c (once.live k d below) leads in
          still_clear m clear root long root_in c c_in (λ same. once.none_into_root k d below (leads ∙ ap Some same))
          (ap (λ l. get_or l (index_of m c) false) is ∙ get_or-replicate (m.width * m.height) (index_of m c) false false (index_below m c c_in));
      apart = once.one_into_each;
    },
  )
    where
      long : length clear ≡ m.width * m.height
      long = ap length is ∙ length-replicate (m.width * m.height) false

  module _ (i : ℕ) (d : Edge) (below : i < length edges) where
    next : drop i edges ≡ get_or edges i d ∷ drop (i + 1) edges
    next = let one : suc i ≡ i + 1 = omega arith in drop-cons edges i d below ∙ ap (λ k. get_or edges i d ∷ drop k edges) one

    pub goes_more : (old new : List Bool) → length old ≡ m.width * m.height → EntersAnew m (get_or edges i d) old new → GoesOn i old → GoesOn (i + 1) new
    goes_more old new long anew goes =
        let step = enter_more m (get_or edges i d) (drop (i + 1) edges) old new long anew in
        let here = subst (λ es. EnterAnew m old es ↔ EntersOnce m root edges) next goes in
        (λ enter. here.0 (step.1 enter), λ once. step.0 (here.1 once))

    pub goes_no_more : (old : List Bool) → EntersNone m (get_or edges i d) old → GoesOn i old → (IsTrue false) ↔ EntersOnce m root edges
    goes_no_more old none goes = answers_no _ (λ once. enter_none m (get_or edges i d) (drop (i + 1) edges) old none (subst (EnterAnew m old) next (goes.1 once)))

  pub goes_to_end : (i : ℕ) (marks : List Bool) → length edges ≤ i → GoesOn i marks → (IsTrue true) ↔ EntersOnce m root edges
  goes_to_end i marks past goes = grind (arith, drop_all i edges past, All-nil, AllPairs-nil)
