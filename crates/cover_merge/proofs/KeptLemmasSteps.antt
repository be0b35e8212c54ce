-- Steps of refinement one after another, and the bounds of the blocks that are down-checked on the way.
use Rattle.cover_merge.proofs.Common.{All, All-filter, All-nil, Block, IsDownStep, IsGone, IsNarrowed, LeadsWithin, LiesIn, LiesIn-trans, List, PassesDownCheck, PassesUpCheck, RefinesWithin, Row, []}
use Rattle.cover_merge.proofs.Common.{arith, generality, generality_le, get_or, has_row, inl, inr, keeps, length, merged_block, not, subst, sym, true, ℕ, ◌<◌, ◌==◌, ◌≡◌, ◌≤◌}
use Rattle.cover_merge.proofs.{Positions.all_of, Positions.has-place, Positions.All-has, KeptLemmas.fewer_lies}

-- places of places of a set
all_through : (start set few : List ℕ) → All (λ s. has_row start s ≡ true) set → All (λ s. has_row set s ≡ true) few → All (λ s. has_row start s ≡ true) few
all_through start set few all some k d within = All-has (λ s. has_row start s ≡ true) set (get_or few k d) all (some k d within)

module _ (rows : List Row) where
  -- a step leads to places of the set
  narrowed_of_set : (old : List ℕ) (joined met : Block) (new : List ℕ) → IsNarrowed rows old joined met new → All (λ s. has_row old s ≡ true) new
  narrowed_of_set old joined met new (inl (i, below, best, is)) = subst (All (λ s. has_row old s ≡ true)) (sym is) (All-filter (keeps rows met i) (λ s. has_row old s ≡ true) old (all_of old))
  narrowed_of_set old joined met new (inr none) = subst (All (λ s. has_row old s ≡ true)) (sym none.1) (All-nil (λ s. has_row old s ≡ true))

  module _ (outer : Block) (low : ℕ) where
    -- Steps after steps.
    pub leads_on : (start set last : List ℕ) → LeadsWithin rows outer low start set → LeadsWithin rows outer low set last → LeadsWithin rows outer low start last
    leads_on start set last (LeadsWithin.stands p) more = more
    leads_on start set last (LeadsWithin.leads_up p next l two step rest) more = LeadsWithin.leads_up p next last two step (leads_on next l last rest more)
    leads_on start set last (LeadsWithin.leads_down p next l two step lies high rest) more = LeadsWithin.leads_down p next last two step lies high (leads_on next l last rest more)

    -- What refines the last places refines those at the start.
    pub leads_refines : (start set answer : List ℕ) → LeadsWithin rows outer low start set → RefinesWithin rows outer low set answer → RefinesWithin rows outer low start answer
    leads_refines start set answer (LeadsWithin.stands p) more = more
    leads_refines start set answer (LeadsWithin.leads_up p next l two step rest) more = RefinesWithin.goes_up p next answer two step (leads_refines next l answer rest more)
    leads_refines start set answer (LeadsWithin.leads_down p next l two step lies high rest) more = RefinesWithin.goes_down p next answer two step lies high (leads_refines next l answer rest more)

    -- No step leads to another place than those at the start.
    pub leads_of_set : (start set : List ℕ) → LeadsWithin rows outer low start set → All (λ s. has_row start s ≡ true) set
    leads_of_set start set (LeadsWithin.stands p) = all_of p
    leads_of_set start set (LeadsWithin.leads_up p next l two step rest) = all_through p next l
        (subst (All (λ s. has_row p s ≡ true)) (sym step.result) (All-filter (λ t. not (t == step.place)) (λ s. has_row p s ≡ true) p (all_of p))) (leads_of_set next l rest)
    leads_of_set start set (LeadsWithin.leads_down p next l two step lies high rest) = all_through p next l (narrowed_of_set p (merged_block rows p) step.met next step.narrowed) (leads_of_set next l rest)

  -- ---- the loop of a refinement

  -- nothing was done yet
  pub gone_start : (places : List ℕ) (outer : Block) (low : ℕ) → 32 < low → IsGone rows places places outer low
  gone_start places outer low none = record {
    leads = λ wide least inside less. LeadsWithin.stands places;
    within = λ checked some. absurd (omega (arith, none, checked));
  }

  module _ (start set : List ℕ) (outer : Block) (low : ℕ) (gone : IsGone rows start set outer low) where
    few_gone : (new : List ℕ) → All (λ s. s < length rows) set → All (λ s. has_row set s ≡ true) new → low ≤ 32 → 0 < length new → (LiesIn (merged_block rows new) outer) × (generality (merged_block rows new) ≤ low)
    few_gone new in_range few checked some =
        let at = has-place set (get_or new 0 0) (few 0 0 some) in
        let old = gone.within checked (omega (arith, at.1)) in
        let less = fewer_lies rows new set in_range some few in
        (LiesIn-trans (merged_block rows new) (merged_block rows set) outer less.0 old.0, omega (arith, less.1, old.1))

    -- up-steps keep the bounds
    pub gone_up : (new : List ℕ) → All (λ s. s < length rows) set → ((wide : Block) (least : ℕ) → LeadsWithin rows wide least set new) → IsGone rows start new outer low
    gone_up new in_range up = record {
      leads = λ wide least inside less. leads_on wide least start set new (gone.leads wide least inside less) (up wide least);
      within = few_gone new in_range (leads_of_set outer low set new (up outer low));
    }

    -- what refines the set refines the places at the start
    pub gone_refines : (answer : List ℕ) → RefinesWithin rows outer low set answer → RefinesWithin rows outer low start answer
    gone_refines answer rest = leads_refines outer low start set answer (gone.leads outer low (λ checked k small inside. inside) (omega arith)) rest

    pub gone_empty : length set < 2 → RefinesWithin rows outer low start []
    gone_empty few = gone_refines [] (RefinesWithin.ends_empty set few)

  module _ (start set : List ℕ) (outer : Block) (two : 2 ≤ length set) (gone : IsGone rows start set outer (generality (merged_block rows set))) where
    lies_here : LiesIn (merged_block rows set) outer
    lies_here = (gone.within (generality_le (merged_block rows set)) (omega (arith, two))).0

    -- the merge is legal
    pub gone_legal : PassesUpCheck rows set → PassesDownCheck rows set → RefinesWithin rows outer (generality (merged_block rows set)) start set
    gone_legal up down = gone_refines start set outer (generality (merged_block rows set)) gone set (RefinesWithin.ends_legal set two up down lies_here (omega arith))

    -- or the set is narrowed
    pub gone_down : (new : List ℕ) → All (λ s. s < length rows) set → IsDownStep rows set new → IsGone rows start new outer (generality (merged_block rows set))
    gone_down new in_range step = record {
      leads = λ wide least inside less.
          leads_on wide least start set new (gone.leads wide least inside less)
          (LeadsWithin.leads_down set new new two step (LiesIn-trans (merged_block rows set) outer wide lies_here (inside (generality_le (merged_block rows set)))) less (LeadsWithin.stands new));
      within = few_gone start set outer (generality (merged_block rows set)) gone new in_range (narrowed_of_set set (merged_block rows set) step.met new step.narrowed);
    }
