-- Claims get one list of ranges, or one refusal.
use Rattle.spin_apps.proofs.Common.{AreFirstServed, AreServed, Claim, Description, IsLeastOpenRange, IsOpenRange, IsRefusalDue, List, LoadRefusal, Range, [], ap, arith, cases_order, inl, inr, length}
use Rattle.spin_apps.proofs.Common.{one_item_at, refl, slice_get_there, slice_get_within, subst, suc, sym, take, take_all, take_more_at, zero, ℕ, ◌++◌, ◌+◌, ◌<◌, ◌∙◌, ◌∷◌, ◌≡◌, ◌≤◌}

module _ (m : Description) (taken : List Range) (claims : List Claim) where
  one_least : (before : List Range) (claim : Claim) (r s : Range) → IsLeastOpenRange m before claim r → IsLeastOpenRange m before claim s → r ≡ s
  one_least before claim r s a b =
      let region : r.region ≡ s.region = a.region ∙ sym b.region in
      let place : r.place ≡ s.place = omega (arith, a.least s.place b.may, b.least r.place a.may) in
      let size : r.size ≡ s.size = a.size ∙ sym b.size in
      λ i. record { region = region i; place = place i; size = size i }

  -- as far as both go, two lists of ranges are the same
  same_ranges : (rs ss : List Range) → AreFirstServed m taken claims rs → AreFirstServed m taken claims ss → (n : ℕ) → n ≤ length rs → n ≤ length ss → take n rs ≡ take n ss
  same_ranges rs ss a b zero below within = refl
  same_ranges rs ss a b (suc n) below within =
      let before : take n rs ≡ take n ss = same_ranges rs ss a b n (omega (arith, below)) (omega (arith, within)) in
      let few = a.few in
      let r = slice_get_there rs n (omega (arith, below)) in
      let s = slice_get_there ss n (omega (arith, within)) in
      let claim = slice_get_there claims n (omega (arith, below, few)) in
      let first = subst (λ l. IsLeastOpenRange m (taken ++ l) claim.0 r.0) before (a.each n claim.0 r.0 claim.1 r.1) in
      let range : r.0 ≡ s.0 = one_least (taken ++ take n ss) claim.0 r.0 s.0 first (b.each n claim.0 s.0 claim.1 s.1) in
      let next : n + 1 ≡ suc n = omega arith in
      subst (λ k. take k rs ≡ take k ss) next
      (take_more_at rs n r.0 r.1 ∙ (ap (λ l. l ++ r.0 ∷ []) before ∙ (ap (λ x. take n ss ++ x ∷ []) range ∙ sym (take_more_at ss n s.0 s.1))))

  -- all claims get one list of ranges
  pub one_served : (rs ss : List Range) → AreServed m taken claims rs → AreServed m taken claims ss → rs ≡ ss
  one_served rs ss a b =
      let n : ℕ = length claims in
      let all = a.all in
      let also = b.all in
      sym (take_all n rs (omega (arith, all))) ∙ (same_ranges rs ss a.first b.first n (omega (arith, all)) (omega (arith, also)) ∙ take_all n ss (omega (arith, also)))

  -- a claim that is refused gets no range
  refused_not_served : (refusal : LoadRefusal) (due : IsRefusalDue m taken claims refusal) (ss : List Range) → AreFirstServed m taken claims ss → length due.ranges < length ss → ⊥
  refused_not_served refusal due ss served longer =
      let n : ℕ = length due.ranges in
      let s = slice_get_there ss n longer in
      let got = served.each n due.claim s.0 due.is s.1 in
      let before : take n ss ≡ due.ranges =
      same_ranges ss due.ranges served due.before n (omega (arith, longer)) (omega arith) ∙ take_all n due.ranges (omega arith) in
      due.refused s.0.place (subst (λ l. IsOpenRange m (taken ++ l) due.claim s.0.place) before got.may)

  pub served_not_refused : (refusal : LoadRefusal) (rs : List Range) → AreServed m taken claims rs → IsRefusalDue m taken claims refusal → ⊥
  served_not_refused refusal rs served due =
      refused_not_served refusal due rs served.first (omega (arith, slice_get_within claims (length due.ranges) due.claim due.is, served.all))

  pub one_refusal : (e f : LoadRefusal) → IsRefusalDue m taken claims e → IsRefusalDue m taken claims f → e ≡ f
  one_refusal e f a b = elim (cases_order (length a.ranges) (length b.ranges)) [
    | inl same ↦ sym a.refusal_is ∙ (ap (λ (c : Claim). c.refusal) (one_item_at claims (length a.ranges) (length b.ranges) a.claim b.claim same a.is b.is) ∙ b.refusal_is)
    | inr (inl less) ↦ absurd (refused_not_served e a b.ranges b.before less)
    | inr (inr more) ↦ absurd (refused_not_served f b a.ranges a.before more)
  ]
