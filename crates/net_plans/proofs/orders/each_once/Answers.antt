use Rattle.net_plans.proofs.Common.{Any-dedup, Contains-from_dedup, Contains-permutation, IsPermutation-sym, IsStrictlySortedBy-dedup, dedup_is, sym, ◌∙◌}
use Rattle.net_plans.proofs.Ordering.{equal_from_is_eq}
use Rattle.net_plans.proofs.orders.each_once.Goals as goal

pub returns : goal.returns
returns g c =
    let is = dedup_is _ _ _ c.dedup.ensures.filtered in
    let moved = c.sort_unstable.ensures.permutation in
    record {
      ascending = rw is (IsStrictlySortedBy-dedup g.met.K.Ord.total g.met.K.Ord.matches_eq _ c.sort_unstable.ensures.sorted);
      each = λ k h.
          let kept = Any-dedup g.met.K.Eq.laws _ k (Contains-permutation _ _ k moved h) in
          rw is (kept.0, kept.1, kept.2, kept.3, equal_from_is_eq _ (sym (g.met.K.Ord.matches_eq k kept.1) ∙ kept.4));
      only = λ k h. Contains-permutation _ _ k (IsPermutation-sym _ _ moved) (Contains-from_dedup _ _ k (rw is at h));
    }
