-- Numbers in order, each once.
use Rattle.table_rules.proofs.Common.{AllPairs-from_increasing, Contains-dedup_nat, Contains-from_dedup, Contains-permutation, IsPermutation-sym, IsStrictlyIncreasing-dedup, dedup, dedup_is, eqb, ◌≡◌}
use Rattle.table_rules.proofs.routes.each_weight_once.Goals as goal

pub returns : goal.returns
returns c =
    let is : c.dedup.new.self.items ≡ dedup eqb c.sort_unstable.new.self.items = dedup_is eqb _ _ c.dedup.ensures.filtered in
    let moved = c.sort_unstable.ensures.permutation in
    record {
      rising = rw is (AllPairs-from_increasing _ (IsStrictlyIncreasing-dedup _ c.sort_unstable.ensures.sorted));
      same = λ w. (
        λ h. Contains-permutation _ _ w (IsPermutation-sym _ _ moved) (Contains-from_dedup eqb _ w (rw is at h)),
        λ h. rw is (Contains-dedup_nat _ w (Contains-permutation _ _ w moved h)),
      );
    }
