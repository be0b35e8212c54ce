-- What is left is of other routes, and apart from the merge.
use Rattle.cover_merge.proofs.Common.{IsApart, None, get_or, set, ◌≡◌}
use Rattle.cover_merge.proofs.KeepLemmas.{forgotten, left_twice}
use Rattle.cover_merge.proofs.covering.forget.Goals as goal

pub returns : goal.returns
returns c =
    let n = get_or c.args.numbers.now (get_or c.args.merge.gaps.places.now 0 0) 0 in
    let kept = c.args.kept.now.items in
    left_twice (λ k it. k ≡ n → ⊥) (λ k it. IsApart c.args.merge.block it) (λ k it. (k ≡ n → ⊥) × (IsApart c.args.merge.block it))
    kept (set kept n None) c.forget_near.new.kept.items (forgotten kept n c.requires.inside) c.forget_near.ensures (λ k it other apart. (other, apart))
