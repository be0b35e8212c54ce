use Rattle.spin_base.proofs.ascending_lists_with_equal_members_are_equal.Goals as goal
use Rattle.spin_base.proofs.Ascending.{same_in_order}

pub returns : goal.returns
returns c = record { same = same_in_order (λ n. n) }
