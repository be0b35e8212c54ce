use Rattle.key_alloc.proofs.Determined.{one_list, not_both, one_net}
use Rattle.key_alloc.proofs.laws.right_blocks_are_determined.Goals as goal

pub returns : goal.returns
returns c = record { one_list = one_list; not_both = not_both; one_net = one_net }
