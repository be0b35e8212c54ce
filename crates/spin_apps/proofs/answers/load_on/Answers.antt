use Rattle.spin_apps.proofs.Common.{arith}
use Rattle.spin_apps.proofs.answers.load_on.Goals as goal

pub load-requires : goal.load-requires
load-requires c = record {
  numbers = let few = c.requires.valid.run.few_packets in
      omega (arith, few, c.requires.numbers);
  valid = c.requires.valid;
}
