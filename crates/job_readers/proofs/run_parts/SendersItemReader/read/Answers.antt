use Rattle.job_readers.proofs.Common.{List, Net, ap, arith, length, length-map, subst, ℕ, ◌<◌, ◌∙◌, ◌≡◌}
use Rattle.job_readers.specs.GraphPart.{net_names}
use Rattle.job_readers.proofs.run_parts.SendersItemReader.read.Goals as goal

-- a place among the names of nets is one of a net
one_each : (names : List (List ℕ)) (nets : List Net) (i : ℕ) → names ≡ net_names nets → i < length names → i < length nets
unfolding net_names
one_each names nets i are below = subst (λ n. i < n) (ap length are ∙ length-map nets (λ (n : Net). n.name)) below

pub last_key-last-requires : goal.last_key-last-requires
last_key-last-requires c = one_each _ c.args.self.now.valid.graph.now.nets c.in_ok-net.net c.args.self.now.named c.in_ok-net.ensures.below

pub returns-clause-holds : goal.returns-clause-holds
returns-clause-holds c = (
  one_each _ c.args.self.now.valid.graph.now.nets c.in_ok-net.net c.args.self.now.named c.in_ok-net.ensures.below,
  let within = c.in_ok-index.ensures.within _ in let last = c.last_key-last.ensures.key in omega (arith, within.1, last),
)
