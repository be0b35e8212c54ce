use Rattle.link_detours.proofs.Common.{bit_at_set_same, w64}
use Rattle.link_detours.proofs.Spreading.{or_left}
use Rattle.link_detours.proofs.sets.with_column.Goals as goal

pub returns-then-named-clause-same : goal.returns-then-named-clause-same
returns-then-named-clause-same c = λ k bit. or_left c.args.columns _ k bit

pub returns-then-named-clause-named : goal.returns-then-named-clause-named
returns-then-named-clause-named c = λ _. bit_at_set_same w64 c.args.columns c.args.column.x c.args.column.few
