-- What was found, and what the bits that are left stand for, are the outputs of the route.
use Rattle.std.proofs.Common.{◌≡◌, ◌<◌, ◌^◌, ◌++◌}
use Rattle.spin_base.specs.Outputs.{all_outs, outs_of}
use Rattle.spin_base.proofs.Outputs.{outs_in}
use Rattle.spin_base.proofs.routes.Route.outs.Given as goal

abbrev pub invariant-loop-left : goal.invariant-loop-left
invariant-loop-left l = record {
  found : l.outs.items ++ outs_in l.left all_outs ≡ outs_of l.fn.self;
  fits : l.left < 2 ^ 24;
}

abbrev pub decreases-loop-left : goal.decreases-loop-left
decreases-loop-left l = l.left
