use Rattle.std.proofs.Common.{◌≡◌, [], length}
use Rattle.link_queue.specs.Ends.{IsTx, IsRx, sending, taking}
use Rattle.link_queue.proofs.rests.AtRest.widened.Given as goal

-- what was taken of one link was taken of the offers to the other
abbrev pub invariant-loop : goal.invariant-loop
invariant-loop g l = record {
  rx : IsRx l.link l.rx;
  sender : IsTx l.wide l.sender;
  first : (taking l.rx).first ≡ (sending l.tx).first;
  none : (sending l.sender).first ≡ [];
  same : (sending l.sender).sent ≡ (taking l.rx).took;
  many : length (taking l.rx).took ≡ l.counter;
}
