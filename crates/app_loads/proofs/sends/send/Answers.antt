use Rattle.app_loads.proofs.Common.{AreCleared, IsSameBeside, List, subst, ℕ}
use Rattle.app_loads.proofs.Resting.{put_back, sources_of}
use Rattle.app_loads.proofs.sends.send.Goals as goal

pub returns-clause-refused : goal.returns-clause-refused
returns-clause-refused c =
    put_back c.args.setup.now.spots c.args.app.now.plan.nets c.in_ok-sources.sources.items c.args.unsent.now c.add_packets.new.unsent c.clear.new.unsent
    (sources_of c.args.setup.now c.args.app.now.plan.nets c.as_slice.result.now c.in_ok-sources.sources.items c.requires.sources c.as_slice.ensures c.in_ok-sources.ensures) c.requires.none
    (subst (λ (l : List ℕ). IsSameBeside l c.args.unsent.now c.add_packets.new.unsent) c.deref.ensures.value c.in-Err.ensures.refused)
    (subst (λ (l : List ℕ). AreCleared l c.add_packets.new.unsent c.clear.new.unsent) c.deref-in-Err.ensures.value c.clear.ensures)
