use Rattle.mesh_round.proofs.Common.{HasPasses, MayGoOn, work_in, ℕ, ◌<◌, ◌≡◌, ◌⊎◌}
use Rattle.mesh_round.proofs.reinjecting.put_all_back.Given as goal

-- the mesh was reached by copies put back, may go on, and there is less to be done as soon as one was
abbrev pub invariant-copies : goal.invariant-copies
invariant-copies l = record {
  passes : (patience turns : ℕ) → HasPasses patience turns l.fn.parts l.parts;
  ready : MayGoOn l.parts;
  less : (l.parts ≡ l.fn.parts) ⊎ (work_in l.parts < work_in l.fn.parts);
}

abbrev pub decreases-copies : goal.decreases-copies
decreases-copies l = work_in l.parts
