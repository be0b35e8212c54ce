use Rattle.link_detours.proofs.Common.{AreWaves, Edge, IsDetour, IsInside, IsTreeChip, IsTreeLevel, List, length, ℕ, ◌++◌, ◌≡◌}
use Rattle.link_detours.proofs.Putting.{TellsTree}
use Rattle.link_detours.proofs.detours.walk_back.Given as goal

-- the waves that are left lead back from this chip; what was added leads from the target to it, and a detour from here
-- completes it
abbrev pub invariant-back : goal.invariant-back
invariant-back l = record {
  inside : IsInside l.aim.ground.machine.now l.at;
  count : ℕ;
  waves : AreWaves l.aim.ground.machine.now (IsTreeChip l.aim.ground.machine.now l.aim.root l.fn.whole.items) count l.left;
  level : IsTreeLevel l.aim.ground.machine.now l.aim.root l.fn.whole.items l.at count;
  long : length l.tree ≡ l.aim.ground.machine.now.width;
  chips : TellsTree l.aim.ground.machine.now l.aim.root l.whole.items l.tree;
  done : List Edge;
  added : l.whole.items ≡ l.fn.whole.items ++ done;
  way : (rest : List Edge) → IsDetour l.aim.ground.machine.now l.aim.root l.fn.whole.items l.at rest →
      IsDetour l.aim.ground.machine.now l.aim.root l.fn.whole.items l.aim.target (done ++ rest);
}

abbrev pub decreases-back : goal.decreases-back
decreases-back l = length l.left
