use Rattle.link_detours.proofs.Common.{length, take, ◌*◌, ◌≡◌}
use Rattle.link_detours.proofs.Tabling.{Marks}
use Rattle.link_detours.proofs.searches.seed_table.Given as goal

-- the table marks the seeds that were read
abbrev pub invariant-loop-seed : goal.invariant-loop-seed
invariant-loop-seed l = (length l.table.items ≡ l.seeds.machine.now.width * l.seeds.machine.now.height) × Marks l.seeds.machine.now l.table.items (take l.seed-index l.seeds.list.now)
