-- Machines with the same applications (this project's own).
use Rattle.std.specs.Prelude.{◌≡◌, []}
use Rattle.mesh_core.specs.State.{State}
use Rattle.mesh_core.specs.Expected.{NothingWaits}
use Rattle.app_loads.specs.Host.{Host}

-- no copy waits, and none was dropped
pub record IsQuiet (s : State) : Type 0 where
  pub waits : NothingWaits s
  pub no_record : s.dumped ≡ []

-- Two hosts have the same machine, the same applications with the same ranges and blocks, and the same packets unsent. On both no
-- copy waits, and none was dropped. So they may differ in what was delivered.
pub record AreAlike (h g : Host) : Type 0 where
  pub machine : h.mesh.setup.machine ≡ g.mesh.setup.machine
  pub apps : h.apps ≡ g.apps
  pub packets : h.packets ≡ g.packets
  pub unsent : h.mesh.unsent ≡ g.mesh.unsent
  pub quiet : IsQuiet h.mesh
  pub other_quiet : IsQuiet g.mesh
