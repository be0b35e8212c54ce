-- What contracts see of the fields of a host, and what these keep.
use Rattle.std.specs.Prelude.{◌≡◌, ℕ, false, true, List, [], map, Option, Some, None, IfSome, is_some}
use Rattle.mesh_core.specs.State.{State}
use Rattle.mesh_drain.specs.Draining.{SendAlone}
use Rattle.app_loads.specs.Host.{Host}
use Rattle.app_loads.specs.declared.apps.Apps.TheInside.{Inside}
use Rattle.app_loads.specs.declared.loaded.LoadedApp.{LoadedApp}
use Rattle.app_loads.specs.Applications.{AreApps}
use Rattle.app_loads.specs.Taking.{frees}

-- a mesh of no chip, which stands for the one that is taken out while it is changed
abbrev pub no_mesh : State
no_mesh = record {
  setup = record { machine = record { width = 0; height = 0; wrap = false; sdram = 0; dead_chips = []; dead_cores = []; dead_links = [] }; spots = []; tables = []; capacity = 0 };
  unsent = [];
  inputs = [];
  hands = [];
  cores = [];
  delivered = [];
  dumped = [];
}

abbrev pub mesh_in : Option State → State
mesh_in (Some mesh) = mesh
mesh_in None = no_mesh

abbrev pub host_of : Inside → Host
host_of s = record { mesh = mesh_in s.mesh; regions = frees s.regions.items; apps = s.apps.items; packets = s.packets }

-- the numbers of applications, in their order
abbrev pub numbers_of : List LoadedApp → List ℕ
numbers_of apps = map (λ (app : LoadedApp). app.number) apps

-- The mesh is there, the host is one, and the numbers are those of its applications. Where senders are known, they alone have packets
-- unsent, and no copy waits.
pub record IsHost (s : Inside) : Type 0 where
  pub there : is_some s.mesh ≡ true
  pub apps : AreApps (host_of s)
  pub numbers : s.numbers.items ≡ numbers_of s.apps.items
  pub rest : IfSome s.senders (λ vertices. SendAlone vertices (host_of s).mesh)
