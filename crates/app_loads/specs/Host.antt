-- A machine and the applications that are loaded on it, as contracts see them.
use Rattle.std.specs.Prelude.{ℕ, ◌-◌, ◌==◌, Bool, ◌&&◌, not, nat_le, List, [], ◌∷◌, Option, Some, None, if◌then◌else◌}
use Rattle.std.specs.List.{list_any, flat_map}
use Rattle.spin_base.specs.declared.blocks.Block.{Block}
use Rattle.spin_base.specs.declared.chips.Spot.{Spot}
use Rattle.spin_base.specs.Equality.{spot_eq}
use Rattle.machine_desc.specs.Live.{is_usable}
use Rattle.range_store.specs.declared.holes.Hole.{Hole}
use Rattle.machine_desc.specs.declared.nets.NetPlan.{NetPlan}
use Rattle.mesh_core.specs.State.{State}
use Rattle.mesh_core.specs.Ledger.{Asked}
use Rattle.mesh_core.specs.Opened.{asked_by}
use Rattle.app_loads.specs.declared.plans.AppNet.{AppNet}
use Rattle.app_loads.specs.declared.loaded.LoadedApp.{LoadedApp}
use Rattle.app_loads.specs.declared.loaded.Range.{Range}

-- A region of places: how many it has, and the longest runs of those that are free.
pub record Free : Type 0 where
  pub size : ℕ
  pub holes : List Hole

-- The mesh, the regions by their numbers, the applications that are loaded, in the order in which they were, and how many packets
-- all loads so far had.
pub record Host : Type 0 where
  pub mesh : State
  pub regions : List Free
  pub apps : List LoadedApp
  pub packets : ℕ

-- a net with the block of keys that it got
abbrev pub net_with : AppNet → Block → NetPlan
net_with net block = record { block = block; source = net.source; targets = net.targets; tree = net.tree }

-- nets with their blocks, in order
abbrev pub nets_with : List AppNet → List Block → List NetPlan
nets_with [] blocks = []
nets_with (net ∷ nets) [] = []
nets_with (net ∷ nets) (block ∷ blocks) = net_with net block ∷ nets_with nets blocks

-- the nets of an application
abbrev pub nets_of : LoadedApp → List NetPlan
nets_of app = nets_with app.plan.nets app.blocks

-- The nets of a host are those of all its applications.
abbrev pub all_nets : List LoadedApp → List NetPlan
all_nets apps = flat_map nets_of apps

-- the ranges of all applications
abbrev pub all_ranges : List LoadedApp → List Range
all_ranges apps = flat_map (λ (app : LoadedApp). app.ranges) apps

-- the spots of all applications
abbrev pub all_spots : List LoadedApp → List Spot
all_spots apps = flat_map (λ (app : LoadedApp). app.plan.spots) apps

-- whether a number is loaded
abbrev pub is_loaded : List LoadedApp → ℕ → Bool
is_loaded apps number = list_any (λ (app : LoadedApp). app.number == number) apps

-- whether a spot is one of a loaded application
abbrev pub is_spot_taken : List LoadedApp → Spot → Bool
is_spot_taken apps spot = list_any (λ (app : LoadedApp). list_any (spot_eq spot) app.plan.spots) apps

-- A spot is free where it is a usable core of the machine and a spot of no loaded application.
abbrev pub is_free_spot : Host → Spot → Bool
is_free_spot h spot = is_usable h.mesh.setup.machine spot && not (is_spot_taken h.apps spot)

-- The packets of an application have the numbers from that of its first packet on, in the order of its list. Each is of its
-- net, and has the net's block's key and its own index added as its key, and its payload.
abbrev pub asked_of_app : LoadedApp → ℕ → Option Asked
asked_of_app app i = if nat_le app.first i then asked_by (nets_of app) app.plan.packets (i - app.first) else None

abbrev pub either : Option Asked → Option Asked → Option Asked
either (Some a) other = Some a
either None other = other

-- The packets of a host are those of its applications.
abbrev pub asked_of : List LoadedApp → ℕ → Option Asked
asked_of [] i = None
asked_of (app ∷ apps) i = either (asked_of_app app i) (asked_of apps i)
