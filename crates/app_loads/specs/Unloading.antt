-- What unloading an application does to a host (this project's own).
use Rattle.std.specs.Prelude.{◌≡◌, ℕ, ◌≤◌, ◌<◌, true, false, Contains, Some, filter, slice_get}
use Rattle.spin_base.specs.declared.chips.Chip.{Chip}
use Rattle.spin_base.specs.declared.sizes.TheConstants.{ROUTER_ENTRIES}
use Rattle.machine_desc.specs.Live.{IsInside}
use Rattle.tcam_find.specs.Memory.{unused}
use Rattle.machine_desc.specs.RightTables.{table_at}
use Rattle.app_loads.specs.declared.answers.Ended.{Ended}
use Rattle.app_loads.specs.declared.answers.UnloadErr.{UnloadErr}
use Rattle.app_loads.specs.declared.answers.UnloadErr.TheVariants.{NotLoaded, Waiting, Memory}
use Rattle.app_loads.specs.declared.loaded.LoadedApp.{LoadedApp}
use Rattle.app_loads.specs.Host.{Host, is_loaded}
use Rattle.app_loads.specs.Leaving.{is_delivery_of, is_record_of, others_than, mesh_without, WaitsIn}
use Rattle.app_loads.specs.declared.places.Region.TheVariants.{Rows}
use Rattle.app_loads.specs.Regions.{is_taken, place_of}

-- The host has the application of that number no more. Its deliveries and dump records left the mesh and were handed back, its
-- entries are unused, and nothing else has changed.
pub record HasUnloaded (old : Host) (number : ℕ) (ended : Ended) (new : Host) : Type 0 where
  pub app : LoadedApp
  pub is : Contains old.apps app
  pub number_is : app.number ≡ number
  pub apps : new.apps ≡ others_than number old.apps
  pub delivered : ended.delivered ≡ filter (is_delivery_of app) old.mesh.delivered
  pub dumped : ended.dumped ≡ filter (is_record_of app) old.mesh.dumped
  pub packets : new.packets ≡ old.packets
  pub mesh : new.mesh ≡ mesh_without app new.mesh.setup.tables old.mesh
  pub entries : (c : Chip) (k : ℕ) → IsInside old.mesh.setup.machine c → k < ROUTER_ENTRIES → is_taken app.ranges (place_of old.mesh.setup.machine (Rows c)) k ≡ true →
      slice_get (table_at old.mesh.setup.machine new.mesh.setup.tables c) k ≡ Some unused
  pub tables : (c : Chip) (k : ℕ) → IsInside old.mesh.setup.machine c → is_taken app.ranges (place_of old.mesh.setup.machine (Rows c)) k ≡ false →
      slice_get (table_at old.mesh.setup.machine new.mesh.setup.tables c) k ≡ slice_get (table_at old.mesh.setup.machine old.mesh.setup.tables c) k

-- a copy of one of the application's packets, of this number, is unsent or waits
abbrev pub WaitsFor : Host → LoadedApp → ℕ → Type 0
WaitsFor h app packet = WaitsIn h.mesh app packet

-- the packet is the one of the least number that keeps the application of that number from being unloaded
pub record IsLeastWaiting (h : Host) (number packet : ℕ) : Type 0 where
  pub app : LoadedApp
  pub is : Contains h.apps app
  pub number_is : app.number ≡ number
  pub waits : WaitsFor h app packet
  pub least : (other : ℕ) → WaitsFor h app other → packet ≤ other

-- why an application is not unloaded
abbrev pub IsWhyNotUnloaded : Host → ℕ → UnloadErr → Type 0
IsWhyNotUnloaded h number NotLoaded = is_loaded h.apps number ≡ false
IsWhyNotUnloaded h number (Waiting packet) = IsLeastWaiting h number packet
IsWhyNotUnloaded h number Memory = Unit {0}

-- none of the application's packets is unsent or waits
abbrev pub NoneWaits : Host → ℕ → Type 0
NoneWaits h number = (app : LoadedApp) → Contains h.apps app → app.number ≡ number → (packet : ℕ) → WaitsFor h app packet → ⊥
