-- What unloading an application makes of the parts of a host, as the private functions say it.
use Rattle.std.specs.Prelude.{◌≡◌, ◌≤◌, ℕ, List, Option, IfSome, filter, length}
use Rattle.spin_base.specs.declared.chips.Chip.{Chip}
use Rattle.spin_base.specs.declared.copies.Delivery.{Delivery}
use Rattle.spin_base.specs.declared.copies.DumpRec.{DumpRec}
use Rattle.spin_base.specs.declared.sizes.TheConstants.{ROUTER_ENTRIES}
use Rattle.machine_desc.specs.Live.{IsInside}
use Rattle.range_store.specs.Views.{Region}
use Rattle.machine_desc.specs.RightTables.{table_at}
use Rattle.mesh_core.specs.State.{State}
use Rattle.mesh_drain.specs.Draining.{SendAlone}
use Rattle.app_loads.specs.declared.answers.UnloadErr.{UnloadErr}
use Rattle.app_loads.specs.declared.answers.UnloadErr.TheVariants.{NotLoaded, Waiting, Memory}
use Rattle.app_loads.specs.declared.loaded.LoadedApp.{LoadedApp}
use Rattle.app_loads.specs.declared.loaded.Range.{Range}
use Rattle.app_loads.specs.Leaving.{IsLeastUnderWay, is_delivery_of, is_record_of, mesh_without}
use Rattle.app_loads.specs.Taking.{AreTaken}
use Rattle.app_loads.specs.Writing.{AreUnused}

-- The application's ranges are taken of the regions, beside others, and are no more than a plan can ask for; and each table has
-- its entries.
pub record CanLeave (s : State) (regions : List Region) (app : LoadedApp) : Type 0 where
  pub others : List Range
  pub taken : AreTaken s.setup.machine others app.ranges regions
  pub few : length app.ranges ≤ 262144
  pub long : (c : Chip) → IsInside s.setup.machine c → length (table_at s.setup.machine s.setup.tables c) ≡ ROUTER_ENTRIES

-- An application can leave, and where senders are known, they alone have packets unsent.
pub record CanLeaveFrom (s : State) (regions : List Region) (senders : Option (List ℕ)) (app : LoadedApp) : Type 0 where
  pub can : CanLeave s regions app
  pub known : IfSome senders (λ vertices. SendAlone vertices s)

-- The mesh has the application's rows, and its deliveries and dump records, which are these, no more.
pub record HasLeft (app : LoadedApp) (old : State) (deliveries : List Delivery) (records : List DumpRec) (new : State) : Type 0 where
  pub delivered : deliveries ≡ filter (is_delivery_of app) old.delivered
  pub dumped : records ≡ filter (is_record_of app) old.dumped
  pub mesh : new ≡ mesh_without app new.setup.tables old
  pub cleared : AreUnused old.setup.machine app.ranges old.setup.tables new.setup.tables

-- why an application does not leave
abbrev pub IsWhyHere : State → LoadedApp → UnloadErr → Type 0
IsWhyHere s app NotLoaded = ⊥
IsWhyHere s app (Waiting packet) = IsLeastUnderWay s app packet
IsWhyHere s app Memory = Unit {0}
