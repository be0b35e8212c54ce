-- What holds of a machine and its applications, whatever was loaded, unloaded and run so far (this project's own).
use Rattle.std.specs.Prelude.{◌≡◌, ◌≢◌, ℕ, ◌+◌, ◌^◌, ◌<◌, ◌≤◌, false, List, All, AllPairs, Some, length, map, take, drop, slice_get}
use Rattle.std.specs.List.{AllZip}
use Rattle.spin_base.specs.declared.blocks.Entry.{Entry}
use Rattle.spin_base.specs.declared.chips.Chip.{Chip}
use Rattle.spin_base.specs.declared.sizes.TheConstants.{ROUTER_ENTRIES}
use Rattle.machine_desc.specs.Description.{Description}
use Rattle.machine_desc.specs.Live.{IsInside}
use Rattle.tern_word.specs.declared.tables.Row.{Row}
use Rattle.tern_word.specs.Entries.{entry_of}
use Rattle.tcam_find.specs.Memory.{unused}
use Rattle.machine_desc.specs.declared.nets.NetPlan.{NetPlan}
use Rattle.machine_desc.specs.NetsOn.{HaveDisjointBlocks}
use Rattle.machine_desc.specs.RightTables.{AreRight, table_at}
use Rattle.net_tables.specs.PlainTable.{IsPlainTable}
use Rattle.mesh_core.specs.Ledger.{MeetsLedgerFor}
use Rattle.mesh_core.specs.State.{IsMesh}
use Rattle.app_loads.specs.declared.loaded.LoadedApp.{LoadedApp}
use Rattle.app_loads.specs.declared.loaded.Range.{Range}
use Rattle.app_loads.specs.declared.loaded.Claim.{Claim}
use Rattle.app_loads.specs.Host.{Host, all_nets, all_ranges, all_spots, asked_of, nets_of}
use Rattle.app_loads.specs.declared.places.Region.TheVariants.{Rows}
use Rattle.app_loads.specs.Regions.{AreFreeBeside, ShareNoPlace, IsRangeWithin, chip_count, is_taken, place_of}
use Rattle.app_loads.specs.Claims.{claims_of, AreBlocks}
use Rattle.app_loads.specs.Opening.{usable_spots}
use Rattle.app_loads.specs.Plans.{IsPlan}

-- a range is of the region of its claim, and as long as was asked for
abbrev pub IsRangeFor : Description → Claim → Range → Type 0
IsRangeFor m claim range = (range.region ≡ place_of m claim.region) × (range.size ≡ claim.size)

-- An application that is loaded has a plan for the machine, a range for each claim of the plan, within its region, and a block for
-- each net.
pub record IsLoadedOn (m : Description) (app : LoadedApp) : Type 0 where
  pub plan : IsPlan m app.plan
  pub ranges : AllZip (IsRangeFor m) (claims_of m app.plan) app.ranges
  pub within : All (IsRangeWithin m (1 + (chip_count m + chip_count m))) app.ranges
  pub blocks : AreBlocks (claims_of m app.plan) app.ranges app.plan.nets app.blocks

-- A range of entries of a chip has the plain rows of the nets there, in order.
pub record HasRows (m : Description) (nets : List NetPlan) (c : Chip) (table : List Entry) (range : Range) : Type 0 where
  pub rows : List Row
  pub plain : IsPlainTable m nets c rows
  pub entries : take range.size (drop range.place table) ≡ map entry_of rows

-- The tables have 1,024 entries, at each chip; they have in each application's range of entries the plain rows of its nets, and
-- every entry in no application's range is unused.
pub record HaveRows (m : Description) (tables : List (List Entry)) (apps : List LoadedApp) : Type 0 where
  pub long : (c : Chip) → IsInside m c → length (table_at m tables c) ≡ ROUTER_ENTRIES
  pub rows : All (λ (app : LoadedApp). All (λ (range : Range). (c : Chip) → IsInside m c → range.region ≡ place_of m (Rows c) → HasRows m (nets_of app) c (table_at m tables c) range) app.ranges) apps
  pub others : (c : Chip) (k : ℕ) → IsInside m c → k < ROUTER_ENTRIES → is_taken (all_ranges apps) (place_of m (Rows c)) k ≡ false → slice_get (table_at m tables c) k ≡ Some unused

-- the packets of two applications have no number in common
abbrev pub HaveOtherNumbers : LoadedApp → LoadedApp → Type 0
HaveOtherNumbers a b = a.first + length a.plan.packets ≤ b.first

-- What holds of a host at every moment.
pub record AreApps (h : Host) : Type 0 where
  -- it has a mesh, with a vertex on each usable core of the machine
  pub mesh : IsMesh h.mesh
  pub vertices : h.mesh.setup.spots ≡ usable_spots h.mesh.setup.machine
  -- the applications have different numbers and different spots
  pub numbers : AllPairs (λ (a b : LoadedApp). a.number ≢ b.number) h.apps
  pub spots : AllPairs (λ a b. a ≢ b) (all_spots h.apps)
  pub loaded : All (IsLoadedOn h.mesh.setup.machine) h.apps
  -- no two of their ranges share a place, and the free places of each region are those that no application has
  pub apart : AllPairs ShareNoPlace (all_ranges h.apps)
  pub free : AreFreeBeside h.mesh.setup.machine (all_ranges h.apps) h.regions
  -- the blocks of all their nets are disjoint
  pub disjoint : HaveDisjointBlocks (all_nets h.apps)
  -- the tables have their rows, and are right for all their nets
  pub rows : HaveRows h.mesh.setup.machine h.mesh.setup.tables h.apps
  pub right : AreRight h.mesh.setup.machine h.mesh.setup.tables (all_nets h.apps)
  -- the mesh meets the ledger of their packets, which have the numbers that their loads gave them
  pub ledger : MeetsLedgerFor h.mesh (all_nets h.apps) (asked_of h.apps)
  pub ascending : AllPairs HaveOtherNumbers h.apps
  pub counted : All (λ (app : LoadedApp). app.first + length app.plan.packets ≤ h.packets) h.apps
  pub few_packets : h.packets < 2 ^ 32
