-- What loading an application does to a host (this project's own).
use Rattle.std.specs.Prelude.{◌≡◌, ℕ, ◌+◌, true, false, List, [], ◌∷◌, ◌++◌, Some, length, slice_get}
use Rattle.std.specs.List.{filter_map, enumerate_from}
use Rattle.spin_base.specs.declared.chips.Chip.{Chip}
use Rattle.spin_base.specs.declared.chips.Spot.{Spot}
use Rattle.spin_base.specs.declared.copies.McCopy.{McCopy}
use Rattle.spin_base.specs.declared.copies.Packet.{Packet}
use Rattle.machine_desc.specs.Live.{IsInside}
use Rattle.machine_desc.specs.RightTables.{table_at}
use Rattle.mesh_core.specs.Opened.{copy_from}
use Rattle.app_loads.specs.declared.answers.LoadErr.{LoadErr}
use Rattle.app_loads.specs.declared.answers.LoadErr.TheVariants.{Refused, Memory}
use Rattle.app_loads.specs.declared.answers.LoadRefusal.{LoadRefusal}
use Rattle.app_loads.specs.declared.answers.LoadRefusal.TheVariants.{Loaded, MemoryOut, KeysOut, RowsOut}
use Rattle.app_loads.specs.declared.loaded.LoadedApp.{LoadedApp}
use Rattle.app_loads.specs.declared.plans.AppPlan.{AppPlan}
use Rattle.app_loads.specs.Host.{Host, all_ranges, is_loaded, nets_of}
use Rattle.app_loads.specs.declared.places.Region.TheVariants.{Rows}
use Rattle.app_loads.specs.Regions.{is_taken, place_of}
use Rattle.app_loads.specs.Claims.{claims_of, AreServed, IsRefusalDue}

-- An application's vertex sends the copies of its nets' packets, in the order of the list.
abbrev pub sent_by_vertex : List Spot → LoadedApp → ℕ → List McCopy
sent_by_vertex spots app v = filter_map (λ (e : ℕ × Packet). copy_from spots v e.0 e.1 (slice_get (nets_of app) e.1.net)) (enumerate_from app.first app.plan.packets)

-- The host has one application more. Its claims got the least ranges beside those of the others, its packets are numbered from the number of
-- packets so far and are unsent, and nothing else has changed: no other application's range, entry, copy, delivery or record.
pub record HasLoaded (old : Host) (number : ℕ) (plan : AppPlan) (new : Host) : Type 0 where
  pub was_not : is_loaded old.apps number ≡ false
  pub app : LoadedApp
  pub number_is : app.number ≡ number
  pub plan_is : app.plan ≡ plan
  pub first_is : app.first ≡ old.packets
  pub served : AreServed old.mesh.setup.machine (all_ranges old.apps) (claims_of old.mesh.setup.machine plan) app.ranges
  pub apps : new.apps ≡ old.apps ++ app ∷ []
  pub packets : new.packets ≡ old.packets + length plan.packets
  pub mesh : new.mesh ≡ record old.mesh { setup = record old.mesh.setup { tables = new.mesh.setup.tables }; unsent = new.mesh.unsent }
  pub unsent : (v : ℕ) (q : List McCopy) → slice_get old.mesh.unsent v ≡ Some q → slice_get new.mesh.unsent v ≡ Some (q ++ sent_by_vertex old.mesh.setup.spots app v)
  pub tables : (c : Chip) (k : ℕ) → IsInside old.mesh.setup.machine c → is_taken app.ranges (place_of old.mesh.setup.machine (Rows c)) k ≡ false →
      slice_get (table_at old.mesh.setup.machine new.mesh.setup.tables c) k ≡ slice_get (table_at old.mesh.setup.machine old.mesh.setup.tables c) k

-- the number is not loaded, and the refusal is that of the first claim that cannot be served
abbrev pub IsClaimRefused : Host → ℕ → AppPlan → LoadRefusal → Type 0
IsClaimRefused h number plan refusal =
    (is_loaded h.apps number ≡ false) × IsRefusalDue h.mesh.setup.machine (all_ranges h.apps) (claims_of h.mesh.setup.machine plan) refusal

-- Why an application is refused: its number is loaded, or else the first of its claims that cannot be served is refused.
abbrev pub IsLoadRefusal : Host → ℕ → AppPlan → LoadRefusal → Type 0
IsLoadRefusal h number plan Loaded = is_loaded h.apps number ≡ true
IsLoadRefusal h number plan (MemoryOut vertex) = IsClaimRefused h number plan (MemoryOut vertex)
IsLoadRefusal h number plan (KeysOut net) = IsClaimRefused h number plan (KeysOut net)
IsLoadRefusal h number plan (RowsOut chip) = IsClaimRefused h number plan (RowsOut chip)

-- Why it is not loaded: it is refused, or memory ran out, which is free.
abbrev pub IsWhyNotLoaded : Host → ℕ → AppPlan → LoadErr → Type 0
IsWhyNotLoaded h number plan (Refused refusal) = IsLoadRefusal h number plan refusal
IsWhyNotLoaded h number plan Memory = Unit {0}
