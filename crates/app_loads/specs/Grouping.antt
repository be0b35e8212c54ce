-- Deliveries held in groups (this project's own).
use Rattle.std.specs.Prelude.{◌≡◌, ◌<◌, ℕ, Bool, true, false, not, ◌&&◌, ◌||◌, nat_le, nat_lt, List, ◌++◌}
use Rattle.std.specs.List.{flat_map}
use Rattle.spin_base.specs.declared.copies.Delivery.{Delivery}
use Rattle.app_loads.specs.declared.arrivals.Arrival.{Arrival}
use Rattle.app_loads.specs.declared.loaded.LoadedApp.{LoadedApp}
use Rattle.app_loads.specs.Leaving.{is_packet_of}

-- A group has deliveries, the places where each of its packets came, and no packet of a lesser number than its least, or of a greater
-- one than its greatest.
pub record Grouped : Type 0 where
  pub deliveries : List Delivery
  pub arrivals : List Arrival
  pub least : ℕ
  pub greatest : ℕ

-- the deliveries of groups, in order
abbrev pub all_grouped : List Grouped → List Delivery
all_grouped groups = flat_map (λ (g : Grouped). g.deliveries) groups

-- the least and the greatest packet are the application's
abbrev pub is_own_group : LoadedApp → Grouped → Bool
is_own_group app g = is_packet_of app g.least && is_packet_of app g.greatest

-- both come before the application's packets, or both behind them
abbrev pub is_others_group : LoadedApp → Grouped → Bool
is_others_group app g = nat_lt g.greatest app.first || (nat_le app.first g.least && not (is_packet_of app g.least))

-- neither is known
abbrev pub is_mixed_group : LoadedApp → Grouped → Bool
is_mixed_group app g = not (is_own_group app g) && not (is_others_group app g)

-- deliveries were put behind others exactly where a test held
abbrev pub HasPut : Bool → List Delivery → List Delivery → List Delivery → Type 0
HasPut true old more new = new ≡ old ++ more
HasPut false old more new = new ≡ old

-- a group is not mixed, and two lists of these lengths and capacities have room for one more
pub record CanPutOne (app : LoadedApp) (group : Grouped) (own own_room others others_room : ℕ) : Type 0 where
  pub unmixed : is_mixed_group app group ≡ false
  pub own_holds : own < own_room
  pub others_hold : others < others_room
