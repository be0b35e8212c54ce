-- Deliveries that are held apart, parted: those of an application, and those of all others.
use Rattle.std.specs.Prelude.{◌≡◌, ◌+◌, ◌^◌, ◌<◌, ◌≤◌, false, List, [], length, vec_capacity}
use Rattle.std.specs.List.{list_any}
use Rattle.spin_base.specs.declared.copies.Delivery.{Delivery}
use Rattle.app_loads.specs.declared.groups.Room.{Room}
use Rattle.app_loads.specs.declared.loaded.LoadedApp.{LoadedApp}
use Rattle.app_loads.specs.Grouping.{Grouped, all_grouped, is_mixed_group}

-- two empty lists have room for so many groups each
pub record HasRoomFor (groups : List Grouped) (room : Room) : Type 0 where
  pub own_none : room.own.items ≡ []
  pub others_none : room.others.items ≡ []
  pub own_holds : length groups ≤ vec_capacity room.own
  pub others_hold : length groups ≤ vec_capacity room.others

-- None of the groups is mixed, there is room for all of them, and their deliveries and later ones can be counted.
pub record CanPart (app : LoadedApp) (groups : List Grouped) (late : List Delivery) (room : Room) : Type 0 where
  pub unmixed : list_any (is_mixed_group app) groups ≡ false
  pub holds : HasRoomFor groups room
  pub countable : length (all_grouped groups) + length late < 2 ^ 64
