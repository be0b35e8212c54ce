use Rattle.std.proofs.Common.{arith}
use Rattle.std.proofs.Common.{rules}
-- The names that the proofs of this crate cite from outside of them, passed on from one place. Declares nothing.
pub use Rattle.app_graph.specs.{ValidGraph.HaveDifferentDevices, declared.graphs.Vertex.Vertex}
pub use Rattle.machine_desc.proofs.{Far.inside_parts, Far.live_inside, Same.below_six, Same.same_dir, Same.same_edge, Same.same_spot, Sites.usable_site}
pub use Rattle.machine_desc.specs.{Description.Description, Live.IsSite, Live.IsUsable, Live.is_device_place, Live.is_live_chip, Live.is_live_link, Live.is_usable, declared.trees.Edge.Edge}
pub use Rattle.place_fit.specs.Boards.{AreCores, AreFreeOn, AreGiven, AreOthersKept, AreSettled, HasNoPlace, HasNoRoomAt, HasNoSpot, HaveOneGrid, IsFilled, IsFreed, IsJoined, IsMadeWhole, IsParted}
pub use Rattle.place_fit.specs.Boards.{IsPlaceWithRoom, IsPut, IsPutAtLink, IsPutOnCore, IsWholeBoard, IsWith, IsWithout, has_spot_on, room_left}
pub use Rattle.place_fit.specs.{Curve.IsChipOrder, Curve.IsCurveLevel, Curve.four_quarters, Curve.hilbert, Curve.moved, Curve.raised, Curve.swapped, Curve.turned, Placement.AreFirstMemories}
pub use Rattle.place_fit.specs.Placement.{AreFirstSpots, FindsNoRoom, HasDeviceRoom, HasNoRoom, HasRoom, IsCoreFor, IsFirstChip, IsPlacement, IsSpotFor, choices, core_spot, device_spot, is_free_core}
pub use Rattle.place_fit.specs.{Placement.memory_of, Placement.need_of, Placement.used_on, Quarters.curve_place, Quarters.lowered, Quarters.moved_back, Quarters.turned_back, RoomTree.IsTree}
pub use Rattle.place_fit.specs.{Standing.ArePlaced, Standing.IsChipTold, Standing.Stands, declared.boards.Board.Board, declared.boards.Placed.Placed}
pub use Rattle.spin_base.proofs.{Determined.EachFollows, Determined.determined_begins, Equality.chip_eq_same, Equality.chip_eq_true, Equality.spot_eq_same, Equality.spot_eq_true}
pub use Rattle.spin_base.proofs.{Members.among_contains, Members.any_among, Places.All-at, Places.slice_get-append_left, Places.slice_get-push_cases, Places.slice_get-pushed, Places.slice_get_there}
pub use Rattle.spin_base.proofs.{Spots.dir_at-dir_number, Tests.or_neither}
pub use Rattle.spin_base.specs.{Equality.chip_eq, Equality.spot_eq, Links.dir_at, Links.dir_number, declared.chips.Chip.Chip, declared.chips.Dir.Dir, declared.chips.Spot.Spot}
pub use Rattle.std.proofs.Common.{All, AllPairs, Bool, List, MatchOption, None, Option, Some, [], ap, ap₂, arith, cond, drop, eqb, false, filter, get_or, inl, inr, is_none, leb, length, ltb, map, max}
pub use Rattle.std.proofs.Common.{not, refl, replicate, rules, set, slice_get, slice_index, slice_set, subst, suc, sym, take, true, zero, ℕ, ◌%◌, ◌&&◌, ◌*◌, ◌++◌, ◌+◌, ◌-◌, ◌/◌, ◌<◌, ◌==◌, ◌^◌, ◌||◌}
pub use Rattle.std.proofs.Common.{◌∙◌, ◌∷◌, ◌≡◌, ◌≢◌, ◌≤◌, ◌⊎◌}
pub use Rattle.std.proofs.{Math.Bool.and-true, Math.Bool.or-false, Math.Nat.le_trans, Math.Nat.mul-le-mul_left, Math.Nat.mul-le-mul_right, Math.Pow.pow_mono, lemmas.Bool.Decides.nat_tests}
pub use Rattle.std.proofs.lemmas.Bool.{and_from, and_left, and_parts, and_right, both_ways, cases_Bool, cases_eq, cases_lt, cond-false, cond-true, le-leb, lt-ltb, not-true, or_from, or_left, or_parts}
pub use Rattle.std.proofs.lemmas.{Bool.or_right, Grind.pow_more, Grind.same_number_lists, List.Elements.All-append, List.Elements.All-cons, List.Elements.All-contains, List.Elements.All-filter}
pub use Rattle.std.proofs.lemmas.List.{Elements.All-head, Elements.All-map, Elements.All-nil, Elements.All-tail, Elements.All-weaker, Folds.list_any-append, Folds.list_any_at, drop-replicate}
pub use Rattle.std.proofs.lemmas.List.{get_or-drop, get_or-set_other, get_or-set_same, get_or-take, get_or_append_left, get_or_default, get_or_push, length-append, length-drop, length-map}
pub use Rattle.std.proofs.lemmas.List.{length-replicate, length-set, length-take, length_push, take-append-le, take_all, take_at, take_more}
pub use Rattle.std.proofs.lemmas.Nat.Bits.{bit_at-trailing_zeros, bit_at-zero, bit_at_above, bit_at_clear_other, bit_at_clear_same, bit_at_set_other, bit_at_set_same}
pub use Rattle.std.proofs.lemmas.{Nat.and_le_l, Nat.one_shl, Nat.or_lt, Nat.pow-add, Nat.pow_below, Nat.pow_pos, Option.get_or_from_slice_get, Option.slice_get-get_or, Option.slice_get_cases}
pub use Rattle.std.proofs.lemmas.Option.{slice_get_read, slice_get_within}
pub use Rattle.std.specs.{Int.bit_at, Int.bit_not, Int.trailing_zeros, Int.w32, List.AllZip, List.list_any}
