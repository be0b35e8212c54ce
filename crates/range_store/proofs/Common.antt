-- The names that the proofs of this crate cite from outside of them, passed on from one place. Declares nothing.
pub use Rattle.range_store.specs.{Fits.AreNeighbours, Fits.FitsAt, Fits.IsLeastIn, Fits.IsPutBack, Fits.NoneIn, Regions.AreRuns, Regions.HasNoFitFrom, Regions.IsFirstFitFrom, Regions.NoneIsFree}
pub use Rattle.range_store.specs.Regions.{has_range, hole_end, hole_of, holes_without, in_range, is_free, is_hole_range, rest_of}
pub use Rattle.range_store.specs.declared.holes.Hole.{Hole}
pub use Rattle.std.proofs.Common.{Bool, IsOk, List, MatchOption, None, Option, Result, Some, [], ap, append_assoc, arith, drop, false, get_or, if◌then◌else◌, inl, inr, is_ok, leb, length, ltb}
pub use Rattle.std.proofs.Common.{ltb-false, ltb-true, max, min, not, refl, rules, set, slice_get, subst, subst₂, suc, sym, take, true, zero, ℕ, ◌%◌, ◌&&◌, ◌*◌, ◌++◌, ◌+◌, ◌-◌, ◌/◌, ◌<◌, ◌||◌, ◌∙◌}
pub use Rattle.std.proofs.Common.{◌∷◌, ◌≡◌, ◌≢◌, ◌≤◌}
pub use Rattle.std.proofs.{Math.Nat.mod-eq_of_lt, Math.Nat.mod_self, Math.Nat.mul-le-mul_left, Math.Nat.mul-mod_right, lemmas.Bool.Decides.nat_tests, lemmas.Bool.both_ways, lemmas.Bool.cases_Bool}
pub use Rattle.std.proofs.lemmas.{Bool.cases_eq, Bool.cases_lt, Bool.or_cases, Bool.or_left, Bool.or_parts, Bool.or_right, List.Folds.list_any-append, List.Sorted.IsPartitionPoint-from_clause}
pub use Rattle.std.proofs.lemmas.{List.Sorted.IsPartitionedBy-ltb, List.length-take-le, List.length_push, List.set_at, List.set_split, List.take-append-drop, Option.get_or_from_slice_get}
pub use Rattle.std.proofs.lemmas.Option.{slice_get-get_or, slice_get_within}
pub use Rattle.std.specs.{Int.next_multiple_of, List.Sorted.IsNonDecreasingBy}
