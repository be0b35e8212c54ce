-- The names that the proofs of this crate cite from outside of them, passed on from one place. Declares nothing.
pub use Rattle.cover_merge.specs.Covering.{Covers, HasNoChosen, HasNoLargest, HasNoLegalPair, HasRoutesOf, IsChosen, IsFirstLegalPair, IsFirstPartner, IsLargest, IsLegalPair, IsNoRival, merged}
pub use Rattle.cover_merge.specs.{Covering.places_of, Covering.short, Covering.stuck, Kept.IsGone, Kept.IsKept, Kept.LeadsWithin, Kept.RefinesWithin, Known.AreAllKept, Known.AreChanges}
pub use Rattle.cover_merge.specs.Known.{AreRoutesKept, AreStillKept, HasSameRoutes, IsApart, IsFreshlyRefined, IsKnown, IsKnownAt, IsLinked, IsMostBefore, MissesAllOf}
pub use Rattle.cover_merge.specs.Links.{AreLinks, AreNexts, AreNumbers, AreRoutes, IsAhead, IsEachOnce, IsFirstOfRoute, IsNextOfRoute, IsRouteAdded, place_of_route}
pub use Rattle.cover_merge.specs.Merge.{IsClearOf, IsLegal, IsLegalMerge, IsMergeSet, IsOneRoute, PassesDown, PassesDownCheck, PassesUp, PassesUpCheck, SameRoute, after, aliases_at, has_row}
pub use Rattle.cover_merge.specs.{Merge.insert_place, Merge.kept, Merge.merge_rows, Merge.merged_block, Merge.merged_row, Merge.picked, Merge.place_for, Merge.rows_at, Merges.sets_of}
pub use Rattle.cover_merge.specs.Refinement.{AreMerges, IsBestBit, IsDownStep, IsFirstMet, IsFirstMetFrom, IsLastFailing, IsNarrowed, IsUpStep, Refines, ends_empty, ends_legal, goes_down, goes_up}
pub use Rattle.cover_merge.specs.{Refinement.keeps, Refinement.kept_by, Refinement.kept_count, Refinement.set_without, Rivals.AreAlikeBehind, Rivals.AreJoined, Rivals.AreMet, Rivals.AreRivalsAfter}
pub use Rattle.cover_merge.specs.Rivals.{AreRivalsAt, AreThose, HasSerial, IsOriginal, IsPutIn, IsRivalAdded, IsRivalBehind, IsRivalOf, IsRivaled, MeetsAliasOf, MeetsNone, is_at_one, rivals_left}
pub use Rattle.cover_merge.specs.{Spans.AreSpansOf, Spans.AreSpansOfAll, Spans.IsFirstAt, Spans.IsFreeUpTo, Tried.AreChangesFrom, Tried.AreNewerOf, Tried.AreNoLater, Tried.AreTouched, Tried.AreTried}
pub use Rattle.cover_merge.specs.{Tried.AreTriedUpTo, Tried.IsFresh, Tried.IsNextSince, Tried.IsTriedNow, Tried.LosesNone, declared.choosing.Fresh.Fresh, declared.covering.Covered.Covered}
pub use Rattle.cover_merge.specs.declared.{covering.Merge.Merge, keeping.Kept.Kept, keeping.Most.Most, knowing.Known.Known, rivals.Rival.Rival, rivals.Rivals.Rivals, times.Times.Times}
pub use Rattle.spin_base.proofs.{Ascending.same_in_order, RouteBits.same_route}
pub use Rattle.spin_base.specs.declared.{blocks.Block.Block, routes.Route.Route}
pub use Rattle.std.proofs.Common.{Bool, IsTrue, List, [], add-one, ap, append-nil, append_assoc, arith, cond, drop, false, get_or, get_or-drop, get_or-take, inl, inr, length, length-append}
pub use Rattle.std.proofs.Common.{length-drop, length-set, length-take, refl, replicate, rules, set, subst, subst₂, suc, sym, take, take-append-drop, take-take, true, zero, zero-add, ℕ, ◌%◌, ◌&&◌}
pub use Rattle.std.proofs.Common.{◌*◌, ◌++◌, ◌+◌, ◌-◌, ◌/◌, ◌<◌, ◌==◌, ◌^◌, ◌||◌, ◌↔◌, ◌∙◌, ◌∷◌, ◌≡◌, ◌≢◌, ◌≤◌, ◌⊎◌}
pub use Rattle.std.proofs.{Math.ListN.get_or-eq_default, Math.Logic.∥∥₁_elim, Math.Seq.drop-cons, Math.Seq.drop-drop, Math.Seq.get_or-append_seam, Math.Seq.paste, Math.Seq.take-add, Props.props}
pub use Rattle.std.proofs.lemmas.Bool.{Decides.eqb_tells, Decides.leb_tells, Decides.nat_tests, and_cases, and_parts, cases_Bool, cases_eq, cases_lt, cases_order, cond_both, eq-eqb, eqb-false}
pub use Rattle.std.proofs.lemmas.Bool.{eqb-true, false_from_ne_true, ne_eqb, not-false, not-true, not_from_false, or_left, or_right, true_from_ne_false}
pub use Rattle.std.proofs.lemmas.{Fn.filter_same, Grind.flat_map-append, Grind.get_or-set_at, List.Edits.drop-paste, List.Edits.get_or-insert_at, List.Edits.get_or-remove_above}
pub use Rattle.std.proofs.lemmas.List.{Edits.length-insert, Edits.length-paste, Edits.length-remove, Edits.take-paste, Elements.All-append, Elements.All-cons, Elements.All-contains}
pub use Rattle.std.proofs.lemmas.List.Elements.{All-contains_itself, All-drop, All-filter, All-head, All-map, All-nil, All-push, All-tail, All-take, Contains-get_or, filter-append, filter_map-append}
pub use Rattle.std.proofs.lemmas.List.{Elements.filter_passes, Elements.pair_read, Folds.Any-from_list_any, Folds.list_any-append, Folds.list_any_at, Folds.position_or_len_push, Kept.AllPairs-cons}
pub use Rattle.std.proofs.lemmas.List.{Kept.AllPairs-filter, Quantifiers.all_pairs_push, Sorted.IsPartitionPoint-from_clause, Sorted.IsPermutation-append_comm, Sorted.IsPermutation-append_left}
pub use Rattle.std.proofs.lemmas.List.{Sorted.IsPermutation-append_right, Sorted.IsPermutation-refl, Sorted.IsPermutation-trans, Sums.count_by-le-length, Sums.length-filter, Sums.passes_at_first}
pub use Rattle.std.proofs.lemmas.List.{Sums.sum_by-append, drop-set-lt, drop-take, get_or-map, get_or-replicate, get_or-set_other, get_or_append_left, get_or_default, get_or_push, length-map}
pub use Rattle.std.proofs.lemmas.{List.map-append, List.take-append-le, List.take_all, List.take_at, List.take_more, List.take_more_set, List.take_rest, Map.Views.any-filter_same, Nat.Bits.bit_at-lt}
pub use Rattle.std.proofs.lemmas.Nat.Bits.{bit_at-trailing_zeros, bit_at_above, bit_at_and, bit_at_clear_other, bit_at_clear_same, bit_at_not, bit_at_xor, shr_and_one}
pub use Rattle.std.proofs.lemmas.{Nat.and_le_l, Option.get_or_from_slice_get, Option.slice_get-get_or, Option.slice_get_within, Slice.drop-put_mid}
pub use Rattle.std.specs.{Int.bit_at, Int.bit_not, Int.trailing_zeros, Int.w32, List.Contains, List.Sorted.IsPermutation, List.cons_option, List.copy_within, List.flat_map, Option.option_copied}
pub use Rattle.std.specs.{Option.option_map_or, Prelude.All, Prelude.AllPairs, Prelude.Err, Prelude.None, Prelude.Ok, Prelude.OnOk, Prelude.Option, Prelude.Result, Prelude.Some, Prelude.bit_and}
pub use Rattle.std.specs.Prelude.{bit_xor, filter, insert, map, min, nat_le, not, remove, slice_get, ⊤}
pub use Rattle.tern_word.proofs.BlockLaws.{Intersects-sym, Intersects-wider, LiesIn-from_wants, LiesIn-merge, LiesIn-trans, generality-merge, generality-mono, generality_le, merge_of-is_merge}
pub use Rattle.tern_word.proofs.BlockLaws.{merge_of-push}
pub use Rattle.tern_word.specs.SoundTable.{HoldsItsAliases, IsOrdered, IsSound, Misses, Original, served, served_by}
pub use Rattle.tern_word.specs.{Ternary.Intersects, Ternary.LiesIn, Ternary.Wants, Ternary.generality, Ternary.merge_of, Ternary.merge_two, declared.tables.Alias.Alias, declared.tables.Row.Row}
pub use borrow.Author.Count.{below_more}
pub use mathlib.Core.Bool.{false≢true, true≢false}
