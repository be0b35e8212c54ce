-- The names that the proofs of this crate cite from outside of them, passed on from one place. Declares nothing.
pub use Rattle.app_graph.specs.{ValidGraph.AreFixedApart, ValidGraph.IsFixedFor, ValidGraph.IsValidGraph, ValidGraph.ShareNoKey, declared.graphs.Graph.Graph, declared.graphs.Net.Net}
pub use Rattle.key_alloc.specs.FreeKeys.{AreAhead, AreDownwards, AreKeysFreeBeside, AreStarts, HaveRanges, IsLeastOpenPlace, end_of_run, has_key, key_or_end}
pub use Rattle.key_alloc.specs.KeyBlocks.{AreFirstBlocks, AreKeysOut, AreRightBlocks, HasKeys, IsBlockFor, IsLeastBlock, IsOpenPlace, IsSizeFor, MissesRange, fixed_of, size_of}
pub use Rattle.key_alloc.specs.declared.free.{FreeKeys.FreeKeys, Start.Start}
pub use Rattle.range_store.proofs.HolePlaces.{clash, free_in_range, range_of_free}
pub use Rattle.range_store.specs.Regions.{AreRuns, HasNoFitFrom, IsFirstFitFrom, hole_of, in_range, is_free, is_hole_range}
pub use Rattle.spin_base.proofs.{Determined.EachFollows, Determined.determined_begins, Members.Contains-at, Members.Contains-filter_map, Members.Contains-from_filter_map, Pairs.All-left}
pub use Rattle.spin_base.proofs.{Pairs.AllPairs-across, Pairs.AllPairs-head, Pairs.AllPairs-left, Pairs.AllPairs-nil, Pairs.AllPairs-permutation, Pairs.AllPairs-tail, Places.All-at, Places.All-each}
pub use Rattle.spin_base.proofs.{Places.one_item_at, Places.slice_get-push_cases, Places.slice_get-pushed, Places.slice_get_there, Tests.or_neither}
pub use Rattle.spin_base.specs.declared.{blocks.Block.Block, wants.Memory.Memory}
pub use Rattle.std.proofs.Common.{All, AllPairs, Bool, Err, IfOk, IfSome, List, MatchOption, None, Ok, Option, Result, Some, [], ap, arith, false, get_or, inl, inr, length, ltb, max, not, refl, rules}
pub use Rattle.std.proofs.Common.{slice_get, subst, suc, sym, take, true, ℕ, ◌%◌, ◌&&◌, ◌*◌, ◌++◌, ◌+◌, ◌-◌, ◌/◌, ◌<◌, ◌^◌, ◌||◌, ◌↔◌, ◌∙◌, ◌∷◌, ◌≡◌, ◌≢◌, ◌≤◌, ◌⊎◌}
pub use Rattle.std.proofs.{Math.Nat.mul-le-mul_right, Math.Nat.suc-mul, Math.Pow.pow_mono, lemmas.Bool.Decides.nat_tests, lemmas.Bool.and_parts, lemmas.Bool.cases_Bool, lemmas.Bool.cases_lt}
pub use Rattle.std.proofs.lemmas.{Bool.lt-ltb, Bool.ltb-true, Bool.not-true, Bool.or_left, Grind.pow_more, List.Elements.All-append, List.Elements.All-cons, List.Elements.All-contains}
pub use Rattle.std.proofs.lemmas.List.Elements.{All-nil, All-replicate, All-weaker, Contains-append_left, Contains-append_right, Contains-push, Contains-push_cases}
pub use Rattle.std.proofs.lemmas.List.{Folds.list_any-append, Folds.list_any_at, Folds.list_any_none, Kept.AllPairs-cons, Sorted.All-permutation, Sorted.IsNonDecreasingBy-from_sort}
pub use Rattle.std.proofs.lemmas.List.{Sorted.IsPermutation-sym, Sorted.answers_always, append_assoc, get_or-take, length-take, length_push, take-append-le, take_all, take_at}
pub use Rattle.std.proofs.lemmas.{Nat.Bits.and_high_mask, Nat.div_below, Nat.pow-add, Nat.pow_pos, Nat.shr_split, Option.get_or_from_slice_get, Option.slice_get-get_or, Option.slice_get_cases}
pub use Rattle.std.proofs.lemmas.Option.{slice_get_read, slice_get_within}
pub use Rattle.std.specs.{Int.IsPowerOfTwo, List.AllZip, List.Contains, List.Sorted.IsPermutation, List.cons_option, List.list_any, Prelude.bit_and}
pub use Rattle.tern_word.proofs.BlockLaws.{Intersects-sym, exponent_le, key_small, range_keys, same_block}
pub use Rattle.tern_word.specs.Ternary.{Intersects, Matches}
