-- The names that the proofs of this crate cite from outside of them, passed on from one place. Declares nothing.
pub use Rattle.block_cuts.proofs.{HalfLaws.meets_tells, PieceLaws.are_pieces}
pub use Rattle.block_cuts.specs.{Cuts.cut, Pieces.ArePieces, Pieces.HasPiece, Pieces.NoneHas}
pub use Rattle.cover_merge.proofs.{Answering.fails, Positions.All-has, Positions.place_for-above, Positions.place_for-below, Positions.place_for-le, Positions.rows_at-from, Positions.rows_at-push}
pub use Rattle.cover_merge.specs.{Covering.Covers, Covering.merged, Covering.stuck, Merge.PassesDown, Merge.after, Merge.has_row, Merge.insert_place, Merge.kept, Merge.merge_rows, Merge.merged_row}
pub use Rattle.cover_merge.specs.Merge.{picked, place_for, rows_at}
pub use Rattle.default_routes.specs.KeptRows.{AreKept, IsStrippable, KeptFrom, ends, goes, stays}
pub use Rattle.spin_base.proofs.Members.{Among, Contains-filter, Contains-map, Contains-unmap, among_any, among_contains, among_filter, among_map, any_among, contains_among, map_among}
pub use Rattle.spin_base.proofs.{Members.position_nowhere, Pairs.All-flat_map, Pairs.All-from_map, Pairs.AllAcross, Pairs.AllPairs-across, Pairs.AllPairs-append, Pairs.AllPairs-from_map}
pub use Rattle.spin_base.proofs.{Pairs.AllPairs-head, Pairs.AllPairs-left, Pairs.AllPairs-nil, Pairs.AllPairs-right, Pairs.AllPairs-tail, Places.All-at, Places.All-each, RouteBits.same_route}
pub use Rattle.spin_base.specs.declared.{blocks.Block.Block, chips.Port.Port, chips.Port.TheVariants.Local, routes.Route.Route}
pub use Rattle.std.proofs.Common.{Bool, List, None, Option, Some, [], ap, append_assoc, arith, cond, drop, eqb, false, get_or, get_or-drop, get_or-take, inl, inr, length, length-append, length-drop}
pub use Rattle.std.proofs.Common.{length-take, map, min, refl, rules, set, subst, suc, sym, take, take-append-drop, true, zero, ℕ, ◌%◌, ◌++◌, ◌+◌, ◌-◌, ◌<◌, ◌==◌, ◌^◌, ◌↔◌, ◌∙◌, ◌∷◌, ◌≡◌, ◌≤◌, ◌⊎◌}
pub use Rattle.std.proofs.lemmas.Bool.{Decides.eqb_tells, Decides.nat_tests, cases_Bool, cases_eq, cases_lt, eq-eqb, eqb-false, eqb-true, false≢true}
pub use Rattle.std.proofs.lemmas.List.{Concat.flat_map-append, Edits.length-insert, Elements.All-append, Elements.All-cons, Elements.All-drop, Elements.All-head, Elements.All-map, Elements.All-nil}
pub use Rattle.std.proofs.lemmas.List.Elements.{All-tail, All-take, Contains-append_cases, Contains-append_left, Contains-append_right, Contains-get_or}
pub use Rattle.std.proofs.lemmas.List.{Filters.dedup_is, Folds.find-append, Folds.find_at, Kept.AllPairs-cons, Kept.AllPairs-from_increasing, Kept.Contains-dedup_nat, Kept.Contains-from_dedup}
pub use Rattle.std.proofs.lemmas.List.{Quantifiers.position-Some, Sorted.All-permutation, Sorted.Contains-permutation, Sorted.IsNonDecreasingBy-from_sort, Sorted.IsPermutation-refl}
pub use Rattle.std.proofs.lemmas.List.{Sorted.IsPermutation-sym, Sums.sum_by-append, Sums.take_while-cons, append-nil, drop_all, drop_more, get_or-map, get_or_default, length-map, map_push}
pub use Rattle.std.proofs.lemmas.{List.nil_from_length, List.take_all, List.take_more, Map.Keys.IsStrictlyIncreasing-dedup, Nat.Bits.bit_at-zero, Nat.and_le_l, Nat.and_le_r, Nat.mod_low}
pub use Rattle.std.proofs.lemmas.{Option.get_or_from_slice_get, Option.none-some, Option.same_Some, Option.slice_get-get_or, Option.slice_get_within, Result.IfOk-weaker}
pub use Rattle.std.specs.{Int.bit_at, Int.bit_not, Int.w32, List.Contains, List.Sorted.IsNonDecreasing, List.Sorted.IsPermutation, List.cons_option, List.dedup, List.position_or_len, Option.option_or}
pub use Rattle.std.specs.Prelude.{All, AllPairs, IfSome, MatchOption, bit_and, bit_xor, count_by, fold, insert, nat_le, not, slice_get, slice_index}
pub use Rattle.table_rules.specs.Exact.{HasAllRoutes, IsCoveredWithin, IsFree, IsShortWithin, IsShortenedWithin, no_route, rows_before, wall_of, walled}
pub use Rattle.table_rules.specs.Made.{HasTooManyPieces, IsRowAdded, IsTableFrom, IsTableMadeOf, StandsBefore, alias_of, done, here, in_pieces, later, left_out, more, piece_row, row_blocks, whole}
pub use Rattle.table_rules.specs.{Made.whole_row, Made.with_row, Made.with_rows, Pairs.AreJoinedRows, Pairs.AreRoutesOf, Pairs.goes_by, Pairs.joined_blocks, Pairs.meets_one, Pairs.others}
pub use Rattle.table_rules.specs.{Pairs.own_blocks, Pairs.pieces_of, Pairs.row_by, Pairs.rows_by_routes, Pairs.weight_of, Pairs.with_block, Rows.GoesBy, Rows.HasNoNewKeys, Rows.KeepsRoutes}
pub use Rattle.table_rules.specs.{Rows.LeaveBy, Rows.by_default, Rows.by_row, Rows.first_with, Rows.routed, Rows.takes_key, Shortened.AreLeft, Shortened.IsCoveredFrom, Shortened.IsShortFrom}
pub use Rattle.table_rules.specs.Shortened.{IsShortenedTo, IsShorterOf, few, fewer, many, no_fewer, no_shorter, short, shorter}
pub use Rattle.table_rules.specs.declared.rows.RoutedBlock.{RoutedBlock}
pub use Rattle.tern_word.proofs.BlockLaws.{LiesIn-merge, generality-mono, same_block}
pub use Rattle.tern_word.specs.{SoundTable.HoldsItsAliases, SoundTable.IsSound, SoundTable.Misses, SoundTable.Original, SoundTable.served, SoundTable.served_by, Ternary.Intersects, Ternary.LiesIn}
pub use Rattle.tern_word.specs.{Ternary.Matches, Ternary.all_keys, Ternary.generality, Ternary.merge_two, declared.tables.Alias.Alias, declared.tables.Row.Row, declared.tables.Table.Table}
