-- The names that the proofs of this crate cite from outside of them, passed on from one place. Declares nothing.
pub use Rattle.machine_desc.proofs.{Far.far_inside, Far.index_below, Far.live_ends, Far.live_inside, Far.same_index, Live.chip_of-inside, Live.index_of-chip_of, Same.edge_eq-true, Same.edge_eq_self}
pub use Rattle.machine_desc.proofs.{TreeLemmas.one_edge_into, TreeLemmas.tree_cases, TreeLemmas.tree_push_cases, Wanted.edge_wanted, Wanted.end_wanted, Wanted.leads_to_own, Wanted.spot_of_out}
pub use Rattle.machine_desc.specs.{Description.Description, Equality.edge_eq, Live.IsInside, Live.chip_of, Live.index_of, Outputs.ComesIn, Outputs.is_edge_out, Outputs.is_wanted}
pub use Rattle.machine_desc.specs.{Outputs.leads_to_spot, RightTables.AreRight, RightTables.IsKeyOf, RoutingTree.IsRoutingTree, RoutingTree.IsTreeChip, RoutingTree.end_of}
pub use Rattle.machine_desc.specs.declared.{nets.NetPlan.NetPlan, trees.Edge.Edge}
pub use Rattle.net_tables.specs.Marks.{AreApart, AreBlocksOf, AreTurningBlocksOf, GainsMark, IsBlank, IsClearOff, IsRouted, IsTableOf, TellsPort, TellsPorts, TellsRoutes, mark_numbers, original_of}
pub use Rattle.net_tables.specs.{Marks.row_of_mark, Marks.turns, Marks.with_mark, PlainTable.AreOriginals, PlainTable.ArePlainTables, PlainTable.AreRoutedApart, PlainTable.AtEach, PlainTable.HasChip}
pub use Rattle.net_tables.specs.PlainTable.{IsOriginalOf, IsPlainTable, IsRowNotAfter, ServesOriginals, entries, entry_of, row_of}
pub use Rattle.net_tables.specs.declared.marks.Mark.{Mark}
pub use Rattle.spin_base.proofs.{Ascending.same_in_order, Members.Contains-cases, Members.Contains-first, Members.Contains-later, Members.Contains-map, Members.Contains-none, Members.Contains-unmap}
pub use Rattle.spin_base.proofs.{Pairs.AllPairs-from_map, Pairs.AllPairs-head, Pairs.AllPairs-map, Pairs.AllPairs-permutation, Pairs.AllPairs-tail, Places.All-each, Places.AllZip-at_second}
pub use Rattle.spin_base.proofs.{Places.AllZip-more, Places.slice_get-mapped, Places.slice_get_there, RouteBits.same_route, RouteBits.zero_of, Spots.dir_number-dir_at, Spots.out_of-has_bit}
pub use Rattle.spin_base.specs.{Links.dir_at, Links.opposite_of, Lookup.default_route, Lookup.lookup, Lookup.matches, Outputs.IsOutput, Outputs.WithOut, Outputs.has, Outputs.nothing}
pub use Rattle.spin_base.specs.{Outputs.out_number, Outputs.out_of, declared.blocks.Block.Block, declared.blocks.Entry.Entry, declared.chips.Chip.Chip, declared.chips.Port.Port}
pub use Rattle.spin_base.specs.declared.{chips.Port.TheVariants.Link as ByLink, chips.Port.TheVariants.Local, chips.Spot.Spot, routes.Out.Out, routes.Out.TheVariants.Core, routes.Out.TheVariants.Link}
pub use Rattle.spin_base.specs.declared.routes.Route.{Route}
pub use Rattle.std.proofs.Common.{Bool, List, None, Option, Ordering, Some, [], ap, arith, bit_and, cond, drop, false, filter, find, get_or, inl, inr, is_lt, length, map, nat_cmp, not, refl, rules}
pub use Rattle.std.proofs.Common.{set, subst, suc, sym, take, true, zero, ℕ, ◌*◌, ◌++◌, ◌+◌, ◌-◌, ◌<◌, ◌==◌, ◌||◌, ◌∙◌, ◌∷◌, ◌≡◌, ◌≢◌, ◌≤◌, ◌⊎◌}
pub use Rattle.std.proofs.{Math.Bool.or-false, Math.Bool.or_assoc, Math.ListN.get_or-map, Math.ListN.length-set, Math.Logic.∥∥₁_elim, Math.Logic.∥∥₁_map, Props.props, lemmas.Bool.Decides.eqb_tells}
pub use Rattle.std.proofs.lemmas.Bool.{cases_Bool, cases_eq, cases_lt, cases_order, eq-eqb, eqb-true, false_from_ne_true, false≢true, or_right}
pub use Rattle.std.proofs.lemmas.List.Elements.{All-cons, All-contains, All-drop, All-head, All-map, All-more, All-nil, All-tail, All-take, Contains-append_left, Contains-push, filter-append}
pub use Rattle.std.proofs.lemmas.List.{Filters.length-filter_both, Folds.drop_split, Folds.list_any_more, Kept.AllPairs-cons, Kept.AllPairs-filter, Quantifiers.all_pairs_push}
pub use Rattle.std.proofs.lemmas.List.{Sorted.Contains-permutation, Sorted.IsPermutation-map, Sorted.IsPermutation-sym, Sorted.answers_always, Sorted.length_permutation, append-nil, append_assoc}
pub use Rattle.std.proofs.lemmas.List.{get_or-replicate, get_or-set_other, get_or-set_same, get_or_default, get_or_past, length-map, length-replicate, map-append, map_push, take_all, take_more}
pub use Rattle.std.proofs.lemmas.{Map.Keys.ge_from_not_lt, Nat.Bits.bit_at-lt, Nat.Bits.bit_at-zero, Nat.Bits.same_from_bits_below, Option.get_or_from_slice_get, Option.none-some, Option.same_Some}
pub use Rattle.std.proofs.lemmas.Slice.Zip.{AllZip-long}
pub use Rattle.std.specs.{Int.bit_at, Int.count_zeros, Int.w32, List.All, List.AllPairs, List.AllZip, List.Contains, List.Sorted.IsPermutation, List.Sorted.IsSortedByKey, List.list_any}
pub use Rattle.std.specs.{List.slice_get, List.slice_index_or, Option.option_map_or, Ordering.ordering_then, Prelude.replicate}
pub use Rattle.tern_word.proofs.BlockLaws.{Intersects-sym, key_small}
pub use Rattle.tern_word.specs.{SoundTable.HoldsItsAliases, SoundTable.IsSound, SoundTable.Misses, SoundTable.Original, SoundTable.served, Ternary.Intersects, Ternary.LiesIn, Ternary.generality}
pub use Rattle.tern_word.specs.declared.tables.{Alias.Alias, Row.Row, Table.Table}
