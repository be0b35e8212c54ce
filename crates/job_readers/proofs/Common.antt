-- The names that the proofs of this crate cite from outside of them, passed on from one place. Declares nothing.
pub use Rattle.app_graph.proofs.Keys.{keys_of-at}
pub use Rattle.app_graph.specs.ValidGraph.{AreFixedApart, HasSendingSource, HaveDifferentDevices, IsValidGraph, IsValidNet, IsValidVertex, ShareNoKey}
pub use Rattle.app_graph.specs.declared.graphs.{Graph.Graph, Net.Net, Vertex.Vertex}
pub use Rattle.job_readers.specs.{Blocks.IsRange, Blocks.last_key_of, Blocks.shares_key, FixedRanges.AreRanges, GraphPart.devices_of, GraphPart.fixed_blocks_of, GraphPart.name_value}
pub use Rattle.job_readers.specs.GraphPart.{net_faults, net_names, net_value, next_net_faults, next_vertex_faults, sender_at, vertex_faults, vertex_names_of, vertex_value}
pub use Rattle.job_readers.specs.{Indexed.AreSlots, Indexed.MaybePlace, Indexed.said_of, Indexed.told_of, Items.following_faults, Items.items_faults, Listed.anchor_eq, Listed.anchor_of}
pub use Rattle.job_readers.specs.{Members.list_member, Members.list_member_faults, Named.HasNamesApart, Places.double_faults, Places.name_place_in, Places.unknown_faults, RunPart.items_in}
pub use Rattle.job_text.proofs.Items.{list_of-items_of}
pub use Rattle.job_text.specs.{Fields.is_name, Fields.object_faults, Fields.object_value, Fields.range_unless, Fields.text_faults, Fields.text_value, Fields.typed_faults, Members.list_of}
pub use Rattle.job_text.specs.{Members.member_of, Paths.item_at, Paths.member_at, Paths.path_text, Reading.IsFirstFault, Reading.◌▹◌, declared.faults.JobFault.JobFault}
pub use Rattle.job_text.specs.declared.faults.TextErr.{TextErr}
pub use Rattle.machine_desc.proofs.Same.{edge_eq_self}
pub use Rattle.machine_desc.specs.{Equality.edge_eq, declared.trees.Edge.Edge}
pub use Rattle.serde_json.specs.{Data.Data, Find.as_array, Find.as_str, View.items_of, View.view}
pub use Rattle.spin_base.proofs.{Members.Among, Members.Contains-first, Members.among_left, Members.among_right, Members.map_among, Places.All-each, Places.slice_get-append_left}
pub use Rattle.spin_base.proofs.Places.{slice_get-mapped, slice_get-pushed}
pub use Rattle.spin_base.specs.declared.blocks.Block.{Block}
pub use Rattle.std.proofs.Common.{Bool, List, None, Option, Some, [], add-one, ap, arith, codes, cond, drop, drop-cons, false, get_or, if◌then◌else◌, inl, inr, length, length-append, map, option_map}
pub use Rattle.std.proofs.Common.{refl, replicate, rules, set, slice_get, subst, suc, sym, take, take_all, true, true≢false, zero, ℕ, ◌%◌, ◌*◌, ◌++◌, ◌+◌, ◌-◌, ◌/◌, ◌<◌, ◌^◌, ◌||◌, ◌↔◌, ◌∙◌, ◌∷◌, ◌≡◌}
pub use Rattle.std.proofs.Common.{◌≢◌, ◌≤◌}
pub use Rattle.std.proofs.{Math.Logic.∥∥₁_elim, Props.props, lemmas.Bool.and_parts, lemmas.Bool.cases_Bool, lemmas.Bool.cases_eq, lemmas.Bool.cases_lt, lemmas.Bool.cases_order, lemmas.Bool.eq-eqb}
pub use Rattle.std.proofs.lemmas.{Bool.eqb-true, Bool.le-leb, Bool.lt-leb, Bool.or_left, Bool.or_right, Grind.common_steps, Grind.pow_more, List.Elements.All-contains, List.Elements.All-push}
pub use Rattle.std.proofs.lemmas.List.{Elements.All-replicate, Elements.All-set, Elements.Contains-append_left, Elements.Contains-append_right, Folds.list_any-append, Folds.list_any_at}
pub use Rattle.std.proofs.lemmas.List.{Folds.list_any_none, Quantifiers.all_pairs_push, drop_all, flat_map_more, length-map, length-replicate, length-set, map-append, map_push, nil_from_length}
pub use Rattle.std.proofs.lemmas.{List.take_more, Map.Keys.le_from_not_gt, Map.Text.btree_map_updates_str, Nat.Bits.and_high_mask, Nat.and_le_r, Nat.ones-le, Nat.ones_cat, Nat.pow_pos, Nat.shr_split}
pub use Rattle.std.proofs.lemmas.{Nat.zero_from_ones, Option.get_or_from_slice_get, Option.slice_get_read, Result.err_from_is_err_and, Slice.Eq.bytes_eq-Decides}
pub use Rattle.std.specs.{BTreeMap.Range.IsRangeOf, BTreeMap.get, BTreeMap.is_at, Cmp.Derive.both_true, Cmp.Lexicographic.slice_cmp, Int.IsPowerOfTwo, Int.RustNames.count_ones, Int.is_power_of_two}
pub use Rattle.std.specs.{List.flat_map, List.list_all, List.list_any, Map.lookup, Option.IsSome, Ordering.is_eq, Ordering.is_gt, Ordering.nat_cmp, Prelude.All, Prelude.AllPairs, Prelude.Contains}
pub use Rattle.std.specs.Prelude.{IfSome, bit_and, bytes_eq, is_some, nat_le, option_and_then, option_to_list, unwrap_or}
pub use Rattle.std.specs.declared.ops.Bound.TheVariants.{Included, Unbounded}
pub use Rattle.tern_word.proofs.BlockLaws.{agree_where_meet, exponent_le, key_small, meet_where_agree, range_keys}
