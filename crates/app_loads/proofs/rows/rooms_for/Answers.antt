use Rattle.app_loads.proofs.Common.{chains, get_or_from_slice_get, rules, slice_get_within, slice_index_or, ◌≡◌}
use Rattle.app_loads.proofs.rows.rooms_for.Goals as goal

pub returns : goal.returns
returns c = record {
  all = search (rules, chains);
  each = λ i range room at_range at_room.
      let below = slice_get_within c.args.ranges.now i range at_range in
      let is_range : slice_index_or c.args.ranges.now i range ≡ range = get_or_from_slice_get _ i range range at_range in
      let is_room : slice_index_or c.in_ok-try_collect.field-0.items i room ≡ room = get_or_from_slice_get _ i room room at_room in
      search (rules, chains);
}
