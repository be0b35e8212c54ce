-- The image of the final tables of nets gets the verdict that all is right.
use Rattle.plan_check.proofs.Common.{Alias, All, All-cons, All-contains, All-flat_map, All-from_flat_map, All-head, All-map, All-nil, All-permutation, AllPairs, AllPairs-map, AllPairs-permutation}
use Rattle.plan_check.proofs.Common.{AreRoutedApart, Block, Chip, Contains, Contains-map, Contains-permutation, Description, Entry, Final, GetsRoute, Image, Intersects, Intersects-sym, IsFinalAt}
use Rattle.plan_check.proofs.Common.{IsImageOf, IsInside, IsPlainTable, IsSound, IsVerdict, LiesIn, List, NetPlan, Original, Right, Row, [], arith, chips_inside, entry_of, get_or, has_original}
use Rattle.plan_check.proofs.Common.{index_below, index_of, map, not_after, originals_apart, refl, row_of, rows_at, served, served_by, slice_get_there, subst, sym, ℕ, ◌<◌, ◌≡◌}
use Rattle.plan_check.proofs.{KeptBlocks.kept_gets, Covering.covered_sound}

-- ---- plain tables are sound

-- each alias of the row is its block
abbrev IsOwn : Row → Type 0
IsOwn r = All (λ (a : Alias). r.block ≡ a.block) r.aliases

own_row : (o : Original) → IsOwn (row_of o)
own_row o = All-cons (λ (a : Alias). o.block ≡ a.block) (record { block = o.block; port = o.port }) [] refl (All-nil (λ (a : Alias). o.block ≡ a.block))

plain_sound : (m : Description) (nets : List NetPlan) (c : Chip) (rows : List Row) → AreRoutedApart m nets → IsPlainTable m nets c rows → IsSound rows
plain_sound m nets c rows routed is =
    let own : All IsOwn rows = All-permutation IsOwn (map row_of is.originals) rows is.one_row_each (All-map IsOwn row_of is.originals (λ k d below. own_row (get_or is.originals k d))) in
    let apart : AllPairs (λ (r s : Row). ¬ (Intersects r.block s.block)) rows =
    AllPairs-permutation (λ (r s : Row). ¬ (Intersects r.block s.block)) (λ r s none met. none (Intersects-sym s.block r.block met)) (map row_of is.originals) rows is.one_row_each
    (AllPairs-map row_of (λ (a b : Original). ¬ (Intersects a.block b.block)) (λ (r s : Row). ¬ (Intersects r.block s.block)) (λ a b none. none) is.originals
    (originals_apart m c nets is.originals is.originals_are routed.apart)) in
    record {
      ordered = λ i j d less below. not_after (get_or rows i d) (get_or rows j d) (is.in_order i j d less below);
      inside = λ k d below i e within. subst (λ (b : Block). LiesIn b (get_or rows k d).block) (own k d below i e within) (λ key small at. at);
      unmet = λ i j d less below k e within. subst (λ (b : Block). ¬ (Intersects (get_or rows i d).block b)) (own j d below k e within) (apart i j d less below);
    }

-- ---- what the loaded rows give

module _ (m : Description) (nets : List NetPlan) (routed : AreRoutedApart m nets) (target : ℕ) (c : Chip) (f : Final) (at : IsFinalAt m nets target c f) where
  -- the block of an original gets its route
  abbrev Gets : Original → Type 0
  Gets o = GetsRoute o.block f.entries o.port o.route

  -- in the entries of the kept rows
  abbrev GetsKept : Original → Type 0
  GetsKept o = GetsRoute o.block (map entry_of (rows_at at.final.rows at.final.kept)) o.port o.route

  all_get : All Gets (served at.rows)
  all_get =
      let covered = covered_sound target at.rows at.final.sets at.final.rows at.final.covered (plain_sound m nets c at.rows routed at.plain) in
      let kept : All GetsKept (served at.rows) =
      covered.1 GetsKept (All-flat_map GetsKept served_by at.final.rows (λ j d below.
      let r : Row = get_or at.final.rows j d in
      All-map GetsKept (λ (a : Alias). let o : Original = record { block = a.block; port = a.port; route = r.route } in o) r.aliases
      (λ k e within. kept_gets at.final.rows covered.0 at.final.kept at.final.are_kept j d (omega arith) below k e within)))
      in
      subst (λ (es : List Entry). All (λ (o : Original). GetsRoute o.block es o.port o.route) (served at.rows)) (sym at.final.entries) kept

  pub original_gets : (o : Original) → Contains at.plain.originals o → Gets o
  original_gets o mine =
      let row : Contains at.rows (row_of o) = Contains-permutation (map row_of at.plain.originals) at.rows (row_of o) at.plain.one_row_each (Contains-map row_of at.plain.originals o mine) in
      let serves : All Gets (served_by (row_of o)) = All-contains (λ (r : Row). All Gets (served_by r)) at.rows (row_of o) (All-from_flat_map Gets served_by at.rows all_get) row in
      All-head Gets o [] serves

-- ---- the verdict

pub made_right : (m : Description) (nets : List NetPlan) (target : ℕ) (finals : List Final) (v : Image) → AreRoutedApart m nets → IsImageOf m nets target finals v → IsVerdict m nets v Right
made_right m nets target finals v routed is k d below c on =
    let net : NetPlan = get_or nets k d in
    let inside : IsInside m c = chips_inside m net.tree.root net.tree.edges net.targets (routed.trees k d below) (routed.roots k d below) c on in
    let there = slice_get_there finals (index_of m c) (subst (λ n. index_of m c < n) (sym is.one_each) (index_below m c inside)) in
    let f : Final = there.0 in
    let at = is.finals_are c f inside there.1 in
    let mine = has_original m c nets at.plain.originals at.plain.originals_are k d below on in
    let o : Original = mine.0 in
    record {
      port = o.port;
      comes_in = mine.2.port;
      route = o.route;
      gets = subst (λ (l : List Entry). GetsRoute net.block l o.port o.route) (sym (is.rows_are (index_of m c) f there.1))
          (subst (λ (b : Block). GetsRoute b f.entries o.port o.route) mine.2.keys (original_gets m nets routed target c f at o mine.1));
      is = mine.2.outputs;
    }
