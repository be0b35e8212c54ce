-- The table that is made of rows says what they say.
use Rattle.table_rules.proofs.Common.{Alias, All, All-map, All-nil, All-permutation, AllPairs-nil, AreLeft, ArePieces, Block, Contains, Contains-get_or, Contains-map, HasPiece, HoldsItsAliases}
use Rattle.table_rules.proofs.Common.{Intersects, IsPermutation, IsPermutation-sym, IsRowAdded, IsSound, IsTableFrom, IsTableMadeOf, KeepsRoutes, LeaveBy, LiesIn, List, Matches, None, Original, Port}
use Rattle.table_rules.proofs.Common.{Route, RoutedBlock, Row, Some, StandsBefore, [], alias_of, ap, append-nil, append_assoc, are_pieces, arith, by_row, done, first_with, generality, get_or}
use Rattle.table_rules.proofs.Common.{get_or-map, in_pieces, inl, inr, left_out, length, length-map, map, more, none-some, piece_row, place_for, refl, routed, row_blocks, rows_at, served, served_by}
use Rattle.table_rules.proofs.Common.{subst, sym, whole, whole_row, with_row, with_rows, ℕ, ◌++◌, ◌-◌, ◌<◌, ◌^◌, ◌∙◌, ◌∷◌, ◌≡◌}
use Rattle.table_rules.proofs.{FirstRows.first_none, FirstRows.first_of_more, FirstRows.none_before, FirstRows.none_first, FirstRows.not_none, Kept.IsSentOn, Kept.all_sent, Sounds.all_insert}
use Rattle.table_rules.proofs.Sounds.{all_with_rows, served_keeps, served_keeps_all, served_new, served_news, sound_with, sound_with_pieces}

-- an original block of the table has the key, the port and the route
pub record IsServed (rows : List Row) (k : ℕ) (port : Port) (route : Route) : Type 0 where
  pub original : Original
  pub among : Contains (served rows) original
  pub has : Matches original.block k
  pub comes : original.port ≡ port
  pub by : original.route ≡ route

-- each key of the block is one that some of the rows before has
abbrev IsOf : List RoutedBlock → Row → Type 0
IsOf before r = (k : ℕ) → k < 2 ^ 32 → Matches r.block k → first_with before k ≡ None → ⊥

-- the table says what the rows say
record IsFaithful (before : List RoutedBlock) (rows : List Row) : Type 0 where
  pub sound : IsSound rows
  pub within : All (IsOf before) rows
  pub complete : (k : ℕ) (row : RoutedBlock) → k < 2 ^ 32 → first_with before k ≡ Some row → IsServed rows k row.port row.route

module _ (before : List RoutedBlock) (rows : List Row) (given : RoutedBlock) (pieces : List Block) (so_far : IsFaithful before rows) (are : ArePieces given.block (row_blocks before) pieces) where
  -- no row of the table meets a piece
  clear_of : All (λ (r : Row). All (λ (p : Block). Intersects r.block p → ⊥) pieces) rows
  clear_of i d inside j e within met = so_far.within i d inside met.key met.small met.first (none_first before met.key (are.clear j e within met.key met.small met.second))

  still_of : (r : Row) → IsOf before r → IsOf (before ++ given ∷ []) r
  still_of r of k small hit none = of k small hit (none_before before (given ∷ []) k none)

  still_within : All (IsOf (before ++ given ∷ [])) rows
  still_within i d inside = still_of (get_or rows i d) (so_far.within i d inside)

  -- each key is served by the table as before, or by a piece
  module _ (next : List Row) (keeps : (o : Original) → Contains (served rows) o → Contains (served next) o) (news : (k : ℕ) → HasPiece pieces k → IsServed next k given.port given.route) where
    complete : (k : ℕ) (row : RoutedBlock) → k < 2 ^ 32 → first_with (before ++ given ∷ []) k ≡ Some row → IsServed next k row.port row.route
    complete k row small first = elim (first_of_more before given row k first) [
      | inl earlier ↦
          let it = so_far.complete k row small earlier in
          record { original = it.original; among = keeps it.original it.among; has = it.has; comes = it.comes; by = it.by }
      | inr this ↦
          let it = news k (are.whole k small this.2 (first_none before k this.0)) in
          record { original = it.original; among = it.among; has = it.has; comes = it.comes ∙ ap (λ (r : RoutedBlock). r.port) this.1; by = it.by ∙ ap (λ (r : RoutedBlock). r.route) this.1 }
    ]

  original_of : Block → Original
  original_of p = record { block = p; port = given.port; route = given.route }

  with_whole : StandsBefore given.block rows → IsFaithful (before ++ given ∷ []) (with_row rows (whole_row given pieces))
  unfolding original_of
  with_whole stands = record {
    sound = sound_with rows (whole_row given pieces) so_far.sound
        (All-map (λ (a : Alias). LiesIn a.block given.block) (alias_of given.port) pieces are.inside)
        (λ i d inside. All-map (λ (a : Alias). Intersects (get_or rows i d).block a.block → ⊥) (alias_of given.port) pieces (clear_of i d inside))
        stands;
    within = all_insert (IsOf (before ++ given ∷ [])) rows (place_for rows (generality given.block)) (whole_row given pieces) still_within (λ k small hit none. not_none before given k hit none);
    complete = complete (with_row rows (whole_row given pieces)) (served_keeps rows (whole_row given pieces)) (λ k piece. record {
      original = original_of piece.piece;
      among = served_new rows (whole_row given pieces) (original_of piece.piece)
          (Contains-map (λ (a : Alias). let o : Original = record { block = a.block; port = a.port; route = given.route } in o) (map (alias_of given.port) pieces) (alias_of given.port piece.piece)
          (Contains-map (alias_of given.port) pieces piece.piece piece.among));
      has = piece.has;
      comes = refl;
      by = refl;
    });
  }

  with_pieces : IsFaithful (before ++ given ∷ []) (with_rows rows (map (piece_row given) pieces))
  unfolding original_of
  with_pieces = record {
    sound = sound_with_pieces given pieces rows so_far.sound clear_of are.apart;
    within = all_with_rows (IsOf (before ++ given ∷ [])) (map (piece_row given) pieces) rows still_within
        (All-map (IsOf (before ++ given ∷ [])) (piece_row given) pieces (λ i d inside k small hit none. not_none before given k (are.inside i d inside k small hit) none));
    complete = complete (with_rows rows (map (piece_row given) pieces)) (served_keeps_all (map (piece_row given) pieces) rows) (λ k piece.
        let i = piece.among.0 in
        let inside : i < length (map (piece_row given) pieces) = omega (arith, piece.among.1, length-map pieces (piece_row given)) in
        let is : get_or (map (piece_row given) pieces) i (piece_row given piece.piece) ≡ piece_row given piece.piece =
        get_or-map (piece_row given) pieces i piece.piece (piece_row given piece.piece) piece.among.1 ∙ ap (piece_row given) piece.among.2 in record {
          original = original_of piece.piece;
          among = served_news (map (piece_row given) pieces) rows i (piece_row given piece.piece) (original_of piece.piece) inside
              (subst (λ r. Contains (served_by r) (original_of piece.piece)) (sym is) (0, omega arith, refl));
          has = piece.has;
          comes = refl;
          by = refl;
        });
  }

  with_none : pieces ≡ [] → IsFaithful (before ++ given ∷ []) rows
  with_none none = grind (arith, still_within, complete)

faithful_put : (before : List RoutedBlock) (rows : List Row) (given : RoutedBlock) (pieces : List Block) (next : List Row) → IsFaithful before rows → ArePieces given.block (row_blocks before) pieces
    → IsRowAdded rows given pieces next → IsFaithful (before ++ given ∷ []) next
faithful_put before rows given pieces next so_far are (left_out none) = with_none before rows given pieces so_far are none
faithful_put before rows given pieces next so_far are (whole some stands) = with_whole before rows given pieces so_far are stands
faithful_put before rows given pieces next so_far are (in_pieces some stands_not) = with_pieces before rows given pieces so_far are

faithful_from : (room : ℕ) (before : List RoutedBlock) (rows : List Row) (given : List RoutedBlock) (table : List Row) → IsTableFrom room before rows given table → IsFaithful before rows → IsFaithful (before ++ given) table
faithful_from room before rows given table (done r b rs) so_far = subst (λ l. IsFaithful l rs) (sym (append-nil b)) so_far
faithful_from room before rows given table (more r b rs g rest pieces next t cuts put from) so_far =
    subst (λ l. IsFaithful l t) (append_assoc b (g ∷ []) rest)
    (faithful_from (r - length pieces) (b ++ g ∷ []) next rest t from (faithful_put b rs g pieces next so_far (are_pieces r g.block (row_blocks b) (Some pieces) (sym cuts)) put))

none_yet : IsFaithful [] []
none_yet = grind (arith, All-nil HoldsItsAliases, All-nil (IsOf []), complete, AllPairs-nil, none-some)

pub made_is_sound : (room : ℕ) (given : List RoutedBlock) (table : List Row) → IsTableMadeOf room given table → IsSound table
made_is_sound room given table made = (faithful_from room [] [] given table made none_yet).sound

-- and so does each table that serves the same
pub is_served : (room : ℕ) (given : List RoutedBlock) (table rows : List Row) → IsTableMadeOf room given table → IsPermutation (served table) (served rows)
    → (k : ℕ) (row : RoutedBlock) → k < 2 ^ 32 → first_with given k ≡ Some row → IsServed rows k row.port row.route
is_served room given table rows made same k row small first =
    let it = (faithful_from room [] [] given table made none_yet).complete k row small first in
    let all = All-permutation (Contains (served rows)) (served rows) (served table) (IsPermutation-sym (served table) (served rows) same) (λ i d within. Contains-get_or (served rows) i d within) in
    record { original = it.original; among = subst (Contains (served rows)) it.among.2 (all it.among.0 it.original it.among.1); has = it.has; comes = it.comes; by = it.by }

-- what is served is sent on by the rows that are left
pub sent_on : (rows : List Row) (left : List RoutedBlock) (k : ℕ) (port : Port) (route : Route) → IsSound rows → AreLeft rows left → k < 2 ^ 32 → IsServed rows k port route → LeaveBy left k port route
sent_on rows left k port route sound are small it =
    let kept = map routed (rows_at rows are.places) in
    let way = subst (IsSentOn kept) it.among.2 (all_sent rows sound are.places are.kept it.among.0 it.original it.among.1) k small it.has in
    subst (λ l. LeaveBy l k port route) (sym are.are) (subst (LeaveBy kept k port) it.by (subst (λ p. LeaveBy kept k p it.original.route) it.comes way))

pub keeps : (room : ℕ) (given : List RoutedBlock) (table rows : List Row) (left : List RoutedBlock) → IsTableMadeOf room given table → IsSound rows → IsPermutation (served table) (served rows) → AreLeft rows left
    → KeepsRoutes given left
keeps room given table rows left made sound same are k row small first = sent_on rows left k row.port row.route sound are small (is_served room given table rows made same k row small first)

pub keeps_itself : (given : List RoutedBlock) → KeepsRoutes given given
keeps_itself given k row small first = by_row (record { row = row; first = first; by = refl })
