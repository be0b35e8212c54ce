-- One piece more, one row more.
use Rattle.table_rules.proofs.Common.{All, AreLeft, Block, Covers, HasTooManyPieces, IsCoveredFrom, IsRowAdded, IsShortFrom, IsShorterOf, IsTableFrom, IsTableMadeOf, List, None, PassesDown}
use Rattle.table_rules.proofs.Common.{RoutedBlock, Row, Some, StandsBefore, [], ap, arith, cases_eq, cut, done, drop, drop_all, drop_more, eqb-false, eqb-true, false, generality, get_or, here, later}
use Rattle.table_rules.proofs.Common.{length, length-insert, map, map_push, more, nil_from_length, piece_row, pieces_of, place_for, place_for-le, routed, row_blocks, rows_at, rows_at-push}
use Rattle.table_rules.proofs.Common.{slice_get-get_or, subst, sym, take, take_more, true, with_row, with_rows, ℕ, ◌++◌, ◌+◌, ◌-◌, ◌<◌, ◌==◌, ◌∙◌, ◌∷◌, ◌≡◌, ◌≤◌}

-- ---- pieces as rows

module _ (given : RoutedBlock) (pieces : List Block) (i : ℕ) (rows all : List Row) where
  pub piece_turn : (piece : Block) (row : Row) (new : List Row) → i < length pieces → piece ≡ get_or pieces i piece → with_rows rows (map (piece_row given) (drop i pieces)) ≡ all
      → row ≡ piece_row given piece → new ≡ with_row rows row → with_rows new (map (piece_row given) (drop (i + 1) pieces)) ≡ all
  piece_turn piece row new within read so_far is put =
      let rest = map (piece_row given) (drop (i + 1) pieces) in
      ap (λ rs. with_rows rs rest) (put ∙ ap (with_row rows) is)
      ∙ (ap (λ x. with_rows (with_row rows (piece_row given x)) rest) read
      ∙ (sym (ap (λ l. with_rows rows (map (piece_row given) l)) (drop_more pieces i piece within))
      ∙ so_far))

pub length_with : (rows new : List Row) (row : Row) → new ≡ with_row rows row → length new ≡ length rows + 1
length_with rows new row put = ap length put ∙ length-insert rows (place_for rows (generality row.block)) row (place_for-le rows (generality row.block))

-- ---- rows

module _ (left : ℕ) (given : List RoutedBlock) (i : ℕ) (rows : List Row) where
  pub rows_all : length given ≤ i → IsTableFrom left (take i given) rows (drop i given) rows
  rows_all past = subst (λ l. IsTableFrom left (take i given) rows l rows) (sym (drop_all i given past)) (done left (take i given) rows)

  module _ (row : RoutedBlock) (blocks : List Block) (within : i < length given) (read : row ≡ get_or given i row) (are : blocks ≡ row_blocks (take i given)) where
    before : take (i + 1) given ≡ take i given ++ row ∷ []
    before = take_more given i row within ∙ ap (λ x. take i given ++ x ∷ []) (sym read)

    behind : drop i given ≡ row ∷ drop (i + 1) given
    behind = drop_more given i row within ∙ ap (λ x. x ∷ drop (i + 1) given) (sym read)

    pub blocks_more : (new : List Block) → new ≡ blocks ++ row.block ∷ [] → new ≡ row_blocks (take (i + 1) given)
    blocks_more new put = put ∙ (ap (λ bs. bs ++ row.block ∷ []) are ∙ (sym (map_push (λ (r : RoutedBlock). r.block) (take i given) row) ∙ ap row_blocks (sym before)))

    pub no_room : None ≡ cut left row.block blocks → HasTooManyPieces left (take i given) (drop i given)
    no_room none = subst (HasTooManyPieces left (take i given)) (sym behind) (here left (take i given) row (drop (i + 1) given) (ap (cut left row.block) (sym are) ∙ sym none))

    module _ (pieces : List Block) (cuts : Some pieces ≡ cut left row.block blocks) where
      is_cut : cut left row.block (row_blocks (take i given)) ≡ Some pieces
      is_cut = ap (cut left row.block) (sym are) ∙ sym cuts

      pub more_rows : (new table : List Row) → IsRowAdded rows row pieces new → IsTableFrom (left - length pieces) (take (i + 1) given) new (drop (i + 1) given) table → IsTableFrom left (take i given) rows (drop i given) table
      more_rows new table put from =
          subst (λ l. IsTableFrom left (take i given) rows l table) (sym behind)
          (more left (take i given) rows row (drop (i + 1) given) pieces new table is_cut put (subst (λ l. IsTableFrom (left - length pieces) l new (drop (i + 1) given) table) before from))

      pub too_many_later : HasTooManyPieces (left - length pieces) (take (i + 1) given) (drop (i + 1) given) → HasTooManyPieces left (take i given) (drop i given)
      too_many_later many =
          subst (HasTooManyPieces left (take i given)) (sym behind)
          (later left (take i given) row (drop (i + 1) given) pieces is_cut (subst (λ l. HasTooManyPieces (left - length pieces) l (drop (i + 1) given)) before many))

-- ---- what the code tests

pub no_pieces : (pieces : List Block) → true ≡ (length pieces == 0) → pieces ≡ []
no_pieces pieces is = nil_from_length pieces (eqb-true (length pieces) 0 (sym is))

pub some_pieces : (pieces : List Block) → false ≡ (length pieces == 0) → 0 < length pieces
some_pieces pieces is = grind (arith, cases_eq (length pieces) 0, eqb-false (length pieces) 0 (sym is))

module _ (rows list other : List Row) (block : Block) (place g : ℕ) (same : list ≡ rows) (also : other ≡ rows) (general : g ≡ generality block) (at : place ≡ place_for other g) where
  place_is : place ≡ place_for rows (generality block)
  place_is = at ∙ (ap (λ l. place_for l g) also ∙ ap (place_for rows) general)

  pub stands : PassesDown list block place → StandsBefore block rows
  stands passes = subst (λ l. PassesDown l block (place_for rows (generality block))) same (subst (PassesDown list block) place_is passes)

  pub stands_not : (PassesDown list block place → ⊥) → StandsBefore block rows → ⊥
  stands_not fails_to is = fails_to (subst (PassesDown list block) (sym place_is) (subst (λ l. PassesDown l block (place_for rows (generality block))) (sym same) is))

-- ---- covered rows

module _ (target room : ℕ) (given : List RoutedBlock) (table rows : List Row) (sets : List (List ℕ)) (long : target < length given) (made : IsTableMadeOf room given table) (covers : Covers target table sets rows) where
  covered_from : IsCoveredFrom target room given rows
  covered_from = record { long = long; table = table; made = made; sets = sets; covered = covers }

  pub is_short_from : (list : List Row) (pieces left new : List RoutedBlock) → list ≡ rows → AreLeft list left → pieces ≡ pieces_of table → IsShorterOf target pieces pieces left new → IsShortFrom target room given new
  unfolding covered_from
  is_short_from list pieces left new same are pieces_are of = record {
    rows = rows;
    from = covered_from;
    left = left;
    are_left = subst (λ l. AreLeft l left) same are;
    shorter = subst (λ l. IsShorterOf target l l left new) pieces_are of;
  }

-- the row at one more place
pub places_more : (rows : List Row) (places : List ℕ) (i : ℕ) (row : Row) (new : RoutedBlock) (old all : List RoutedBlock) → All (λ s. s < length rows) places → i < length places →
    row ≡ get_or rows (get_or places i 0) row → new ≡ routed row → old ≡ map routed (rows_at rows (take i places)) → all ≡ old ++ new ∷ [] →
    all ≡ map routed (rows_at rows (take (i + 1) places))
places_more rows places i row new old all in_range within read is so_far put =
    let s : ℕ = get_or places i 0 in
    let there = slice_get-get_or rows s row (in_range i 0 within) ∙ ap Some (sym read) in
    put
    ∙ (ap (λ x. old ++ x ∷ []) is
    ∙ (ap (λ l. l ++ routed row ∷ []) so_far
    ∙ (sym (map_push routed (rows_at rows (take i places)) row)
    ∙ ap (map routed) (sym (ap (rows_at rows) (take_more places i 0 within) ∙ rows_at-push rows (take i places) s row there)))))
