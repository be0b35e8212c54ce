-- The rows of joined pieces say what the given rows say, and behind a wall no more.
use Rattle.table_rules.proofs.Common.{Among, AreJoinedRows, AreLeft, AreRoutesOf, Contains, GoesBy, HasNoNewKeys, IsFree, IsPermutation, IsPermutation-refl, IsShorterOf, IsSound, IsTableMadeOf}
use Rattle.table_rules.proofs.Common.{KeepsRoutes, List, Matches, Original, Route, RoutedBlock, Row, Some, [], all_keys, among_contains, among_map, ap, arith, by_row, contains_among, find-append}
use Rattle.table_rules.proofs.Common.{first_with, map, map_among, option_or, others, pieces_of, refl, row_by, same_Some, served, subst, sym, takes_key, wall_of, walled, ℕ, ◌<◌, ◌^◌, ◌∙◌, ◌∷◌, ◌≡◌}
use Rattle.table_rules.proofs.{Faithful.is_served, Faithful.keeps, Faithful.made_is_sound, FirstRows.first_hit, FirstRows.first_next, Joins.AreApart, Joins.of_others, Joins.piece_goes}
use Rattle.table_rules.proofs.{Joins.piece_is_missed, Joins.to_others, Sounds.GoesWhere, Sounds.all_go, Walls.all_match, Walls.found_holds}

-- what is so of the covered rows and of the joined ones is so of the shorter
pub shorter_has : (P : List RoutedBlock → Type 0) (target : ℕ) (own pieces covered new : List RoutedBlock) → IsShorterOf target own pieces covered new → P covered
    → ((joined : List RoutedBlock) → AreJoinedRows own pieces joined → P joined) → P new
shorter_has P target own pieces covered new its_6 this other = grind arith

-- a piece of the table has the key, and the route
record HasPieceBy (table : List Row) (k : ℕ) (route : Route) : Type 0 where
  pub piece : RoutedBlock
  pub among : Among piece (pieces_of table)
  pub has : Matches piece.block k
  pub by : piece.route ≡ route

routed_there : (own : List RoutedBlock) (routes : List Route) → AreRoutesOf own routes → (p : RoutedBlock) → Among p own → Among p.route routes
routed_there own routes are p among =
    let place = among_contains p own among in
    contains_among p.route routes (subst (λ (q : RoutedBlock). Contains routes q.route) place.2 (are.each place.0 p place.1))

module _ (room : ℕ) (given : List RoutedBlock) (table : List Row) (made : IsTableMadeOf room given table) where
  goes_at : (o : Original) → Among o (served table) → GoesWhere table o
  goes_at o among = grind (arith, among_contains, GoesWhere, all_go, made_is_sound)

  apart : AreApart (pieces_of table)
  apart p q of_p of_q other meet =
      let o = among_map (λ (x : Original). row_by x.route x.block) p (served table) of_p in
      let u = among_map (λ (x : Original). row_by x.route x.block) q (served table) of_q in
      let one = goes_at o.0 o.1 meet.key meet.small (subst (λ (x : RoutedBlock). Matches x.block meet.key) o.2 meet.first) in
      let two = goes_at u.0 u.1 meet.key meet.small (subst (λ (x : RoutedBlock). Matches x.block meet.key) u.2 meet.second) in
      let same = same_Some one.row two.row (sym one.first ∙ two.first) in
      other (ap (λ (x : RoutedBlock). x.route.bits) o.2
      ∙ (ap (λ (r : Route). r.bits) (sym one.by)
      ∙ (ap (λ (x : RoutedBlock). x.route.bits) same
      ∙ (ap (λ (r : Route). r.bits) two.by
      ∙ ap (λ (x : RoutedBlock). x.route.bits) (sym u.2)))))

  piece_for : (k : ℕ) (row : RoutedBlock) → k < 2 ^ 32 → first_with given k ≡ Some row → HasPieceBy table k row.route
  piece_for k row small first =
      let it = is_served room given table table made (IsPermutation-refl (served table)) k row small first in record {
        piece = row_by it.original.route it.original.block;
        among = map_among (λ (x : Original). row_by x.route x.block) it.original (served table) (contains_among it.original (served table) it.among);
        has = it.has;
        by = it.by;
      }

  -- a piece that is an own one goes by its route
  goes_on : (own rows : List RoutedBlock) → AreJoinedRows own (pieces_of table) rows → (k : ℕ) (route : Route) → k < 2 ^ 32 → (it : HasPieceBy table k route) → Among it.piece own → GoesBy rows k route
  goes_on own rows are k route small it among =
      let way = piece_goes it.piece k small it.has are.routes (pieces_of table) apart it.among (routed_there own are.routes are.by_weight it.piece among) in
      record { row = way.row; first = ap (λ l. first_with l k) are.are ∙ way.first; by = way.by ∙ it.by }

  pub joined_keeps : (rows : List RoutedBlock) → AreJoinedRows (pieces_of table) (pieces_of table) rows → KeepsRoutes given rows
  joined_keeps rows are k row small first =
      let it = piece_for k row small first in by_row (goes_on (pieces_of table) rows are k row.route small it it.among)

-- what is shorter than the rows that cover a table, by the lists that the code has
module _ (room : ℕ) (given : List RoutedBlock) (table rows : List Row) (made : IsTableMadeOf room given table) (sound : IsSound rows) (serves : IsPermutation (served table) (served rows)) where
  pub short_keeps : (target : ℕ) (list : List Row) (pieces left new : List RoutedBlock) → list ≡ rows → AreLeft list left → pieces ≡ pieces_of table → IsShorterOf target pieces pieces left new → KeepsRoutes given new
  short_keeps target list pieces left new same are pieces_are of =
      shorter_has (KeepsRoutes given) target pieces pieces left new of
      (keeps room given table rows left made sound serves (subst (λ l. AreLeft l left) same are))
      (λ joined joins. joined_keeps room given table made joined (subst (λ l. AreJoinedRows l l joined) pieces_are joins))

module _ (room : ℕ) (given : List RoutedBlock) (route : Route) (table : List Row) (made : IsTableMadeOf room (walled given route) table) (rows : List RoutedBlock) (are : AreJoinedRows (others route (pieces_of table)) (pieces_of table) rows) where
  pub joined_keeps_within : IsFree given route.bits → KeepsRoutes given rows
  joined_keeps_within free k row small first =
      let it = piece_for room (walled given route) table made k row small (find-append (takes_key k) given (wall_of route ∷ []) ∙ ap (λ o. option_or o (first_with (wall_of route ∷ []) k)) first) in
      let other = found_holds route.bits (λ (r : RoutedBlock). r.route.bits ≡ route.bits → ⊥) given k row free first in
      by_row (goes_on room (walled given route) table made (others route (pieces_of table)) rows are k row.route small it
      (to_others route (pieces_of table) it.piece it.among (λ is. other (ap (λ (r : Route). r.bits) (sym it.by) ∙ is))))

  no_route_of_wall : (r : Route) → Among r are.routes → r.bits ≡ route.bits → ⊥
  no_route_of_wall r among is =
      let place = among_contains r are.routes among in
      let of = map (λ (p : RoutedBlock). p.route) (others route (pieces_of table)) in
      let has = contains_among r of (subst (Contains of) place.2 (are.by_weight.only place.0 r place.1)) in
      let it = among_map (λ (p : RoutedBlock). p.route) r (others route (pieces_of table)) has in
      (of_others route (pieces_of table) it.0 it.1).1 (ap (λ (x : Route). x.bits) (sym it.2) ∙ is)

  pub joined_has_no_more : HasNoNewKeys given rows
  joined_has_no_more k small none =
      let it = piece_for room (walled given route) table made k (wall_of route) small (first_next given (wall_of route ∷ []) k none ∙ first_hit (wall_of route) [] k (all_match all_keys k refl)) in
      ap (λ l. first_with l k) are.are
      ∙ piece_is_missed it.piece k small it.has are.routes (pieces_of table) (apart room (walled given route) table made) it.among
      (λ r among is. no_route_of_wall r among (sym is ∙ ap (λ (x : Route). x.bits) it.by))

-- the same, by the lists that the code has
module _ (room : ℕ) (given : List RoutedBlock) (route : Route) (table : List Row) (made : IsTableMadeOf room (walled given route) table) (own pieces joined : List RoutedBlock) (own_is : own ≡ others route (pieces_of table)) (pieces_are : pieces ≡ pieces_of table)
    (are : AreJoinedRows own pieces joined) where
  are_joined : AreJoinedRows (others route (pieces_of table)) (pieces_of table) joined
  are_joined = subst (λ l. AreJoinedRows (others route (pieces_of table)) l joined) pieces_are (subst (λ l. AreJoinedRows l pieces joined) own_is are)

  pub joined_says : IsFree given route.bits → KeepsRoutes given joined × HasNoNewKeys given joined
  joined_says free = (joined_keeps_within room given route table made joined are_joined free, joined_has_no_more room given route table made joined are_joined)
