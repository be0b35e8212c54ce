-- The rows that default routing does not replace send the packets of all.
use Rattle.table_rules.proofs.Common.{Alias, All, All-cons, All-flat_map, All-map, All-nil, AreKept, Block, IsSound, IsStrippable, KeptFrom, LeaveBy, List, Matches, None, Original, Port, Route}
use Rattle.table_rules.proofs.Common.{RoutedBlock, Row, ap, arith, by_default, by_row, cases_lt, cons_option, ends, first_with, get_or, get_or_from_slice_get, goes, inl, inr, length, map, routed}
use Rattle.table_rules.proofs.Common.{rows_at, served, served_by, slice_get_within, stays, subst, suc, sym, ℕ, ◌<◌, ◌^◌, ◌∙◌, ◌∷◌, ◌≡◌, ◌≤◌}
use Rattle.table_rules.proofs.FirstRows.{first_hit, first_miss, none_first}

-- where no row has the key, none is the first
pub none_of : (rows : List Row) (k : ℕ) → All (λ (r : Row). Matches r.block k → ⊥) rows → first_with (map routed rows) k ≡ None
none_of rows k none = none_first _ _ (All-map (λ (b : Block). Matches b k → ⊥) (λ (r : RoutedBlock). r.block) _ (All-map (λ (r : RoutedBlock). Matches r.block k → ⊥) _ _ none))

-- a row in front that has not the key changes nothing
sent_behind : (r : RoutedBlock) (rows : List RoutedBlock) (k : ℕ) (port : Port) (route : Route) → (Matches r.block k → ⊥) → LeaveBy rows k port route → LeaveBy (r ∷ rows) k port route
sent_behind r rows k port route miss (by_row way) = by_row (record { row = way.row; first = first_miss r rows k miss ∙ way.first; by = way.by })
sent_behind r rows k port route miss (by_default arrival comes on none) = by_default arrival comes on (first_miss r rows k miss ∙ none)

-- kept places are places of rows
pub kept_within : (rows : List Row) (i : ℕ) (kept : List ℕ) → KeptFrom rows i kept → All (λ s. s < length rows) kept
kept_within rows i kept ends = All-nil (λ s. s < length rows)
kept_within rows i kept (goes n row rest here strip later) = kept_within rows (suc n) rest later
kept_within rows i kept (stays n row rest here keep later) = All-cons (λ s. s < length rows) n rest (slice_get_within rows n row here) (kept_within rows (suc n) rest later)

-- the packets of an original block are sent on
abbrev pub IsSentOn : List RoutedBlock → Original → Type 0
IsSentOn left o = (k : ℕ) → k < 2 ^ 32 → Matches o.block k → LeaveBy left k o.port o.route

module _ (rows : List Row) (sound : IsSound rows) where
  -- what is claimed of the rows from place i on
  abbrev SentFrom : ℕ → List ℕ → Type 0
  SentFrom i kept =
      (j : ℕ) (d : Row) → i ≤ j → j < length rows → (m : ℕ) (e : Alias) → m < length (get_or rows j d).aliases
      → (k : ℕ) → k < 2 ^ 32 → Matches (get_or (get_or rows j d).aliases m e).block k
      → LeaveBy (map routed (rows_at rows kept)) k (get_or (get_or rows j d).aliases m e).port (get_or rows j d).route

  sent_from : (i : ℕ) (kept : List ℕ) → KeptFrom rows i kept → SentFrom i kept
  sent_from i kept ends j d from within m e inside k small hit = absurd (omega arith)
  sent_from i kept (goes n row rest here strip later) j d from within m e inside k small hit = elim (cases_lt n j) [
    | inl behind ↦ sent_from (suc n) rest later j d behind within m e inside k small hit
    | inr first ↦
        let same : n ≡ j = omega arith in
        let is : row ≡ get_or rows j d = sym (get_or_from_slice_get rows n row d here) ∙ ap (λ x. get_or rows x d) same in
        let strips = subst (λ x. IsStrippable x (rows_at rows rest)) is strip in
        by_default strips.arrival (strips.arrives m e inside) strips.route
        (none_of (rows_at rows rest) k (λ n f among met. strips.clear n f among m e inside (record { key = k; small = small; first = met; second = hit })))
  ]
  sent_from i kept (stays n row rest here keep later) j d from within m e inside k small hit = elim (cases_lt n j) [
    | inl behind ↦
        let first : rows_at rows (n ∷ rest) ≡ row ∷ rows_at rows rest = ap (λ o. cons_option o (rows_at rows rest)) here in
        let at : get_or rows n d ≡ row = get_or_from_slice_get rows n row d here in
        subst (λ l. LeaveBy (map routed l) k (get_or (get_or rows j d).aliases m e).port (get_or rows j d).route) (sym first)
        (sent_behind (routed row) (map routed (rows_at rows rest)) k (get_or (get_or rows j d).aliases m e).port (get_or rows j d).route
        (λ met. sound.unmet n j d behind within m e inside (record { key = k; small = small; first = subst (λ (x : Row). Matches x.block k) (sym at) met; second = hit }))
        (sent_from (suc n) rest later j d behind within m e inside k small hit))
    | inr before ↦
        let same : n ≡ j = omega arith in
        let first : rows_at rows (n ∷ rest) ≡ row ∷ rows_at rows rest = ap (λ o. cons_option o (rows_at rows rest)) here in
        let is : row ≡ get_or rows j d = sym (get_or_from_slice_get rows n row d here) ∙ ap (λ x. get_or rows x d) same in
        by_row (record {
          row = routed row;
          first = ap (λ l. first_with (map routed l) k) first
              ∙ first_hit (routed row) (map routed (rows_at rows rest)) k (subst (λ (x : Row). Matches x.block k) (sym is) (sound.inside j d within m e inside k small hit));
          by = ap (λ (x : Row). x.route) is;
        })
  ]

  pub all_sent : (kept : List ℕ) → AreKept rows kept → All (IsSentOn (map routed (rows_at rows kept))) (served rows)
  all_sent kept are =
      let P = IsSentOn (map routed (rows_at rows kept)) in
      All-flat_map P served_by rows (λ j d within.
      let r = get_or rows j d in
      All-map P (λ (a : Alias). let o : Original = record { block = a.block; port = a.port; route = r.route } in o) r.aliases (λ m e inside k small hit. sent_from 0 kept are j d (omega arith) within m e inside k small hit))
