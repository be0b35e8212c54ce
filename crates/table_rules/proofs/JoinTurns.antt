-- One block more, one route more.
use Rattle.table_rules.proofs.Common.{Alias, Among, Block, List, Original, Route, RoutedBlock, Row, [], ap, append_assoc, arith, cases_Bool, drop, drop_more, false, get_or, inl, inr, joined_blocks}
use Rattle.table_rules.proofs.Common.{length, map, meets_one, merge_two, not, others, own_blocks, refl, row_by, rows_by_routes, served_by, set, suc, sym, take, take_all, true, with_block, zero, ℕ}
use Rattle.table_rules.proofs.Common.{◌++◌, ◌+◌, ◌<◌, ◌∙◌, ◌∷◌, ◌≡◌, ◌≤◌}

-- ---- a block is put

module _ (behind : List RoutedBlock) (block : Block) where
  pub taken_in : (blocks : List Block) (at : ℕ) (d : Block) → at < length blocks → not (meets_one behind (merge_two (get_or blocks at d) block)) ≡ true
      → ((k : ℕ) → k < at → not (meets_one behind (merge_two (get_or blocks k d) block)) ≡ false) → set blocks at (merge_two (get_or blocks at d) block) ≡ with_block behind blocks block
  taken_in [] at d inside takes before = absurd (omega (arith, inside))
  taken_in (b ∷ blocks) zero d inside takes before = grind arith
  taken_in (b ∷ blocks) (suc at) d inside takes before = grind (arith, before 0, taken_in blocks at d (omega (arith, inside)) takes (λ k less. before (suc k) (omega (arith, less))))

  pub put_at_end : (blocks : List Block) → ((b : Block) → Among b blocks → not (meets_one behind (merge_two b block)) ≡ true → ⊥) → blocks ++ block ∷ [] ≡ with_block behind blocks block
  put_at_end [] none = refl
  put_at_end (b ∷ blocks) none = grind (arith, cases_Bool (meets_one behind (merge_two b block)), none b (inl refl), put_at_end blocks (λ x among. none x (inr among)))

-- ---- the pieces of rows

module _ (row : Row) (items : List Alias) (i : ℕ) (before old : List RoutedBlock) (so_far : old ≡ before ++ map (λ (a : Alias). row_by row.route a.block) (take i items)) where
  pub aliases_all : items ≡ row.aliases → length items ≤ i → old ≡ before ++ map (λ (o : Original). row_by o.route o.block) (served_by row)
  aliases_all same past =
      so_far ∙ ap (λ l. before ++ l) (ap (map (λ (x : Alias). row_by row.route x.block)) (take_all i items past ∙ same) ∙ in_two row.aliases)
    where
      in_two : (list : List Alias) → map (λ (x : Alias). row_by row.route x.block) list
          ≡ map (λ (o : Original). row_by o.route o.block) (map (λ (a : Alias). let o : Original = record { block = a.block; port = a.port; route = row.route } in o) list)
      in_two [] = refl
      in_two (a ∷ list) = ap (λ l. row_by row.route a.block ∷ l) (in_two list)

-- ---- rows of routes

module _ (routes : List Route) (i : ℕ) (rows left all : List RoutedBlock) (so_far : rows ++ rows_by_routes (drop i routes) left ≡ all) where
  pub routes_more : (route : Route) (behind : List RoutedBlock) (own joined : List Block) (new : List RoutedBlock) → i < length routes → route ≡ get_or routes i route → behind ≡ others route left
      → own ≡ own_blocks route left → joined ≡ joined_blocks behind own → new ≡ rows ++ map (row_by route) joined → new ++ rows_by_routes (drop (i + 1) routes) behind ≡ all
  routes_more route behind own joined new within read behind_is own_is joined_is put =
      ap (λ l. l ++ rows_by_routes (drop (i + 1) routes) behind) (put ∙ ap (λ l. rows ++ map (row_by route) l) (joined_is ∙ ap (joined_blocks behind) own_is))
      ∙ (append_assoc rows (map (row_by route) (joined_blocks behind (own_blocks route left))) (rows_by_routes (drop (i + 1) routes) behind)
      ∙ (ap (λ b. rows ++ (map (row_by route) (joined_blocks b (own_blocks route left)) ++ rows_by_routes (drop (i + 1) routes) b)) behind_is
      ∙ (ap (λ l. rows ++ rows_by_routes l left) (ap (λ r. r ∷ drop (i + 1) routes) read ∙ sym (drop_more routes i route within))
      ∙ so_far)))
