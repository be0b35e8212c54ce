-- In the kept rows of a sound table, all keys of an alias get its row's route: by its row, inside which it lies, or by default.
use Rattle.plan_check.proofs.Common.{Alias, All-cons, All-map, AreKept, Block, Entry, GetsRoute, Intersects, IsSound, IsStrippable, KeptFrom, LiesIn, LiesInside, List, Meets, Port, Route, Row, Some}
use Rattle.plan_check.proofs.Common.{ap, arith, bit_and, cases_lt, cons_option, default_route, ends, entry_of, eq-eqb, eqb-true, get_or, get_or_from_slice_get, goes, inl, inr, key_small, length, map}
use Rattle.plan_check.proofs.Common.{refl, rows_at, slice_get, stays, subst, suc, sym, zero, ℕ, ◌<◌, ◌∙◌, ◌∷◌, ◌≡◌, ◌≤◌}

-- a row's entry meets a block where the blocks meet
entry_meets : (r : Row) (b : Block) → Meets b (entry_of r) → Intersects r.block b
entry_meets r b met = grind (arith, eqb-true (bit_and met.key r.block.mask) r.block.key met.matched)

-- a block that lies in a row's block lies inside its entry, and meets it
entry_holds : (r : Row) (b : Block) → LiesIn b r.block → LiesInside b (entry_of r)
entry_holds r b inside key of = eq-eqb (bit_and key r.block.mask) r.block.key (inside key of.fits of.matches)

held_meets : (r : Row) (b : Block) → LiesIn b r.block → Meets b (entry_of r)
held_meets r b inside = grind (arith, key_small b, entry_holds r b inside b.key (record { fits = key_small b; matches = b.within }))

-- behind a row that does not meet the block, the same
gets_later : (b : Block) (e : Entry) (rows : List Entry) (port : Port) (r : Route) → (Meets b e → ⊥) → GetsRoute b rows port r → GetsRoute b (e ∷ rows) port r
gets_later b e rows port r apart (inl by) = inl (suc by.0, by.1, record { there = by.2.there; meets = by.2.meets; first = first }, by.3, by.4)
  where
    first : (k : ℕ) (x : Entry) → k < suc by.0 → slice_get (e ∷ rows) k ≡ Some x → Meets b x → ⊥
    first zero x less at met = let same : Some e ≡ Some x = at in let one : e ≡ x = cc in apart (subst (Meets b) (sym one) met)
    first (suc k) x less at met = by.2.first k x (omega (arith, less)) at met
gets_later b e rows port r apart (inr none) = inr (All-cons (λ x. Meets b x → ⊥) e rows apart none.0, none.1)

gets_first : (b : Block) (r : Row) (rows : List Entry) (port : Port) → LiesIn b r.block → GetsRoute b (entry_of r ∷ rows) port r.route
gets_first b r rows port inside = inl (0, entry_of r, record { there = refl; meets = held_meets r b inside; first = λ k x less. absurd (omega (arith, less)) }, entry_holds r b inside, refl)

module _ (rows : List Row) (sound : IsSound rows) where
  -- what is claimed of the aliases of the rows from place i on
  abbrev GetsFrom : ℕ → List ℕ → Type 0
  GetsFrom i kept =
      (j : ℕ) (d : Row) → i ≤ j → j < length rows → (m : ℕ) (e : Alias) → m < length (get_or rows j d).aliases →
      GetsRoute (get_or (get_or rows j d).aliases m e).block (map entry_of (rows_at rows kept)) (get_or (get_or rows j d).aliases m e).port (get_or rows j d).route

  gets_from : (i : ℕ) (kept : List ℕ) → KeptFrom rows i kept → GetsFrom i kept
  gets_from i kept ends j d from within m e inside = absurd (omega (arith, from, within))
  gets_from i kept (goes n row rest here strip later) j d from within m e inside = elim (cases_lt n j) [
    | inl behind ↦ gets_from (suc n) rest later j d (omega (arith, behind)) within m e inside
    | inr first ↦
        let same : n ≡ j = omega (arith, from, first) in
        let is : get_or rows j d ≡ row = ap (λ x. get_or rows x d) (sym same) ∙ get_or_from_slice_get rows n row d here in
        stripped (get_or rows j d) (sym is) m e inside
  ]
    where
      stripped : (r : Row) → row ≡ r → (m : ℕ) (e : Alias) → m < length r.aliases →
          GetsRoute (get_or r.aliases m e).block (map entry_of (rows_at rows rest)) (get_or r.aliases m e).port r.route
      stripped r is m e inside =
          let strips = subst (λ x. IsStrippable x (rows_at rows rest)) is strip in
          let a : Alias = get_or r.aliases m e in
          inr (
            All-map (λ x. Meets a.block x → ⊥) entry_of (rows_at rows rest)
                (λ k f among met. strips.clear k f among m e inside (entry_meets (get_or (rows_at rows rest) k f) a.block met)),
            strips.route ∙ sym (ap default_route (strips.arrives m e inside)),
          )
  gets_from i kept (stays n row rest here keep later) j d from within m e inside = elim (cases_lt n j) [
    | inl behind ↦
        let first : rows_at rows (n ∷ rest) ≡ row ∷ rows_at rows rest = ap (λ o. cons_option o (rows_at rows rest)) here in
        let at : get_or rows n d ≡ row = get_or_from_slice_get rows n row d here in
        let a : Alias = get_or (get_or rows j d).aliases m e in
        subst (λ l. GetsRoute a.block (map entry_of l) a.port (get_or rows j d).route) (sym first)
        (gets_later a.block (entry_of row) (map entry_of (rows_at rows rest)) a.port (get_or rows j d).route
        (λ met. sound.unmet n j d behind within m e inside (subst (λ (x : Row). Intersects x.block a.block) (sym at) (entry_meets row a.block met)))
        (gets_from (suc n) rest later j d (omega (arith, behind)) within m e inside))
    | inr before ↦
        let same : n ≡ j = omega (arith, from, before) in
        let first : rows_at rows (n ∷ rest) ≡ row ∷ rows_at rows rest = ap (λ o. cons_option o (rows_at rows rest)) here in
        let is : row ≡ get_or rows j d = sym (get_or_from_slice_get rows n row d here) ∙ ap (λ x. get_or rows x d) same in
        let a : Alias = get_or (get_or rows j d).aliases m e in
        subst (λ l. GetsRoute a.block (map entry_of l) a.port (get_or rows j d).route) (sym first)
        (subst (λ (x : Row). GetsRoute a.block (map entry_of (row ∷ rows_at rows rest)) a.port x.route) is
        (gets_first a.block row (map entry_of (rows_at rows rest)) a.port (subst (λ (x : Row). LiesIn a.block x.block) (sym is) (sound.inside j d within m e inside))))
  ]

  pub kept_gets : (kept : List ℕ) → AreKept rows kept → GetsFrom 0 kept
  kept_gets kept are j d from within m e inside = gets_from 0 kept are j d from within m e inside
