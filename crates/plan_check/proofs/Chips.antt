-- What is amiss with a net, chip by chip in the order of their indices, and net by net.
use Rattle.plan_check.proofs.Common.{All, All-head, All-nil, All-tail, AreFineBefore, Bool, Chip, ChipTable, Description, Entry, Flaw, HasChip, Image, IsAmissAt, IsFine, IsFineAll, IsFineBelow}
use Rattle.plan_check.proofs.Common.{IsFirstFlaw, IsFlaw, IsInside, IsRouted, IsRow, IsTable, IsValid, IsVerdict, List, NetPlan, None, Option, Port, Route, Some, Split, TellsPort, TellsPorts}
use Rattle.plan_check.proofs.Common.{TellsRoutes, Verdict, Wrong, [], ap, arith, cases_lt, chips_inside, comes_in_tree, cond, false, get_or, get_or_default, index_below, index_of, inl, inr, length}
use Rattle.plan_check.proofs.Common.{none-some, nothing, refl, rows_for, rows_of_index, same_outputs, slice_get, slice_get-get_or, subst, sym, table_index, true, verdict_on, ℕ, ◌*◌, ◌+◌, ◌<◌, ◌==◌}
use Rattle.plan_check.proofs.Common.{◌∙◌, ◌∷◌, ◌≡◌, ◌≤◌}

-- ---- the rows of a valid image

rows_valid_in : (height width up : ℕ) (tables : List ChipTable) (i : ℕ) → All (IsTable width up) tables → All IsRow (rows_of_index height tables i) × (length (rows_of_index height tables i) ≤ 1024)
rows_valid_in height width up [] i all = (All-nil IsRow, omega arith)
rows_valid_in height width up (t ∷ tables) i all = by (table_index height t == i) (rows_valid_in height width up tables i (All-tail (IsTable width up) t tables all))
  where
    mine : IsTable width up t
    mine = All-head (IsTable width up) t tables all

    by : (b : Bool) → All IsRow (rows_of_index height tables i) × (length (rows_of_index height tables i) ≤ 1024) →
        All IsRow (cond b t.entries (rows_of_index height tables i)) × (length (cond b t.entries (rows_of_index height tables i)) ≤ 1024)
    by true rest = (mine.rows, mine.some_rows.1)
    by false rest = rest

pub rows_valid : (v : Image) (rows : List Entry) (i : ℕ) → IsValid v → rows ≡ rows_of_index v.height v.chips i → All IsRow rows
rows_valid v rows i valid is = subst (All IsRow) (sym is) (rows_valid_in v.height v.width v.height v.chips i valid.tables).0

pub rows_few : (v : Image) (rows : List Entry) (i : ℕ) → IsValid v → rows ≡ rows_of_index v.height v.chips i → length rows ≤ 1024
rows_few v rows i valid is = subst (λ (l : List Entry). length l ≤ 1024) (sym is) (rows_valid_in v.height v.width v.height v.chips i valid.tables).1

-- ---- one chip

module _ (m : Description) (v : Image) (net : NetPlan) (routed : IsRouted m net) (ports : List (Option Port)) (routes : List Route)
    (told : TellsPorts m net.tree.root net.tree.edges ports) (outputs : TellsRoutes m net.tree.edges net.targets routes) where
  -- a flaw that is found at a chip is one of the net there
  flawed : (c : Chip) (inside : IsInside m c) (o : Option Port) → TellsPort m net.tree.root net.tree.edges c o → (flaw : Flaw) →
      IsAmissAt net.block (rows_for m v c) o (get_or routes (index_of m c) nothing) (Some flaw) → HasChip m net c × IsFlaw m v net c flaw
  flawed c inside None off flaw none = absurd (none-some flaw (sym none))
  flawed c inside (Some port) comes Wrong amiss = (
    comes_in_tree m net.tree.root net.tree.edges c port comes,
    record {
      port = port;
      comes_in = comes;
      route = amiss.0;
      gets = amiss.1;
      is = λ tree. amiss.2 (same_outputs amiss.0 (get_or routes (index_of m c) nothing) (λ o valid. tree o valid ∙ sym (outputs c o inside valid)));
    },
  )
  flawed c inside (Some port) comes (Split place) amiss = (comes_in_tree m net.tree.root net.tree.edges c port comes, amiss)

  -- where none is found the net is fine, if its tree has the chip
  fine : (c : Chip) (inside : IsInside m c) (o : Option Port) → TellsPort m net.tree.root net.tree.edges c o →
      IsAmissAt net.block (rows_for m v c) o (get_or routes (index_of m c) nothing) None → HasChip m net c → IsFine m v net c
  fine c inside None off none on = absurd (off on)
  fine c inside (Some port) comes gets on = record {
    port = port;
    comes_in = comes;
    route = get_or routes (index_of m c) nothing;
    gets = gets;
    is = λ o valid. outputs c o inside valid;
  }

  on_grid : (c : Chip) → HasChip m net c → IsInside m c
  on_grid c on = chips_inside m net.tree.root net.tree.edges net.targets routed.tree routed.root c on

  -- the port, the route and the rows at an index are those of the chip of that index
  module _ (i : ℕ) (rows : List Entry) (port : Option Port) (wanted : Route) (in_ports : i < length ports) (in_routes : i < length routes)
      (rows_are : rows ≡ rows_of_index v.height v.chips i) (port_is : port ≡ get_or ports i port) (wanted_is : wanted ≡ get_or routes i wanted) where
    at_chip : (o : Option Flaw) (c : Chip) → index_of m c ≡ i → IsAmissAt net.block rows port wanted o →
        IsAmissAt net.block (rows_for m v c) (get_or ports (index_of m c) None) (get_or routes (index_of m c) nothing) o
    at_chip o c at amiss = grind (arith, get_or_default ports i port None in_ports, get_or_default routes i wanted nothing in_routes, get_or ports (index_of m c) None)

    pub flaw_found : (c : Chip) (flaw : Flaw) → IsInside m c → index_of m c ≡ i → IsAmissAt net.block rows port wanted (Some flaw) → IsFineBelow m v net i →
        HasChip m net c × IsFlaw m v net c flaw × IsFineBelow m v net (index_of m c)
    flaw_found c flaw inside at amiss before =
        let found = flawed c inside (get_or ports (index_of m c) None) (told c inside) flaw (at_chip (Some flaw) c at amiss) in
        (found.0, found.1, subst (IsFineBelow m v net) (sym at) before)

    pub fine_more : (o : Option Flaw) → o ≡ None → IsAmissAt net.block rows port wanted o → IsFineBelow m v net i → IsFineBelow m v net (i + 1)
    fine_more o none amiss before d on less = elim (cases_lt (index_of m d) i) [
      | inl earlier ↦ before d on earlier
      | inr later ↦
          let at : index_of m d ≡ i = omega (arith, less, later) in
          let inside = on_grid d on in
          fine d inside (get_or ports (index_of m d) None) (told d inside) (at_chip None d at (subst (IsAmissAt net.block rows port wanted) none amiss)) on
    ]

  pub fine_to_the_end : (i : ℕ) → m.width * m.height ≤ i → IsFineBelow m v net i → IsFineAll m v net
  fine_to_the_end i past before c on = grind (arith, index_below m c (on_grid c on), on_grid c on)

-- ---- one net after the other

-- the nets before place i are fine
abbrev pub AreFine : Description → Image → List NetPlan → ℕ → Type 0
AreFine m v nets i = (j : ℕ) (other : NetPlan) → j < i → slice_get nets j ≡ Some other → IsFineAll m v other

module _ (m : Description) (v : Image) (nets : List NetPlan) (i : ℕ) (net : NetPlan) (below : i < length nets) (read : net ≡ get_or nets i net) where
  here : slice_get nets i ≡ Some net
  here = slice_get-get_or nets i net below ∙ ap Some (sym read)

  pub nets_more : (o : Option (Chip × Flaw)) → o ≡ None → IsFirstFlaw m v net o → AreFine m v nets i → AreFine m v nets (i + 1)
  nets_more o none flaws before j other less at = grind (arith, cases_lt j i, here)

  pub verdict_found : (o : Option (Chip × Flaw)) (c : Chip) (flaw : Flaw) (verdict : Verdict) → o ≡ Some (c, flaw) → IsFirstFlaw m v net o → AreFine m v nets i →
      verdict ≡ verdict_on i c net.block.key flaw → IsVerdict m nets v verdict
  verdict_found o c flaw verdict some flaws before is = subst (IsVerdict m nets v) (sym is) (by flaw (subst (IsFirstFlaw m v net) some flaws))
    where
      first : (g : Flaw) → IsFirstFlaw m v net (Some (c, g)) → AreFineBefore m v nets i net c
      first g known = record { there = here; on_tree = known.0; nets_before = before; chips_before = known.2 }

      by : (g : Flaw) → IsFirstFlaw m v net (Some (c, g)) → IsVerdict m nets v (verdict_on i c net.block.key g)
      by Wrong known = (net, first Wrong known, known.1, refl)
      by (Split place) known = (net, first (Split place) known, known.1)

pub all_fine : (m : Description) (v : Image) (nets : List NetPlan) (i : ℕ) → length nets ≤ i → AreFine m v nets i → All (IsFineAll m v) nets
all_fine m v nets i past before k d below = before k (get_or nets k d) (omega (arith, below, past)) (slice_get-get_or nets k d below)
