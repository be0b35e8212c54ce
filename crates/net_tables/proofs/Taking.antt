-- What stands on the boards is moved to the lists, place by place.
use Rattle.net_tables.proofs.Common.{Block, Chip, Contains-none, Description, Edge, GainsMark, IsBlank, IsClearOff, IsInside, IsTreeChip, List, Mark, NetPlan, None, Option, Port, Route, Some}
use Rattle.net_tables.proofs.Common.{TellsPort, TellsPorts, TellsRoutes, [], ap, cases_eq, end_of, get_or, get_or-set_other, get_or-set_same, index_of, inl, inr, length, length-set, none-some}
use Rattle.net_tables.proofs.Common.{nothing, refl, same_Some, set, subst, sym, take, take_all, tree_cases, tree_push_cases, with_mark, ℕ, ◌*◌, ◌+◌, ◌<◌, ◌∙◌, ◌≡◌, ◌≢◌, ◌≤◌, ◌⊎◌}
use Rattle.net_tables.proofs.{Telling.reads, Trees.comes_in_tree, Trees.grows}

-- the boards and the lists at one moment
pub record Stand : Type 0 where
  pub ports : List (Option Port)
  pub routes : List Route
  pub lists : List (List Mark)

-- what the boards had at place i stands in the list there, and the place is clear
pub record IsDone (block : Block) (from s : Stand) (i : ℕ) : Type 0 where
  pub port : get_or s.ports i None ≡ None
  pub route : get_or s.routes i nothing ≡ nothing
  pub list : get_or s.lists i [] ≡ with_mark block (get_or from.ports i None) (get_or from.routes i nothing) (get_or from.lists i [])

-- place i is as it was
pub record IsLeft (from s : Stand) (i : ℕ) : Type 0 where
  pub port : get_or s.ports i None ≡ get_or from.ports i None
  pub route : get_or s.routes i nothing ≡ get_or from.routes i nothing
  pub list : get_or s.lists i [] ≡ get_or from.lists i []

-- Each place is done, or is left and is not the place of one of these chips.
pub record IsTaken (m : Description) (Is : Chip → Type 0) (block : Block) (from s : Stand) : Type 0 where
  pub ports_long : length s.ports ≡ length from.ports
  pub routes_long : length s.routes ≡ length from.routes
  pub lists_long : length s.lists ≡ length from.lists
  pub each : (i : ℕ) → IsDone block from s i ⊎ (IsLeft from s i × ((c : Chip) → Is c → index_of m c ≢ i))

-- the boards and the lists have the place
pub record Has (s : Stand) (p : ℕ) : Type 0 where
  pub ports : p < length s.ports
  pub routes : p < length s.routes
  pub lists : p < length s.lists

-- boards and lists that are as after a place was taken
pub record IsAfter (block : Block) (p : ℕ) (s t : Stand) : Type 0 where
  pub ports : t.ports ≡ set s.ports p None
  pub routes : t.routes ≡ set s.routes p nothing
  pub lists : t.lists ≡ set s.lists p (with_mark block (get_or s.ports p None) (get_or s.routes p nothing) (get_or s.lists p []))

module _ (block : Block) (from s t : Stand) (p : ℕ) (within : Has s p) (is : IsAfter block p s t) where
  -- the place that was taken is done, also where it was done before
  done_at : {X : Type 0} → IsDone block from s p ⊎ (IsLeft from s p × X) → IsDone block from t p
  done_at {X} before = record {
    port = ap (λ l. get_or l p None) is.ports ∙ get_or-set_same s.ports p None None within.ports;
    route = ap (λ l. get_or l p nothing) is.routes ∙ get_or-set_same s.routes p nothing nothing within.routes;
    list = ap (λ l. get_or l p []) is.lists ∙ (get_or-set_same s.lists p _ [] within.lists ∙ by before);
  }
    where
      by : IsDone block from s p ⊎ (IsLeft from s p × X) →
          with_mark block (get_or s.ports p None) (get_or s.routes p nothing) (get_or s.lists p [])
          ≡ with_mark block (get_or from.ports p None) (get_or from.routes p nothing) (get_or from.lists p [])
      by (inl was) = rw was.port was.list
      by (inr was) = rw (was.0.port, was.0.route, was.0.list) refl

  -- each other place is as it was
  left_at : (i : ℕ) → i ≢ p → IsLeft s t i
  left_at i other = record {
    port = ap (λ l. get_or l i None) is.ports ∙ get_or-set_other s.ports p i None None other;
    route = ap (λ l. get_or l i nothing) is.routes ∙ get_or-set_other s.routes p i nothing nothing other;
    list = ap (λ l. get_or l i []) is.lists ∙ get_or-set_other s.lists p i _ [] other;
  }

  -- so these chips may be more by those of this place
  taken_at : (m : Description) (Is More : Chip → Type 0) → ((c : Chip) → More c → Is c ⊎ (index_of m c ≡ p)) → IsTaken m Is block from s → IsTaken m More block from t
  taken_at m Is More chips so_far = record {
    ports_long = ap length is.ports ∙ (length-set s.ports p None ∙ so_far.ports_long);
    routes_long = ap length is.routes ∙ (length-set s.routes p nothing ∙ so_far.routes_long);
    lists_long = ap length is.lists ∙ (length-set s.lists p _ ∙ so_far.lists_long);
    each = λ i. elim (cases_eq i p) [
      | inl here ↦ inl (subst (IsDone block from t) (sym here) (done_at (so_far.each p)))
      | inr other ↦
          let kept : IsLeft s t i = left_at i other in
          elim (so_far.each i) [
            | inl was ↦ inl (record { port = kept.port ∙ was.port; route = kept.route ∙ was.route; list = kept.list ∙ was.list })
            | inr was ↦ inr (
              record { port = kept.port ∙ was.0.port; route = kept.route ∙ was.0.route; list = kept.list ∙ was.0.list },
              λ c more at. elim (chips c more) [
                | inl before ↦ was.1 c before at
                | inr here ↦ other (sym at ∙ here)
              ],
            )
          ]
    ];
  }

-- the root's place is taken first
pub taken_first : (m : Description) (root : Chip) (edges : List Edge) (block : Block) (from s : Stand) (p : ℕ) → p ≡ index_of m root → Has from p →
    IsAfter block p from s → IsTaken m (IsTreeChip m root (take 0 edges)) block from s
taken_first m root edges block from s p at within is = taken_at block from from s p within is m (λ c. ⊥) _ (λ c on. elim (tree_cases m root [] c on) [
  | inl here ↦ inr (ap (index_of m) here ∙ sym at)
  | inr into ↦ absurd (Contains-none into.0 into.1)
]) (record { ports_long = refl; routes_long = refl; lists_long = refl; each = λ i. inr (record { port = refl; route = refl; list = refl }, λ c none at. none) })

module _ (m : Description) (root : Chip) (items edges : List Edge) (i : ℕ) (d : Edge) (block : Block) (from s : Stand) (same : items ≡ edges) (below : i < length items) where
  -- a chip of the tree with one edge more, which is read from a list that is the tree's
  one_more : (c : Chip) → IsTreeChip m root (take (i + 1) edges) c → IsTreeChip m root (take i edges) c ⊎ (end_of m (get_or items i d) ≡ Some c)
  one_more c on = tree_push_cases m root (take i edges) (get_or items i d) c (subst (λ es. IsTreeChip m root es c) (reads items edges i d same below) on)

  -- the place of the far end of one more edge is taken
  pub taken_more : (far : Chip) (t : Stand) (p : ℕ) → end_of m (get_or items i d) ≡ Some far → p ≡ index_of m far → Has s p → IsAfter block p s t →
      IsTaken m (IsTreeChip m root (take i edges)) block from s → IsTaken m (IsTreeChip m root (take (i + 1) edges)) block from t
  taken_more far t p leads at within is = taken_at block from s t p within is m _ _ (λ c on. elim (one_more c on) [
    | inl before ↦ inl before
    | inr also ↦ inr (ap (index_of m) (same_Some c far (sym also ∙ leads)) ∙ sym at)
  ])

  -- one more edge leads nowhere
  pub taken_same : end_of m (get_or items i d) ≡ None → IsTaken m (IsTreeChip m root (take i edges)) block from s → IsTaken m (IsTreeChip m root (take (i + 1) edges)) block from s
  taken_same none so_far = record {
    ports_long = so_far.ports_long;
    routes_long = so_far.routes_long;
    lists_long = so_far.lists_long;
    each = λ k. elim (so_far.each k) [
      | inl was ↦ inl was
      | inr was ↦ inr (
        was.0,
        λ c on. elim (one_more c on) [
          | inl before ↦ was.1 c before
          | inr also ↦ absurd (none-some c (sym none ∙ also))
        ],
      )
    ];
  }

-- the edges were read to the end
pub taken_all : (m : Description) (root : Chip) (items edges : List Edge) (i : ℕ) (block : Block) (from s : Stand) → items ≡ edges → length items ≤ i →
    IsTaken m (IsTreeChip m root (take i edges)) block from s → IsTaken m (IsTreeChip m root edges) block from s
taken_all m root items edges i block from s same past =
    subst (λ es. IsTaken m (IsTreeChip m root es) block from s) (take_all i edges (subst (λ (es : List Edge). length es ≤ i) same past))

-- ---- once the whole tree was gone over

module _ (m : Description) (net : NetPlan) (from s : Stand) (told : TellsPorts m net.tree.root net.tree.edges from.ports) (off : IsClearOff m net from.routes)
    (all : IsTaken m (IsTreeChip m net.tree.root net.tree.edges) net.block from s) where
  -- a chip off the tree had nothing to be taken
  none_off : (c : Chip) → IsInside m c → IsLeft from s (index_of m c) → (IsTreeChip m net.tree.root net.tree.edges c → ⊥) → (o : Option Port) → get_or from.ports (index_of m c) None ≡ o →
      TellsPort m net.tree.root net.tree.edges c o → IsDone net.block from s (index_of m c)
  none_off c inside left away (Some port) is tells = absurd (away (comes_in_tree m net.tree.root net.tree.edges c port tells))
  none_off c inside left away None is tells = record {
    port = left.port ∙ is;
    route = left.route ∙ off c inside tells;
    list = left.list ∙ sym (ap (λ o. with_mark net.block o (get_or from.routes (index_of m c) nothing) (get_or from.lists (index_of m c) [])) is);
  }

  all_done : (c : Chip) → IsInside m c → IsDone net.block from s (index_of m c)
  all_done c inside = elim (all.each (index_of m c)) [
    | inl done ↦ done
    | inr left ↦ none_off c inside left.0 (λ on. left.1 c on refl) (get_or from.ports (index_of m c) None) refl (told c inside)
  ]

  pub ports_clear : length from.ports ≡ m.width * m.height → IsBlank m None s.ports
  ports_clear long = record { long = all.ports_long ∙ long; clear = λ c inside. (all_done c inside).port }

  pub routes_clear : length from.routes ≡ m.width * m.height → IsBlank m nothing s.routes
  routes_clear long = record { long = all.routes_long ∙ long; clear = λ c inside. (all_done c inside).route }

  pub all_grown : TellsRoutes m net.tree.edges net.targets from.routes → (c : Chip) → IsInside m c →
      GainsMark m net c (get_or from.lists (index_of m c) []) (get_or s.lists (index_of m c) [])
  all_grown routes c inside =
      grows m net c (get_or from.ports (index_of m c) None) (get_or from.routes (index_of m c) nothing) _ _ (told c inside)
      (λ out valid. routes c out inside valid) (all_done c inside).list
