-- What lookup gives the keys of a block that get one route, and what a verdict means for the tables that are loaded.
use Rattle.plan_check.proofs.Common.{All, All-at, All-head, All-tail, AreRight, Block, Bool, Chip, Description, Entry, GetsRoute, GetsRouteThat, HasChip, Image, IsFineAll, IsFirstToMeet, IsInside}
use Rattle.plan_check.proofs.Common.{IsKeyOf, IsLoaded, IsMisrouted, IsRouted, IsTreeRoute, IsVerdict, IsWrong, LiesInside, List, Meets, NetPlan, NoneMeets, Port, Right, Route, Some, Verdict, [], ap}
use Rattle.plan_check.proofs.Common.{arith, chips_inside, comes_in_tree, cond, default_route, false, false_from_ne_true, find, get_or, get_or_from_slice_get, has, index_below, index_of, inl, inr}
use Rattle.plan_check.proofs.Common.{key_small, length, loaded, lookup, lookup_hit, lookup_miss, matches, one_port, option_map_or, refl, replicate, rows_for, slice_get, slice_get_within, subst, suc}
use Rattle.plan_check.proofs.Common.{sym, table_at, true, unused, unused_matches, zero, ℕ, ◌++◌, ◌-◌, ◌∙◌, ◌∷◌, ◌≡◌}
use Rattle.plan_check.specs.declared.verdicts.Verdict.TheVariants.{Wrong}

-- ---- lookup, entry by entry

-- a row that does not meet a block matches none of its keys
misses : (b : Block) (e : Entry) (key : ℕ) → (Meets b e → ⊥) → IsKeyOf b key → matches e key ≡ false
misses b e key apart of = false_from_ne_true (matches e key) (λ hit. apart (record { key = key; of_block = of; matched = hit }))

none_found : (b : Block) (rows : List Entry) (key : ℕ) (port : Port) → NoneMeets b rows → IsKeyOf b key → lookup rows key port ≡ default_route port
none_found b [] key port none of = refl
none_found b (e ∷ rows) key port none of =
    lookup_miss e rows key port (misses b e key (All-head (λ x. Meets b x → ⊥) e rows none) of)
    ∙ none_found b rows key port (All-tail (λ x. Meets b x → ⊥) e rows none) of

first_found : (b : Block) (rows : List Entry) (place : ℕ) (e : Entry) (key : ℕ) (port : Port) → IsFirstToMeet b rows place e → LiesInside b e → IsKeyOf b key →
    lookup rows key port ≡ e.route
first_found b [] place e key port is inside of = absurd (omega (arith, slice_get_within [] place e is.there))
first_found b (x ∷ rows) zero e key port is inside of = grind (arith, lookup_hit)
first_found b (x ∷ rows) (suc place) e key port is inside of =
    lookup_miss x rows key port (misses b x key (is.first 0 x (omega arith) refl) of)
    ∙ first_found b rows place e key port (record { there = is.there; meets = is.meets; first = λ k y less. is.first (suc k) y (omega (arith, less)) }) inside of

-- where the keys of a block get one route, lookup gives each of them that
pub route_found : (b : Block) (rows : List Entry) (port : Port) (r : Route) (key : ℕ) → GetsRoute b rows port r → IsKeyOf b key → lookup rows key port ≡ r
route_found b rows port r key (inl by) of = first_found b rows by.0 by.1 key port by.2 by.3 of ∙ sym by.4
route_found b rows port r key (inr none) of = none_found b rows key port none.0 of ∙ sym none.1

-- ---- unused entries behind the rows

past_unused : (n key : ℕ) (port : Port) → lookup (replicate n unused) key port ≡ default_route port
past_unused zero key port = refl
past_unused (suc n) key port = lookup_miss unused (replicate n unused) key port (unused_matches key) ∙ past_unused n key port

lookup_loaded : (rows : List Entry) (n key : ℕ) (port : Port) → lookup (rows ++ replicate n unused) key port ≡ lookup rows key port
lookup_loaded [] n key port = past_unused n key port
lookup_loaded (e ∷ rows) n key port = by_test (matches e key) (lookup_loaded rows n key port)
  where
    by_test : (b : Bool) → lookup (rows ++ replicate n unused) key port ≡ lookup rows key port →
        option_map_or (λ (x : Entry). x.route) (cond b (Some e) (find (λ (x : Entry). matches x key) (rows ++ replicate n unused))) (default_route port)
        ≡ option_map_or (λ (x : Entry). x.route) (cond b (Some e) (find (λ (x : Entry). matches x key) rows)) (default_route port)
    by_test true same = refl
    by_test false same = same

-- ---- the tables that are loaded

module _ (m : Description) (v : Image) (memories : List (List Entry)) (width : v.width ≡ m.width) (height : v.height ≡ m.height) (is : IsLoaded v memories) where
  table_of : (c : Chip) → IsInside m c → table_at m memories c ≡ loaded (rows_for m v c)
  table_of c inside = grind (arith, index_below m c inside, get_or_from_slice_get memories (index_of m c) (loaded (rows_for m v c)))

  looked_up : (c : Chip) (key : ℕ) (port : Port) → IsInside m c → lookup (table_at m memories c) key port ≡ lookup (rows_for m v c) key port
  looked_up c key port inside =
      ap (λ t. lookup t key port) (table_of c inside) ∙ lookup_loaded (rows_for m v c) (1024 - length (rows_for m v c)) key port

  -- where the keys of a net get one route at a chip, lookup in its memory gives each of them that
  routed_as : (net : NetPlan) (c : Chip) (Is : Route → Type 0) (gets : GetsRouteThat m v net c Is) (key : ℕ) → IsInside m c → IsKeyOf net.block key →
      lookup (table_at m memories c) key gets.port ≡ gets.route
  routed_as net c Is gets key inside of = grind (arith, looked_up c key gets.port inside, route_found net.block (rows_for m v c) gets.port gets.route key gets.gets of)

  pub right_loaded : (nets : List NetPlan) → All (IsRouted m) nets → All (IsFineAll m v) nets → AreRight m memories nets
  right_loaded nets routed fine k d below c port key o comes of valid =
      let net : NetPlan = get_or nets k d in
      let tree = routed k d below in
      let on : HasChip m net c = comes_in_tree m net.tree.root net.tree.edges c port comes in
      let inside : IsInside m c = chips_inside m net.tree.root net.tree.edges net.targets tree.tree tree.root c on in
      let mine = fine k d below c on in
      let same : port ≡ mine.port = one_port m net.tree.root net.tree.edges net.targets tree.tree c port mine.port comes mine.comes_in in
      ap (λ p. has (lookup (table_at m memories c) key p) o) same
      ∙ (ap (λ r. has r o) (routed_as net c (IsTreeRoute net c) mine key inside of)
      ∙ mine.is o valid)

  wrong_loaded : (net : NetPlan) (c : Chip) → IsInside m c → IsWrong m v net c → IsMisrouted m memories net c net.block.key
  wrong_loaded net c inside wrong =
      let of : IsKeyOf net.block net.block.key = record { fits = key_small net.block; matches = net.block.within } in
      record {
        is_key = of;
        port = wrong.port;
        comes_in = wrong.comes_in;
        other = λ tree. wrong.is (λ o valid. ap (λ r. has r o) (sym (routed_as net c (λ r. IsTreeRoute net c r → ⊥) wrong net.block.key inside of)) ∙ tree o valid);
      }

  pub right_told : (nets : List NetPlan) (verdict : Verdict) → All (IsRouted m) nets → IsVerdict m nets v verdict → verdict ≡ Right → AreRight m memories nets
  right_told nets verdict routed told is_right = right_loaded nets routed (subst (IsVerdict m nets v) is_right told)

  pub wrong_told : (nets : List NetPlan) (verdict : Verdict) (i : ℕ) (c : Chip) (key : ℕ) → All (IsRouted m) nets → IsVerdict m nets v verdict → verdict ≡ Wrong i c key →
      (net : NetPlan) × (slice_get nets i ≡ Some net) × IsMisrouted m memories net c key
  wrong_told nets verdict i c key routed told is_wrong =
      let known = subst (IsVerdict m nets v) is_wrong told in
      let net : NetPlan = known.0 in
      let tree = All-at (IsRouted m) nets i net routed known.1.there in
      let inside : IsInside m c = chips_inside m net.tree.root net.tree.edges net.targets tree.tree tree.root c known.1.on_tree in
      (net, known.1.there, subst (IsMisrouted m memories net c) (sym known.3) (wrong_loaded net c inside known.2))
