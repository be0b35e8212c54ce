-- Turns, as a list of what was done: one list after the other, of one actor or of several.
use Rattle.mesh_run.proofs.Common.{All, All-append, All-cons, All-contains, All-each, All-filter, All-from_map, All-head, All-map, All-nil, All-tail, All-weaker, AreTurns, BankMoves, Chip, CoreBank}
use Rattle.mesh_run.proofs.Common.{Dumped, Entry, GetsOne, IsBankOf, IsDoneOn, IsLiveIndex, IsOutput, IsRouterOf, Item, List, McCopy, None, Option, Out, Port, RouterNode, RoutesOne, SendsOne, Service}
use Rattle.mesh_run.proofs.Common.{Setup, [], actor_of, all_outs, ap, append-nil, ap₂, arith, bank_place, cases_eq, chip_of, cond_both, contains_among, flat_map, flat_map-append, getting_of, gettings}
use Rattle.mesh_run.proofs.Common.{got, has, index_of, inl, inr, last_hop, length, length-append, lookup, map, map-append, outputs, outputs_at, outs_of, owed_on, place_at_router, place_behind, refl}
use Rattle.mesh_run.proofs.Common.{router_place, rules, sending_of, sendings, sent, served, service_items, services, slice_index_or, subst, sym, taking_of, takings, took, where_same, ℕ, ◌++◌, ◌+◌}
use Rattle.mesh_run.proofs.Common.{◌==◌, ◌∙◌, ◌∷◌, ◌≡◌, ◌≢◌, ◌≤◌, ◌⊎◌}
use Rattle.mesh_run.proofs.{Apart.elsewhere, Apart.here, OutputBits.has_bit}

-- ---- lists

pub flat_map_none : {X Y : Type 0} (f : X → List Y) (xs : List X) → All (λ x. f x ≡ []) xs → flat_map f xs ≡ []
flat_map_none f [] none = refl
flat_map_none f (x ∷ xs) none =
    ap (λ l. l ++ flat_map f xs) (All-head (λ y. f y ≡ []) x xs none) ∙ flat_map_none f xs (All-tail (λ y. f y ≡ []) x xs none)

flat_map_map_none : {X Z Y : Type 0} (f : Z → List Y) (g : X → Z) → ((x : X) → f (g x) ≡ []) → (xs : List X) → flat_map f (map g xs) ≡ []
flat_map_map_none f g none [] = refl
flat_map_map_none f g none (x ∷ xs) = ap (λ l. l ++ flat_map f (map g xs)) (none x) ∙ flat_map_map_none f g none xs

pub few_more : {X : Type 0} (p q : ℕ) (x : X) → length (where_same p q (x ∷ []) ++ []) ≤ 1
few_more {X} p q x = grind (arith, append-nil, cond_both)

-- ---- outputs

pub outputs_have_bits : (entries : List Entry) (port : Port) (k : McCopy) → All IsOutput (outputs_at entries port k)
outputs_have_bits entries port k =
    let all : All IsOutput all_outs = All-each IsOutput all_outs (λ o in_all. has_bit o (contains_among o all_outs in_all)) in
    let route = lookup entries k.key port in
    cond_both (k.hop == last_hop) [] (outs_of route) (All IsOutput) (λ last. All-nil IsOutput) (λ more. All-filter (has route) IsOutput all_outs all)

-- ---- counts of turns

abbrev told : Service → Out × McCopy
told s = (s.out, s.copy)

-- so many copies were taken by each router, sent by each bank, and taken by each
pub record AreCounted (u : Setup) (takes sends gets : ℕ) (items : List Item) : Type 0 where
  pub each : All (IsDoneOn u) items
  pub each_once : (i : ℕ) → map {B = Out × McCopy} (λ s. (s.out, s.copy)) (services i items) ≡ owed_on u (chip_of u.machine i) (takings i items)
  pub takings_few : (i : ℕ) → length (takings i items) ≤ takes
  pub sendings_few : (i : ℕ) → length (sendings i items) ≤ sends
  pub gettings_few : (i : ℕ) → length (gettings i items) ≤ gets

module _ (u : Setup) where
  pub counted_of : (n : ℕ) (items : List Item) → AreTurns u n items → AreCounted u n n n items
  counted_of n items h = record { each = h.each; each_once = h.each_once; takings_few = h.takes; sendings_few = h.sends; gettings_few = h.gets }

  pub turns_of : (t s g n : ℕ) (items : List Item) → t ≤ n → s ≤ n → g ≤ n → AreCounted u t s g items → AreTurns u n items
  turns_of t s g n items t_few s_few g_few h = search rules

  each_once_on : (xs ys : List Item) (i : ℕ) → map told (services i xs) ≡ owed_on u (chip_of u.machine i) (takings i xs) →
      map told (services i ys) ≡ owed_on u (chip_of u.machine i) (takings i ys) → map told (services i (xs ++ ys)) ≡ owed_on u (chip_of u.machine i) (takings i (xs ++ ys))
  each_once_on xs ys i h k = grind (arith, flat_map-append, map-append)

  length_on : {Y : Type 0} (f : Item → List Y) (xs ys : List Item) (m n : ℕ) → length (flat_map f xs) ≤ m → length (flat_map f ys) ≤ n → length (flat_map f (xs ++ ys)) ≤ m + n
  length_on f xs ys m n h k = grind (arith, flat_map-append f xs ys, length-append (flat_map f xs) (flat_map f ys))

  pub counted_on : (t s g a b c : ℕ) (xs ys : List Item) → AreCounted u t s g xs → AreCounted u a b c ys → AreCounted u (t + a) (s + b) (g + c) (xs ++ ys)
  counted_on t s g a b c xs ys h k = record {
    each = All-append (IsDoneOn u) xs ys h.each k.each;
    each_once = λ i. each_once_on xs ys i (h.each_once i) (k.each_once i);
    takings_few = λ i. length_on (taking_of i) xs ys t a (h.takings_few i) (k.takings_few i);
    sendings_few = λ i. length_on (sending_of i) xs ys s b (h.sendings_few i) (k.sendings_few i);
    gettings_few = λ i. length_on (getting_of i) xs ys g c (h.gettings_few i) (k.gettings_few i);
  }

  -- no turns
  pub counted_none : AreCounted u 0 0 0 []
  counted_none = grind (arith, All-nil (IsDoneOn u))

  pub turns_none : (n : ℕ) → AreTurns u n []
  turns_none n = turns_of 0 0 0 n [] (omega arith) (omega arith) (omega arith) counted_none

  -- turns after turns
  pub turns_on : (m n : ℕ) (xs ys : List Item) → AreTurns u m xs → AreTurns u n ys → AreTurns u (m + n) (xs ++ ys)
  turns_on m n xs ys h k = turns_of (m + n) (m + n) (m + n) (m + n) (xs ++ ys) (omega arith) (omega arith) (omega arith) (counted_on m m m n n n xs ys (counted_of m xs h) (counted_of n ys k))

  -- ---- of several actors

  abbrev pub IsNotOf : ℕ → List Item → Type 0
  IsNotOf a items = All (λ x. actor_of x ≢ a) items

  untaken : (i : ℕ) (x : Item) → actor_of x ≢ router_place i → taking_of i x ≡ []
  untaken i x other = grind (arith, elsewhere)

  unsent : (i : ℕ) (x : Item) → actor_of x ≢ bank_place i → sending_of i x ≡ []
  unsent i x other = grind (arith, elsewhere)

  ungot : (i : ℕ) (x : Item) → actor_of x ≢ bank_place i → getting_of i x ≡ []
  ungot i x other = grind (arith, elsewhere)

  -- where one of two lists has none of an actor, both have no more than one has
  length_beside : {Y : Type 0} (f : Item → List Y) (a n : ℕ) → ((x : Item) → actor_of x ≢ a → f x ≡ []) → (xs ys : List Item) → IsNotOf a xs ⊎ IsNotOf a ys →
      length (flat_map f xs) ≤ n → length (flat_map f ys) ≤ n → length (flat_map f (xs ++ ys)) ≤ n
  length_beside f a n none xs ys (inl apart) h k = grind (arith, flat_map-append f xs ys, length-append (flat_map f xs) (flat_map f ys), flat_map_none, All-weaker)
  length_beside f a n none xs ys (inr apart) h k = grind (arith, flat_map-append f xs ys, length-append (flat_map f xs) (flat_map f ys), flat_map_none, All-weaker)

  -- turns of other actors, beside turns
  pub turns_beside : (n : ℕ) (xs ys : List Item) → ((a : ℕ) → IsNotOf a xs ⊎ IsNotOf a ys) → AreTurns u n xs → AreTurns u n ys → AreTurns u n (xs ++ ys)
  turns_beside n xs ys apart h k = record {
    each = All-append (IsDoneOn u) xs ys h.each k.each;
    each_once = λ i. each_once_on xs ys i (h.each_once i) (k.each_once i);
    takes = λ i. length_beside (taking_of i) (router_place i) n (untaken i) xs ys (apart (router_place i)) (h.takes i) (k.takes i);
    sends = λ i. length_beside (sending_of i) (bank_place i) n (unsent i) xs ys (apart (bank_place i)) (h.sends i) (k.sends i);
    gets = λ i. length_beside (getting_of i) (bank_place i) n (ungot i) xs ys (apart (bank_place i)) (h.gets i) (k.gets i);
  }

  -- ---- one turn of a router

  services_here : (j i : ℕ) (c : Chip) (place : Service → Option ℕ) → j ≡ i → (done : List Service) → services i (map (λ s. served j c (place s) s) done) ≡ done
  services_here j i c place same [] = refl
  services_here j i c place same (s ∷ done) = ap₂ (λ (a b : List Service). a ++ b) (here j i (s ∷ []) same) (services_here j i c place same done)

  -- what a turn of a router tells, where services tell nothing
  routed_tells : {Y : Type 0} (f : Item → List Y) (r : RouterNode) (items : List Item) → (h : RoutesOne r.table.now r items) →
      ((s : Service) → f (served r.index r.chip (place_at_router r.behind.now s.out) s) ≡ []) → flat_map f items ≡ f (took r.index h.port h.copy) ++ []
  routed_tells f r items h none = grind (arith, flat_map_map_none)

  routed_each_once : (r : RouterNode) (a : ℕ) → IsRouterOf u a r → (items : List Item) → (h : RoutesOne r.table.now r items) → (i : ℕ) → (r.index ≡ i) ⊎ (r.index ≢ i) →
      map told (services i items) ≡ owed_on u (chip_of u.machine i) (takings i items)
  routed_each_once r a of items h i (inl same) =
      let place : Service → Option ℕ = λ s. place_at_router r.behind.now s.out in
      let done : services i items ≡ h.done = ap (services i) h.are ∙ services_here r.index i r.chip place same h.done in
      let taken : takings i items ≡ (h.port, h.copy) ∷ [] = routed_tells (taking_of i) r items h (λ s. refl) ∙ (append-nil _ ∙ here r.index i ((h.port, h.copy) ∷ []) same) in
      let at : i ≡ a = sym same ∙ of.index in
      let table : r.table.now ≡ slice_index_or u.tables (index_of u.machine (chip_of u.machine i)) [] =
      of.table ∙ ap (λ n. slice_index_or u.tables n []) (sym of.live.is ∙ ap (λ n. index_of u.machine (chip_of u.machine n)) (sym at)) in
      let outs : outputs_at r.table.now h.port h.copy ≡ outputs u (chip_of u.machine i) h.port h.copy = ap (λ (t : List Entry). outputs_at t h.port h.copy) table in
      ap (map told) done ∙ (h.each_once ∙ (ap (λ (l : List Out). map {B = Out × McCopy} (λ o. (o, h.copy)) l) outs
      ∙ (sym (append-nil (map (λ o. (o, h.copy)) (outputs u (chip_of u.machine i) h.port h.copy))) ∙ ap (owed_on u (chip_of u.machine i)) (sym taken))))
  routed_each_once r a of items h i (inr other) = grind (arith, flat_map_map_none, elsewhere)

  served_outputs : (r : RouterNode) (items : List Item) → (h : RoutesOne r.table.now r items) → All (λ (s : Service). IsOutput s.out) h.done
  served_outputs r items h =
      All-from_map (λ (p : Out × McCopy). IsOutput p.0) told h.done
      (subst (All (λ (p : Out × McCopy). IsOutput p.0)) (sym h.each_once)
      (All-map (λ (p : Out × McCopy). IsOutput p.0) (λ o. (o, h.copy)) (outputs_at r.table.now h.port h.copy) (outputs_have_bits r.table.now h.port h.copy)))

  routed_each : (r : RouterNode) (a : ℕ) → IsRouterOf u a r → (items : List Item) → RoutesOne r.table.now r items → All (IsDoneOn u) items
  routed_each r a of items h =
      let live : IsLiveIndex u r.index = subst (IsLiveIndex u) (sym of.index) of.live in
      subst (All (IsDoneOn u)) (sym h.are)
      (All-cons (IsDoneOn u) (took r.index h.port h.copy) (service_items r h.done) live
      (All-map (IsDoneOn u) (λ s. served r.index r.chip (place_at_router r.behind.now s.out) s) h.done
      (All-each (λ s. IsDoneOn u (served r.index r.chip (place_at_router r.behind.now s.out) s)) h.done (λ s in_done.
      let output : IsOutput s.out = All-contains (λ (t : Service). IsOutput t.out) h.done s (served_outputs r items h) in_done in (
        live,
        of.chip ∙ ap (chip_of u.machine) (sym of.index),
        of.behind s.out output ∙ ap (λ (c : Chip). place_behind u c s.out) (sym of.chip),
        output,
        All-contains (λ (t : Service). place_at_router r.behind.now t.out ≡ None → t.fate ≡ Dumped) h.done s h.nowhere in_done,
      )))))

  pub routed_turns : (r : RouterNode) (a : ℕ) → IsRouterOf u a r → (items : List Item) → RoutesOne r.table.now r items → AreTurns u 1 items
  routed_turns r a of items h = record {
    each = routed_each r a of items h;
    each_once = λ i. routed_each_once r a of items h i (cases_eq r.index i);
    takes = λ i. omega (arith, ap length (routed_tells (taking_of i) r items h (λ s. refl)), few_more {X = Port × McCopy} r.index i (h.port, h.copy));
    sends = λ i. omega (arith, ap length (routed_tells (sending_of i) r items h (λ s. refl)));
    gets = λ i. omega (arith, ap length (routed_tells (getting_of i) r items h (λ s. refl)));
  }

  pub routed_by : (r : RouterNode) (items : List Item) → RoutesOne r.table.now r items → All (λ x. actor_of x ≡ router_place r.index) items
  routed_by r items h =
      subst (All (λ x. actor_of x ≡ router_place r.index)) (sym h.are)
      (All-cons (λ x. actor_of x ≡ router_place r.index) (took r.index h.port h.copy) (service_items r h.done) refl
      (All-map (λ x. actor_of x ≡ router_place r.index) (λ s. served r.index r.chip (place_at_router r.behind.now s.out) s) h.done
      (All-each (λ s. actor_of (served r.index r.chip (place_at_router r.behind.now s.out) s) ≡ router_place r.index) h.done (λ s in_done. refl))))

  pub routed_some : (r : RouterNode) (items : List Item) → RoutesOne r.table.now r items → items ≢ []
  routed_some r items h none = let is : took r.index h.port h.copy ∷ service_items r h.done ≡ [] = sym h.are ∙ none in cc

  -- ---- one turn of a bank

  sends_counted : (i : ℕ) (b : CoreBank) (items : List Item) → IsLiveIndex u i → IsBankOf u i b → SendsOne b items → AreCounted u 0 1 0 items
  sends_counted i b items live of h = grind (arith, All-cons (IsDoneOn u) (sent b.index h.vertex h.copy), All-nil (IsDoneOn u), few_more)

  gets_counted : (i : ℕ) (b : CoreBank) (items : List Item) → IsLiveIndex u i → IsBankOf u i b → GetsOne b items → AreCounted u 0 0 1 items
  gets_counted i b items live of h = grind (arith, All-cons (IsDoneOn u) (got b.index h.vertex (b.cores + h.vertex) h.copy), All-nil (IsDoneOn u), few_more)

  pub bank_turns : (i : ℕ) (b : CoreBank) (items : List Item) → IsLiveIndex u i → IsBankOf u i b → BankMoves b items → AreTurns u 1 items
  bank_turns i b items live of h = grind (arith, counted_none, sends_counted, gets_counted, turns_of, counted_on)

  pub bank_by : (b : CoreBank) (items : List Item) → BankMoves b items → All (λ x. actor_of x ≡ bank_place b.index) items
  bank_by b items h = grind (arith, All-append, All-nil, All-cons)
