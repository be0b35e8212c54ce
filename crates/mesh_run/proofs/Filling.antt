-- How many copies enter a queue in a round: at most one for each turn of the one actor that sends to it.
use Rattle.mesh_run.proofs.Common.{All, All-head, All-tail, AreTurns, Bool, Chip, IsDoneOn, IsLiveIndex, IsOutput, Item, List, McCopy, None, Out, Port, Served, Service, Setup, Some, [], ap, arith}
use Rattle.mesh_run.proofs.Common.{brought, cases_eq, chip_of, cond_both, count_by, count_by-append, count_by-map, entered, entered_by, flat_map, got, has, if◌then◌else◌, index_of, injection_place}
use Rattle.mesh_run.proofs.Common.{inl, inr, last_hop, length, length-append, live_inside, lookup, map, map-append, out_eq, out_eq_same, outputs, outs_of, outs_once, owed_on, place_behind, refl}
use Rattle.mesh_run.proofs.Common.{sending_of, sent, served, service_of, services, subst, sym, table_at, takings, took, true, ℕ, ◌*◌, ◌++◌, ◌+◌, ◌==◌, ◌∙◌, ◌∷◌, ◌≡◌, ◌≤◌}
use Rattle.mesh_run.proofs.Apart.{elsewhere, here, no_injection, not_there, one_output}

module _ (u : Setup) where
  -- ---- an injection queue

  few_brought : (s : Service) (f : Served) → length (brought s f) ≤ 1
  few_brought s f = grind arith

  -- what one item brings to an injection queue, its bank sent
  sent_there : (i : ℕ) → IsLiveIndex u i → (x : Item) → IsDoneOn u x → length (entered_by (injection_place i) x) ≤ length (sending_of i x)
  sent_there i live (took j port k) done = omega arith
  sent_there i live (served j c place s) done =
      let is : chip_of u.machine j ≡ c = sym done.1 in
      let inside = live_inside u.machine (chip_of u.machine j) done.0.live in
      let other : place ≡ Some (injection_place i) → ⊥ = λ same.
      no_injection u (chip_of u.machine j) (chip_of u.machine i) s.out inside (live_inside u.machine (chip_of u.machine i) live.live)
      (ap (λ (e : Chip). place_behind u e s.out) is ∙ (sym done.2 ∙ (same ∙ ap (λ n. Some (7 * n + 6)) (sym live.is)))) in
      let none = ap length (not_there place (injection_place i) (brought s s.fate) other) in
      omega (arith, none)
  sent_there i live (sent j v k) done = grind (arith, cases_eq j i, here, elsewhere)
  sent_there i live (got j v place k) done = omega arith

  fewer : {X Y : Type 0} (f : Item → List X) (g : Item → List Y) → ((x : Item) → IsDoneOn u x → length (f x) ≤ length (g x)) → (items : List Item) → All (IsDoneOn u) items →
      length (flat_map f items) ≤ length (flat_map g items)
  fewer f g each [] done = omega arith
  fewer f g each (x ∷ items) done =
      let one = each x (All-head (IsDoneOn u) x items done) in
      let rest = fewer f g each items (All-tail (IsDoneOn u) x items done) in
      let first = length-append (f x) (flat_map f items) in
      let second = length-append (g x) (flat_map g items) in
      omega (arith, one, rest, first, second)

  pub few_injected : (turns i : ℕ) (items : List Item) → AreTurns u turns items → IsLiveIndex u i → length (entered (injection_place i) items) ≤ turns
  few_injected turns i items h live =
      let fewer_than = fewer (entered_by (injection_place i)) (sending_of i) (sent_there i live) items h.each in
      omega (arith, fewer_than, h.sends i)

  -- ---- a queue behind an output

  abbrev by : Out → Out × McCopy → Bool
  by o p = out_eq o p.0

  abbrev told : Service → Out × McCopy
  told s = (s.out, s.copy)

  abbrev one_if : Bool → ℕ
  one_if b = if b then 1 else 0

  at_most_one : (b : Bool) → one_if b ≤ 1
  at_most_one b = grind arith

  -- an output stands at most once among those that lookup gives a copy
  few_outputs : (c : Chip) (o : Out) (port : Port) (k : McCopy) → IsOutput o → count_by (out_eq o) (outputs u c port k) ≤ 1
  few_outputs c o port k output =
      let route = lookup (table_at u.machine u.tables c) k.key port in
      let once : count_by (out_eq o) (outs_of route) ≡ one_if (has route o) = outs_once route o output in
      let most = at_most_one (has route o) in
      cond_both (k.hop == last_hop) [] (outs_of route) (λ (l : List Out). count_by (out_eq o) l ≤ 1) (λ last. omega arith) (λ more. omega (arith, once, most))

  few_owed : (c : Chip) (o : Out) → IsOutput o → (taken : List (Port × McCopy)) → count_by (by o) (owed_on u c taken) ≤ length taken
  few_owed c o output [] = omega arith
  few_owed c o output (t ∷ taken) = grind (arith, few_outputs c o t.0 t.1 output, few_owed c o output taken, count_by-append, count_by-map)

  -- what one item brings to the queue behind an output, its router served there
  served_there : (i : ℕ) (o : Out) (q : ℕ) → IsLiveIndex u i → place_behind u (chip_of u.machine i) o ≡ Some q → (x : Item) → IsDoneOn u x →
      length (entered_by q x) ≤ count_by (by o) (map told (service_of i x))
  served_there i o q live behind (took j port k) done = omega arith
  served_there i o q live behind (served j c None s) done = omega arith
  served_there i o q live behind (served j c (Some p) s) done = elim (cases_eq p q) [
    | inl same ↦
        let place : place_behind u (chip_of u.machine j) s.out ≡ Some q = ap (λ (e : Chip). place_behind u e s.out) (sym done.1) ∙ (sym done.2 ∙ ap Some same) in
        let one = one_output u (chip_of u.machine j) (chip_of u.machine i) s.out o q (live_inside u.machine (chip_of u.machine j) done.0.live)
        (live_inside u.machine (chip_of u.machine i) live.live) place behind in
        let index : j ≡ i = sym done.0.is ∙ (ap (index_of u.machine) one.0 ∙ live.is) in
        let service : service_of i (served j c (Some p) s) ≡ s ∷ [] = here j i (s ∷ []) index in
        let counted : count_by (by o) (map told (s ∷ [])) ≡ 1 = ap (λ (b : Bool). 0 + one_if b) (subst (λ (e : Out). out_eq o e ≡ true) (sym one.1) (out_eq_same o)) in
        let all = ap (λ (l : List Service). count_by (by o) (map told l)) service in
        let brings = ap length (here p q (brought s s.fate) same) in
        omega (arith, counted, all, brings, few_brought s s.fate)
    | inr other ↦ let none = ap length (elsewhere p q (brought s s.fate) other) in omega (arith, none)
  ]
  served_there i o q live behind (sent j v k) done =
      let inside = live_inside u.machine (chip_of u.machine j) done.0.live in
      let other : injection_place j ≡ q → ⊥ = λ same.
      no_injection u (chip_of u.machine i) (chip_of u.machine j) o (live_inside u.machine (chip_of u.machine i) live.live) inside
      (behind ∙ (ap Some (sym same) ∙ ap (λ n. Some (7 * n + 6)) (sym done.0.is))) in
      let none = ap length (elsewhere (injection_place j) q (k ∷ []) other) in
      omega (arith, none)
  served_there i o q live behind (got j v place k) done = omega arith

  counted : (i : ℕ) (o : Out) (q : ℕ) → IsLiveIndex u i → place_behind u (chip_of u.machine i) o ≡ Some q → (items : List Item) → All (IsDoneOn u) items →
      length (entered q items) ≤ count_by (by o) (map told (services i items))
  counted i o q live behind [] done = omega arith
  counted i o q live behind (x ∷ items) done =
      let one = served_there i o q live behind x (All-head (IsDoneOn u) x items done) in
      let rest = counted i o q live behind items (All-tail (IsDoneOn u) x items done) in
      let long = length-append (entered_by q x) (entered q items) in
      let joined = ap (count_by (by o)) (map-append told (service_of i x) (services i items)) in
      let both = count_by-append (by o) (map told (service_of i x)) (map told (services i items)) in
      omega (arith, one, rest, long, joined, both)

  pub few_behind : (turns i : ℕ) (o : Out) (q : ℕ) (items : List Item) → AreTurns u turns items → IsLiveIndex u i → IsOutput o → place_behind u (chip_of u.machine i) o ≡ Some q →
      length (entered q items) ≤ turns
  few_behind turns i o q items h live output behind =
      let owed = ap (count_by (by o)) (h.each_once i) in
      let few = few_owed (chip_of u.machine i) o output (takings i items) in
      omega (arith, counted i o q live behind items h.each, owed, few, h.takes i)

  -- ---- any queue

  -- Nothing enters a queue, or its sender is one router at one output, or one bank.
  pub data Feeds (q : ℕ) (items : List Item) : Type 0 where
    nobody : entered q items ≡ [] → Feeds q items
    by_router : (i : ℕ) (o : Out) → IsLiveIndex u i → IsOutput o → place_behind u (chip_of u.machine i) o ≡ Some q → Feeds q items
    by_bank : (i : ℕ) → IsLiveIndex u i → injection_place i ≡ q → Feeds q items

  feeds_first : (q : ℕ) (items : List Item) (x : Item) → IsDoneOn u x → entered q items ≡ [] → Feeds q (x ∷ items)
  feeds_first q items (took j port k) done none = nobody none
  feeds_first q items (served j c None s) done none = nobody none
  feeds_first q items (served j c (Some p) s) done none = elim (cases_eq p q) [
    | inl same ↦ by_router j s.out done.0 done.3 (ap (λ (e : Chip). place_behind u e s.out) (sym done.1) ∙ (sym done.2 ∙ ap Some same))
    | inr other ↦ nobody (ap (λ (l : List McCopy). l ++ entered q items) (elsewhere p q (brought s s.fate) other) ∙ none)
  ]
  feeds_first q items (sent j v k) done none = elim (cases_eq (injection_place j) q) [
    | inl same ↦ by_bank j done.0 same
    | inr other ↦ nobody (ap (λ (l : List McCopy). l ++ entered q items) (elsewhere (injection_place j) q (k ∷ []) other) ∙ none)
  ]
  feeds_first q items (got j v place k) done none = nobody none

  feeds : (q : ℕ) (items : List Item) → All (IsDoneOn u) items → Feeds q items
  feeds q [] done = nobody refl
  feeds q (x ∷ items) done = elim (feeds q items (All-tail (IsDoneOn u) x items done)) [
    | nobody none ↦ feeds_first q items x (All-head (IsDoneOn u) x items done) none
    | by_router i o live output behind ↦ by_router i o live output behind
    | by_bank i live is ↦ by_bank i live is
  ]

  -- at most as many copies enter a queue as there are turns
  pub few_entered : (turns q : ℕ) (items : List Item) → AreTurns u turns items → length (entered q items) ≤ turns
  few_entered turns q items h = elim (feeds q items h.each) [
    | nobody none ↦ let empty = ap length none in omega (arith, empty)
    | by_router i o live output behind ↦ few_behind turns i o q items h live output behind
    | by_bank i live is ↦ subst (λ n. length (entered n items) ≤ turns) is (few_injected turns i items h live)
  ]
