-- What was served at an output of a chip: each copy went on or was dumped.
use Rattle.mesh_round.proofs.Common.{Among, Bool, Chip, Dumped, IsOutput, IsPermutation, IsPermutation-cons, IsPermutation-middle, IsPermutation-refl, IsPermutation-sym, IsPermutation-trans, List}
use Rattle.mesh_round.proofs.Common.{McCopy, Out, Port, Sent, Served, Service, Setup, [], among_map, ap, arith, below_last, brought, cases_Bool, cond, count_by, count_by-cons, false, filter, flat_map}
use Rattle.mesh_round.proofs.Common.{if◌then◌else◌, last_hop, leaves_by, list_any, lookup, lost, map, map_among, onward, out_eq, outputs, outs_of, outs_once, owed_on, refl, rules, subst, sym}
use Rattle.mesh_round.proofs.Common.{table_at, true, ℕ, ◌++◌, ◌+◌, ◌<◌, ◌==◌, ◌∷◌, ◌≡◌, ◌≤◌}
use Rattle.mesh_round.proofs.Joined.{among_flat, filter-flat, flat_same, map-flat}

-- ---- what became of it

abbrev pub went_on : List Service → List McCopy
went_on ss = flat_map (λ s. brought s s.fate) ss

abbrev pub fell : List Service → List McCopy
fell ss = flat_map (λ s. lost s s.fate) ss

abbrev pub copies_of : List Service → List McCopy
copies_of ss = map (λ (s : Service). s.copy) ss

-- each copy went on or was dumped
pub sent_or_dumped : (ss : List Service) → IsPermutation (map onward (copies_of ss)) (went_on ss ++ map onward (fell ss))
sent_or_dumped [] = IsPermutation-refl []
sent_or_dumped (s ∷ ss) = by (sent_or_dumped ss) s.fate
  where
    all : List McCopy
    all = map onward (copies_of ss)

    fallen : List McCopy
    fallen = map onward (fell ss)

    by : IsPermutation all (went_on ss ++ fallen) → (fate : Served) → IsPermutation (onward s.copy ∷ all) ((brought s fate ++ went_on ss) ++ map onward (lost s fate ++ fell ss))
    by rest Sent = IsPermutation-cons (onward s.copy) all (went_on ss ++ fallen) rest
    by rest Dumped =
        IsPermutation-trans (onward s.copy ∷ all) (onward s.copy ∷ (went_on ss ++ fallen)) (went_on ss ++ onward s.copy ∷ fallen)
        (IsPermutation-cons (onward s.copy) all (went_on ss ++ fallen) rest)
        (IsPermutation-sym (went_on ss ++ onward s.copy ∷ fallen) (onward s.copy ∷ (went_on ss ++ fallen)) (IsPermutation-middle (went_on ss) (onward s.copy) fallen))

-- ---- what lookup gives an output

abbrev given : Bool → ℕ
given b = cond b 1 0

module _ (o : Out) where
  -- of copies with outputs, those of the output
  abbrev pub at_out : List (Out × McCopy) → List McCopy
  at_out xs = map (λ (x : Out × McCopy). x.1) (filter (λ (x : Out × McCopy). out_eq o x.0) xs)

  abbrev with_each : McCopy → List Out → List (Out × McCopy)
  with_each k os = map (λ p. (p, k)) os

  -- where a test passes the first output
  first_of : Bool → Out → McCopy → List Out → List McCopy
  first_of b p k ps = map (λ (x : Out × McCopy). x.1) (cond b ((p, k) ∷ filter (λ (x : Out × McCopy). out_eq o x.0) (with_each k ps)) (filter (λ (x : Out × McCopy). out_eq o x.0) (with_each k ps)))

  none_at : (k : McCopy) (os : List Out) → count_by (out_eq o) os ≡ 0 → at_out (with_each k os) ≡ []
  unfolding first_of
  none_at k [] none = refl
  none_at k (p ∷ ps) none = grind (arith, count_by-cons (out_eq o) p ps, cases_Bool (out_eq o p), none_at k ps (omega (arith, (count_by-cons (out_eq o) p ps), none)), first_of)

  -- a copy stands at the output at most once
  once_at : (k : McCopy) (os : List Out) → count_by (out_eq o) os ≤ 1 → at_out (with_each k os) ≡ cond (list_any (out_eq o) os) (k ∷ []) []
  unfolding first_of
  once_at k [] few = refl
  once_at k (p ∷ ps) few = grind (arith, count_by-cons (out_eq o) p ps, cases_Bool (out_eq o p), once_at k ps (omega (arith, (count_by-cons (out_eq o) p ps), few)), first_of, none_at)

  few_outputs : IsOutput o → (u : Setup) (c : Chip) (port : Port) (k : McCopy) → count_by (out_eq o) (outputs u c port k) ≤ 1
  few_outputs is u c port k = by (k.hop == last_hop) refl
    where
      at_most_one : (b : Bool) (n : ℕ) → n ≡ (if b then 1 else 0) → n ≤ 1
      at_most_one b n same = grind arith

      outs : Bool → List Out
      outs b = if b then [] else outs_of (lookup (table_at u.machine u.tables c) k.key port)

      by : (b : Bool) → (k.hop == last_hop) ≡ b → count_by (out_eq o) (outs (k.hop == last_hop)) ≤ 1
      by true last = subst (λ b. count_by (out_eq o) (outs b) ≤ 1) (sym last) (omega arith)
      by false more = grind (arith, count_by (out_eq o) (outs_of (lookup (table_at u.machine u.tables c) k.key port)), outs_once (lookup (table_at u.machine u.tables c) k.key port) o is, outs)

  -- what is owed at the output is what lookup gives it
  pub owed_at : IsOutput o → (u : Setup) (c : Chip) (taken : List (Port × McCopy)) → at_out (owed_on u c taken) ≡ flat_map (λ t. filter (leaves_by u c o t.0) (t.1 ∷ [])) taken
  owed_at is u c taken = search (rules, filter-flat, map-flat, flat_same, once_at, few_outputs)

  -- what was served at the output
  pub served_at : (ss : List Service) → at_out (map {B = Out × McCopy} (λ s. (s.out, s.copy)) ss) ≡ copies_of (filter (λ (s : Service). out_eq o s.out) ss)
  served_at [] = refl
  served_at (s ∷ ss) = by (served_at ss) (out_eq o s.out)
    where
      pairs : List (Out × McCopy)
      pairs = filter (λ (x : Out × McCopy). out_eq o x.0) (map {B = Out × McCopy} (λ s. (s.out, s.copy)) ss)

      own : List Service
      own = filter (λ (r : Service). out_eq o r.out) ss

      by : map (λ (x : Out × McCopy). x.1) pairs ≡ copies_of own → (b : Bool) → map (λ (x : Out × McCopy). x.1) (cond b ((s.out, s.copy) ∷ pairs) pairs) ≡ copies_of (cond b (s ∷ own) own)
      by rest b = grind arith

-- What was served was taken, and had not the greatest hop number.
pub served_fits : (u : Setup) (c : Chip) (taken : List (Port × McCopy)) (ss : List Service) → map {B = Out × McCopy} (λ s. (s.out, s.copy)) ss ≡ owed_on u c taken →
    (s : Service) → Among s ss → (t : Port × McCopy) × Among t taken × (s.copy ≡ t.1) × (t.1.hop ≤ last_hop → s.copy.hop < last_hop)
served_fits u c taken ss each s a =
    let owes : Port × McCopy → List (Out × McCopy) = λ t. map {B = Out × McCopy} (λ o. (o, t.1)) (outputs u c t.0 t.1) in
    let there : Among (s.out, s.copy) (owed_on u c taken) = subst (λ (l : List (Out × McCopy)). Among (s.out, s.copy) l) each
    (map_among {Y = Out × McCopy} (λ (x : Service). (x.out, x.copy)) s ss a) in
    let of = among_flat owes (s.out, s.copy) taken there in
    let out = among_map {Y = Out × McCopy} (λ (o : Out). (o, of.0.1)) (s.out, s.copy) (outputs u c of.0.0 of.0.1) of.2 in
    let same : s.copy ≡ of.0.1 = ap (λ (x : Out × McCopy). x.1) out.2 in
    (of.0, of.1, same, λ small. subst (λ (k : McCopy). k.hop < last_hop) (sym same) (below of.0.0 of.0.1 out.0 out.1 small))
  where
    below : (port : Port) (k : McCopy) (o : Out) → Among o (outputs u c port k) → k.hop ≤ last_hop → k.hop < last_hop
    below port k o among small = grind (arith, cases_Bool (k.hop == last_hop), Among, below_last)
