-- One end is written, and what was done tells of it alone.
use Rattle.chip_node.proofs.Common.{Chip, Delivery, DumpRec, Dumped, End, EndGoes, EndSends, EndServes, EndStays, EndTakes, Goes, Holdings, Item, List, McCopy, None, Option, Out, Port, SendsBehind}
use Rattle.chip_node.proofs.Common.{SendsThere, Sent, Served, Service, Some, Stays, WithRoom, [], ap, append-nil, arith, brought, cases_eq, cond-false, cond-true, deliveries, entered, eq-eqb}
use Rattle.chip_node.proofs.Common.{get_or-set_other, get_or-set_same, got, injection_place, inl, inr, left, length, length-append, length-set, lost, lost_at, ne_eqb, onward, port_place, recorded}
use Rattle.chip_node.proofs.Common.{refl, same_Some, sent, sent_by, served, set, slice_get, slice_get-set_other, slice_get-set_same, slice_index_or, subst, sym, took, where_same, ℕ, ◌++◌, ◌+◌, ◌<◌}
use Rattle.chip_node.proofs.Common.{◌==◌, ◌∙◌, ◌∷◌, ◌≡◌, ◌≢◌}
use Rattle.chip_node.proofs.{Flows.end_goes_none, EndSteps.end_goes_refuses, EndSteps.end_goes_sends, EndSteps.end_goes_takes, Stays.end_stays_same}

-- ---- places

pub where_here : {X : Type 0} (p q : ℕ) (xs : List X) → p ≡ q → where_same p q xs ≡ xs
where_here p q xs same = cond-true (p == q) xs [] (eq-eqb p q same)

pub where_other : {X : Type 0} (p q : ℕ) (xs : List X) → p ≢ q → where_same p q xs ≡ []
where_other p q xs other = cond-false (p == q) xs [] (ne_eqb p q other)

only_here : {X : Type 0} (p : ℕ) (xs : List X) → where_same p p xs ++ [] ≡ xs
only_here p xs = append-nil (where_same p p xs) ∙ where_here p p xs refl

not_other : {X : Type 0} (p q : ℕ) (xs : List X) → q ≢ p → where_same p q xs ++ [] ≡ []
not_other p q xs other = append-nil (where_same p q xs) ∙ where_other p q xs (λ e. other (sym e))

-- ---- ends

-- one end is written
pub record Writes (before after : List End) (q : ℕ) (old new : End) : Type 0 where
  pub stood : slice_get before q ≡ Some old
  pub stands : after ≡ set before q new

-- nothing of what was done is told of the queue at a place
record PassesBy (items : List Item) (p : ℕ) : Type 0 where
  none_entered : entered p items ≡ []
  none_left : left p items ≡ []
  none_lost : lost_at p items ≡ []

written_long : (before after : List End) (q : ℕ) (old new : End) → Writes before after q old new → length after ≡ length before
written_long before after q old new w = ap length w.stands ∙ length-set before q new

written_here : (before after : List End) (q : ℕ) (old new x y : End) → Writes before after q old new → slice_get before q ≡ Some x → slice_get after q ≡ Some y → (old ≡ x) × (new ≡ y)
written_here before after q old new x y w at also = grind (arith, same_Some old x (sym w.stood ∙ at), slice_get-set_same before q old new w.stood)

written_there : (before after : List End) (q p : ℕ) (old new x y : End) → Writes before after q old new → p ≢ q → slice_get before p ≡ Some x → slice_get after p ≡ Some y → x ≡ y
written_there before after q p old new x y w other at also = grind (arith, slice_get-set_other before q p new other, same_Some)

ends_at : (cap patience : ℕ) (before after : List End) (items : List Item) (q : ℕ) (old new : End) → Writes before after q old new
    → EndGoes cap patience (entered q items) (left q items) (lost_at q items) old new → ((p : ℕ) → p ≢ q → PassesBy items p)
    → (p : ℕ) (x y : End) → slice_get before p ≡ Some x → slice_get after p ≡ Some y → EndGoes cap patience (entered p items) (left p items) (lost_at p items) x y
ends_at cap patience before after items q old new w goes others p x y at also =
    elim (cases_eq p q) [
      | inl here ↦
          let both = written_here before after q old new x y w (subst (λ i. slice_get before i ≡ Some x) here at) (subst (λ i. slice_get after i ≡ Some y) here also) in
          subst (λ i. EndGoes cap patience (entered i items) (left i items) (lost_at i items) x y) (sym here)
          (subst (λ (e : End). EndGoes cap patience (entered q items) (left q items) (lost_at q items) e y) both.0
          (subst (λ (e : End). EndGoes cap patience (entered q items) (left q items) (lost_at q items) old e) both.1 goes))
      | inr other ↦
          let by = others p other in
          let same = written_there before after q p old new x y w other at also in
          let none : EndGoes cap patience [] [] [] x y = end_goes_none cap patience x y (subst (EndStays x) same (end_stays_same x)) in
          subst (λ (l : List McCopy). EndGoes cap patience l (left p items) (lost_at p items) x y) (sym by.none_entered)
          (subst (λ (l : List McCopy). EndGoes cap patience [] l (lost_at p items) x y) (sym by.none_left)
          (subst (λ (l : List McCopy). EndGoes cap patience [] [] l x y) (sym by.none_lost) none))
    ]

-- nothing was done, and an end was looked at
pub stays_at : (a b : Holdings) (q : ℕ) (old new : End) → Writes a.ends.items b.ends.items q old new → EndStays old new → b.unsent.items ≡ a.unsent.items → b.deliveries ≡ a.deliveries →
    b.dumps ≡ a.dumps → Stays a b
stays_at a b q old new w stays unsent deliveries dumps = record {
  ends_long = written_long a.ends.items b.ends.items q old new w;
  ends = λ p x y at also. elim (cases_eq p q) [
    | inl here ↦
        let both = written_here a.ends.items b.ends.items q old new x y w (subst (λ i. slice_get a.ends.items i ≡ Some x) here at) (subst (λ i. slice_get b.ends.items i ≡ Some y) here also) in
        subst (λ (e : End). EndStays e y) both.0 (subst (λ (e : End). EndStays old e) both.1 stays)
    | inr other ↦ subst (EndStays x) (written_there a.ends.items b.ends.items q p old new x y w other at also) (end_stays_same x)
  ];
  unsent = unsent;
  deliveries = deliveries;
  dumps = dumps;
}

-- ---- what was done

pub unsent_items : (a b : Holdings) → b.unsent ≡ a.unsent → b.unsent.items ≡ a.unsent.items
unsent_items a b same = cc

same_unsent : (a b : Holdings) → b.unsent.items ≡ a.unsent.items → (v : ℕ) → slice_index_or a.unsent.items v [] ≡ slice_index_or b.unsent.items v []
same_unsent a b same v = ap (λ (l : List (List McCopy)). slice_index_or l v []) (sym same)

-- A log that grew by some items has as much room less.
grown : {T : Type 0} (a b : WithRoom T) (more : List T) → b.items ≡ a.items ++ more → b.spare + length more ≡ a.spare → b.spare + length b.items ≡ a.spare + length a.items
grown a b more items spare = grind (arith, length-append a.items more)

-- the router took a copy
pub took_goes : (cap patience i : ℕ) (port : Port) (k : McCopy) (a b : Holdings) (old new : End) → Writes a.ends.items b.ends.items (port_place i port) old new → EndTakes k old new
    → b.unsent.items ≡ a.unsent.items → b.deliveries ≡ a.deliveries → b.dumps ≡ a.dumps → Goes cap patience a (took i port k ∷ []) b
took_goes cap patience i port k a b old new w takes unsent deliveries dumps = record {
  ends_long = written_long a.ends.items b.ends.items (port_place i port) old new w;
  ends = ends_at cap patience a.ends.items b.ends.items (took i port k ∷ []) (port_place i port) old new w
      (subst (λ (l : List McCopy). EndGoes cap patience [] l [] old new) (sym (only_here (port_place i port) (k ∷ []))) (end_goes_takes cap patience k old new takes))
      (λ p other. record { none_entered = refl; none_left = not_other (port_place i port) p (k ∷ []) other; none_lost = refl });
  unsent_long = ap length unsent;
  unsent = same_unsent a b unsent;
  delivered = ap (λ (l : WithRoom Delivery). l.items) deliveries ∙ sym (append-nil a.deliveries.items);
  dumped = ap (λ (l : WithRoom DumpRec). l.items) dumps ∙ sym (append-nil a.dumps.items);
  deliveries_room = ap (λ (l : WithRoom Delivery). l.spare + length l.items) deliveries;
  dumps_room = ap (λ (l : WithRoom DumpRec). l.spare + length l.items) dumps;
}

-- a vertex took a copy
pub got_goes : (cap patience i v q : ℕ) (k : McCopy) (a b : Holdings) (old new : End) → Writes a.ends.items b.ends.items q old new → EndTakes k old new
    → b.unsent.items ≡ a.unsent.items → b.deliveries.items ≡ a.deliveries.items ++ record { vertex = v; copy = k } ∷ [] → b.deliveries.spare + 1 ≡ a.deliveries.spare → b.dumps ≡ a.dumps
    → Goes cap patience a (got i v q k ∷ []) b
got_goes cap patience i v q k a b old new w takes unsent deliveries spare dumps = record {
  ends_long = written_long a.ends.items b.ends.items q old new w;
  ends = ends_at cap patience a.ends.items b.ends.items (got i v q k ∷ []) q old new w
      (subst (λ (l : List McCopy). EndGoes cap patience [] l [] old new) (sym (only_here q (k ∷ []))) (end_goes_takes cap patience k old new takes))
      (λ p other. record { none_entered = refl; none_left = not_other q p (k ∷ []) other; none_lost = refl });
  unsent_long = ap length unsent;
  unsent = same_unsent a b unsent;
  delivered = deliveries;
  dumped = ap (λ (l : WithRoom DumpRec). l.items) dumps ∙ sym (append-nil a.dumps.items);
  deliveries_room = grown a.deliveries b.deliveries (record { vertex = v; copy = k } ∷ []) deliveries spare;
  dumps_room = ap (λ (l : WithRoom DumpRec). l.spare + length l.items) dumps;
}

-- a vertex sent a copy
pub sent_goes : (cap patience tries i v : ℕ) (k : McCopy) (rest : List McCopy) (a b : Holdings) (old new : End) → Writes a.ends.items b.ends.items (injection_place i) old new
    → EndSends cap tries k old new
    → v < length a.unsent.items → slice_index_or a.unsent.items v [] ≡ k ∷ rest → b.unsent.items ≡ set a.unsent.items v rest → b.deliveries ≡ a.deliveries → b.dumps ≡ a.dumps
    → Goes cap patience a (sent i v k ∷ []) b
sent_goes cap patience tries i v k rest a b old new w sends below first unsent deliveries dumps = record {
  ends_long = written_long a.ends.items b.ends.items (injection_place i) old new w;
  ends = ends_at cap patience a.ends.items b.ends.items (sent i v k ∷ []) (injection_place i) old new w
      (subst (λ (l : List McCopy). EndGoes cap patience l [] [] old new) (sym (only_here (injection_place i) (k ∷ []))) (end_goes_sends cap patience tries k old new sends))
      (λ p other. record { none_entered = not_other (injection_place i) p (k ∷ []) other; none_left = refl; none_lost = refl });
  unsent_long = ap length unsent ∙ length-set a.unsent.items v rest;
  unsent = each;
  delivered = ap (λ (l : WithRoom Delivery). l.items) deliveries ∙ sym (append-nil a.deliveries.items);
  dumped = ap (λ (l : WithRoom DumpRec). l.items) dumps ∙ sym (append-nil a.dumps.items);
  deliveries_room = ap (λ (l : WithRoom Delivery). l.spare + length l.items) deliveries;
  dumps_room = ap (λ (l : WithRoom DumpRec). l.spare + length l.items) dumps;
}
  where
    each : (u : ℕ) → slice_index_or a.unsent.items u [] ≡ sent_by u (sent i v k ∷ []) ++ slice_index_or b.unsent.items u []
    each u = grind (arith, cases_eq u v, get_or-set_same a.unsent.items v rest, only_here v (k ∷ []), get_or-set_other a.unsent.items v u rest, not_other)

-- ---- an output was served

-- where no queue stands behind the output, or one
served_nowhere : (cap patience i : ℕ) (c : Chip) (s : Service) (a b : Holdings) → b.ends.items ≡ a.ends.items → b.unsent.items ≡ a.unsent.items → b.deliveries ≡ a.deliveries
    → b.dumps.items ≡ a.dumps.items ++ recorded c s s.fate → b.dumps.spare + length (recorded c s s.fate) ≡ a.dumps.spare → Goes cap patience a (served i c None s ∷ []) b
served_nowhere cap patience i c s a b ends unsent deliveries dumped spare = grind (arith, same_Some, end_goes_none, end_stays_same, same_unsent, append-nil, grown)

served_end : (cap patience i : ℕ) (c : Chip) (q : ℕ) (o : Out) (k : McCopy) (fate : Served) (old new : End) → EndServes cap patience (onward k) fate old new
    → EndGoes cap patience (entered q (served i c (Some q) (record { out = o; copy = k; fate = fate }) ∷ [])) (left q (served i c (Some q) (record { out = o; copy = k; fate = fate }) ∷ []))
    (lost_at q (served i c (Some q) (record { out = o; copy = k; fate = fate }) ∷ [])) old new
served_end cap patience i c q o k fate old new h = grind (arith, only_here, end_goes_sends, end_goes_refuses)

served_there : (cap patience i : ℕ) (c : Chip) (q : ℕ) (o : Out) (k : McCopy) (fate : Served) (a b : Holdings) → SendsThere cap patience q (onward k) fate a.ends.items b.ends.items
    → b.unsent.items ≡ a.unsent.items → b.deliveries ≡ a.deliveries → b.dumps.items ≡ a.dumps.items ++ recorded c (record { out = o; copy = k; fate = fate }) fate
    → b.dumps.spare + length (recorded c (record { out = o; copy = k; fate = fate }) fate) ≡ a.dumps.spare
    → Goes cap patience a (served i c (Some q) (record { out = o; copy = k; fate = fate }) ∷ []) b
served_there cap patience i c q o k fate a b h unsent deliveries dumped spare = record {
  ends_long = written_long a.ends.items b.ends.items q h.old h.new w;
  ends = ends_at cap patience a.ends.items b.ends.items (served i c (Some q) s ∷ []) q h.old h.new w (served_end cap patience i c q o k fate h.old h.new h.serves)
      (λ p other. record { none_entered = not_other q p (brought s fate) other; none_left = refl; none_lost = not_other q p (lost s fate) other });
  unsent_long = ap length unsent;
  unsent = same_unsent a b unsent;
  delivered = ap (λ (l : WithRoom Delivery). l.items) deliveries ∙ sym (append-nil a.deliveries.items);
  dumped = dumped ∙ ap (λ l. a.dumps.items ++ l) (sym (append-nil (recorded c s fate)));
  deliveries_room = ap (λ (l : WithRoom Delivery). l.spare + length l.items) deliveries;
  dumps_room = grown a.dumps b.dumps (recorded c s fate) dumped spare;
}
  where
    s : Service
    s = record { out = o; copy = k; fate = fate }

    w : Writes a.ends.items b.ends.items q h.old h.new
    w = record { stood = h.stood; stands = h.stands }

pub served_goes : (cap patience i : ℕ) (c : Chip) (place : Option ℕ) (o : Out) (k : McCopy) (fate : Served) (a b : Holdings)
    → SendsBehind cap patience place (onward k) fate a.ends.items b.ends.items → b.unsent.items ≡ a.unsent.items
    → b.deliveries ≡ a.deliveries → b.dumps.items ≡ a.dumps.items ++ recorded c (record { out = o; copy = k; fate = fate }) fate
    → b.dumps.spare + length (recorded c (record { out = o; copy = k; fate = fate }) fate) ≡ a.dumps.spare
    → Goes cap patience a (served i c place (record { out = o; copy = k; fate = fate }) ∷ []) b
served_goes cap patience i c None o k fate a b h unsent deliveries dumped spare = served_nowhere cap patience i c (record { out = o; copy = k; fate = fate }) a b h.1 unsent deliveries dumped spare
served_goes cap patience i c (Some q) o k fate a b h unsent deliveries dumped spare = served_there cap patience i c q o k fate a b h unsent deliveries dumped spare

-- a queue that is not behind the output is as it was
pub served_elsewhere : (cap patience : ℕ) (place : Option ℕ) (k : McCopy) (fate : Served) (before after : List End) (q : ℕ) → SendsBehind cap patience place k fate before after →
    place ≢ Some q → slice_get after q ≡ slice_get before q
served_elsewhere cap patience place k fate before after q h other = grind (arith, slice_get-set_other)
