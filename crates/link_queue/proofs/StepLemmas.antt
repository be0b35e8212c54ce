-- Each step of a link keeps its rule.
use Rattle.std.proofs.Common.{◌≡◌, ◌≢◌, ℕ, zero, suc, ◌+◌, ◌<◌, ◌≤◌, true, false, true≢false, List, [], ◌∷◌, ◌++◌, drop, length, set, sym, refl, ap, ◌∙◌, subst, ⊎_elim, append_assoc, arith, inl, inr}
use Rattle.std.proofs.Common.{◌⊎◌, All}
use Rattle.std.proofs.lemmas.List.{append-nil, length-append, drop_at, Elements.All-push}
use mathlib.Core.Option.{some, some-ne-none}
use lib.ListN.{get_elem?}
use Rattle.crossbeam_queue.specs.Fifo.{Pushes, Pops, Forks, Merges, Learns}
use Rattle.crossbeam_queue.proofs.Lists.{at_set}
use Rattle.spin_base.specs.declared.copies.McCopy.{McCopy}
use Rattle.link_queue.specs.{declared.known.Known.Known, TheRule.put_of, TheRule.IsFullNote, TheRule.IsNoneNote, TheRule.StartsWith, TheRule.SenderFits, TheRule.ReceiverFits, TheRule.FitsRule}
use Rattle.link_queue.specs.{TheRule.Kept, Ups.PoppedTo, Ups.Rests, Steps.blank, Steps.newborn, Steps.placed, Steps.offered, Steps.popped, Steps.full_noted, Steps.none_noted, Steps.told}
use Rattle.link_queue.specs.Steps.{sender_of, receiver_of, joined, renewed, SeenFull, SeenEmpty, Balanced}

abbrev Each : (ℕ → Known → Type 0) → List Known → Type 0
Each F views = (port : ℕ) (v : Known) → get_elem? views port ≡ some v → F port v

each_set : (F : ℕ → Known → Type 0) (views : List Known) (port : ℕ) (w : Known) → F port w
    → ((j : ℕ) (u : Known) → j ≢ port → get_elem? views j ≡ some u → F j u) → Each F (set views port w)
each_set F views port w mine others j u e = grind (arith, at_set views port j w u e)

each_snoc : (F : ℕ → Known → Type 0) (views : List Known) (w : Known) → Each F views → ((j : ℕ) → j ≡ length views → F j w) → Each F (views ++ w ∷ [])
each_snoc F views w old new j u e =
    ⊎_elim (λ (x : get_elem? views j ≡ some u). old j u x)
    (λ (x : (j ≡ length views) × (w ≡ u)). subst (F j) x.1 (new j x.0)) (at_end views w u j e)
  where
    at_end : (l : List Known) (a b : Known) (j : ℕ) → get_elem? (l ++ a ∷ []) j ≡ some b → (get_elem? l j ≡ some b) ⊎ ((j ≡ length l) × (a ≡ b))
    at_end [] a b zero e = inr (refl, cc)
    at_end [] a b (suc j) e = absurd (some-ne-none b (sym e))
    at_end (x ∷ xs) a b zero e = inl e
    at_end (x ∷ xs) a b (suc j) e = ⊎_elim (λ (h : get_elem? xs j ≡ some b). inl h) (λ (h : (j ≡ length xs) × (a ≡ b)). inr (ap suc h.0, h.1)) (at_end xs a b j e)

never : {A : Type 0} → false ≡ true → A
never e = absurd (true≢false (sym e))

length_more : (xs : List McCopy) (x : McCopy) → length (xs ++ x ∷ []) ≡ length xs + 1
length_more xs x = length-append xs (x ∷ []) ∙ refl

full_grows : (cap : ℕ) (put took put' took' : List McCopy) (xs : List ℕ) → length put ≤ length put' → length took ≤ length took'
    → All (IsFullNote cap put took) xs → All (IsFullNote cap put' took') xs
full_grows cap put took put' took' xs a b all k d inside = let h = all k d inside in (h.0, omega (arith, h.1), omega (arith, h.2))

none_grows : (first took took' : List McCopy) (xs : List ℕ) → length took ≤ length took' → All (IsNoneNote first took) xs → All (IsNoneNote first took') xs
none_grows first took took' xs a all k d inside = let h = all k d inside in (h.0, omega (arith, h.1))

-- the receiver, when a copy enters
receiver_put : (seat port : ℕ) (put took : List McCopy) (v : Known) (x : McCopy) → ReceiverFits seat put took port v → ReceiverFits seat (put ++ x ∷ []) took port v
receiver_put seat port put took v x f = record {
  seated = f.seated;
  knows = f.knows;
  room = omega (arith, f.room, length_more put x);
  begins = (f.begins.0 ++ x ∷ [], sym (append_assoc v.first f.begins.0 (x ∷ [])) ∙ ap (λ l. l ++ x ∷ []) f.begins.1);
  noted = f.noted;
}

-- the sender, when a copy is taken
sender_took : (seat port : ℕ) (put took : List McCopy) (v : Known) (x : McCopy) → SenderFits seat put took port v → SenderFits seat put (took ++ x ∷ []) port v
sender_took seat port put took v x f = grind (arith, length_more took x, full_grows v.cap put took put (took ++ x ∷ []) v.fulls (omega arith) (omega (arith, length_more took x)) f.noted)

module _ (n port : ℕ) (v : Known) (x : McCopy) (may : v.sends ≡ true) (cap : n ≡ v.cap) where
  -- what the sender has after a push whose view w has all that entered
  sender_put : (items : List McCopy) (views : List Known) (k : Kept items views) (w : Known) → length items < n → SenderFits k.sender k.put k.took port v
      → put_of w ≡ put_of v ++ x ∷ [] → w.held ≡ length items + 1 → w.cap ≡ v.cap → w.fulls ≡ v.fulls → SenderFits k.sender (k.put ++ x ∷ []) k.took port w
  sender_put items views k w room f put held same_cap same_fulls = grind (arith, length_more, length-append, full_grows)

  after_put : (items : List McCopy) (views : List Known) (k : Kept items views) (w : Known) → SenderFits k.sender k.put k.took port v
      → FitsRule k.sender k.receiver (k.put ++ x ∷ []) k.took port w → Kept (items ++ x ∷ []) (set views port w)
  after_put items views k w mine new = record {
    sender = k.sender;
    receiver = k.receiver;
    put = k.put ++ x ∷ [];
    took = k.took;
    balance = ap (λ l. l ++ x ∷ []) k.balance ∙ append_assoc k.took items (x ∷ []);
    each = each_set (FitsRule k.sender k.receiver (k.put ++ x ∷ []) k.took) views port w new
        (λ j u other e. (λ p. absurd (other (((k.each j u e).0 p).seated ∙ sym mine.seated)), λ p. receiver_put k.receiver j k.put k.took u x ((k.each j u e).1 p)));
  }

  pub offers : Pushes Kept n port v x (λ w. (h : ℕ) × (w ≡ offered v x h))
  offers items views room k at =
      let w = offered v x (length items + 1) in
      let mine = (k.each port v at).0 may in
      let new : SenderFits k.sender (k.put ++ x ∷ []) k.took port w = sender_put items views k w room mine (sym (append_assoc v.first v.sent (x ∷ []))) refl refl refl in (
        w,
        after_put items views k w mine (
          λ _. new,
          λ p. let old = (k.each port v at).1 p in let grown = receiver_put k.receiver port k.put k.took v x old in
              record { seated = grown.seated; knows = grown.knows; room = grown.room; begins = grown.begins; noted = grown.noted },
        ),
        (length items + 1, refl),
      )

  pub places : v.sent ≡ [] → v.nones ≡ [] → Pushes Kept n port v x (λ w. (h : ℕ) × (w ≡ placed v x h))
  places none no_notes items views room k at =
      let w = placed v x (length items + 1) in
      let mine = (k.each port v at).0 may in
      let whole : put_of v ≡ v.first = ap (λ l. v.first ++ l) none ∙ append-nil v.first in
      let put : put_of w ≡ put_of v ++ x ∷ [] = ap (λ l. (v.first ++ x ∷ []) ++ l) none ∙ append-nil (v.first ++ x ∷ []) ∙ ap (λ l. l ++ x ∷ []) (sym whole) in
      let new = sender_put items views k w room mine put refl refl refl in (
        w,
        after_put items views k w mine (
          λ _. new,
          λ p. let old = (k.each port v at).1 p in
              record {
                seated = old.seated;
                knows = old.knows;
                room = omega (arith, old.room, length_more k.put x);
                begins = ([], append-nil (v.first ++ x ∷ []) ∙ ap (λ l. l ++ x ∷ []) (sym whole ∙ mine.knows));
                noted = subst (λ l. All (IsNoneNote (v.first ++ x ∷ []) k.took) l) (sym no_notes) (λ i d inside. absurd (omega arith));
              },
        ),
        (length items + 1, refl),
      )

module _ (port : ℕ) (v : Known) (may : v.takes ≡ true) where
  pops_at : (x : McCopy) (items : List McCopy) (views : List Known) (k : Kept (x ∷ items) views) → get_elem? views port ≡ some v → Kept items (set views port (popped v x 0))
  pops_at x items views k at =
      let w = popped v x 0 in
      let mine = (k.each port v at).1 may in
      let took = k.took ++ x ∷ [] in
      let balance : k.put ≡ took ++ items = k.balance ∙ sym (append_assoc k.took (x ∷ []) items) in
      let total = ap length balance ∙ length-append took items in
      let more = length_more k.took x in
      record {
        sender = k.sender;
        receiver = k.receiver;
        put = k.put;
        took = took;
        balance = balance;
        each = each_set (FitsRule k.sender k.receiver k.put took) views port w (
          λ p. (let f = sender_took k.sender port k.put k.took v x ((k.each port v at).0 p) in record { seated = f.seated; knows = f.knows; room = f.room; bound = f.bound; noted = f.noted }),
          λ _. record {
            seated = mine.seated;
            knows = ap (λ l. l ++ x ∷ []) mine.knows;
            room = omega (arith, total);
            begins = mine.begins;
            noted = none_grows v.first k.took took v.nones (omega (arith, more)) mine.noted;
          },
        )
            (λ j u other e. (λ p. sender_took k.sender j k.put k.took u x ((k.each j u e).0 p), λ p. absurd (other (((k.each j u e).1 p).seated ∙ sym mine.seated))));
      }

  pub takes : Pops Kept port v (λ x w. (h : ℕ) × (w ≡ popped v x h))
  takes x items views k at = (popped v x 0, pops_at x items views k at, (0, refl))

  pub empties : Pops Kept port v (λ x w. w ≡ popped v x 0)
  empties x items views k at = (popped v x 0, pops_at x items views k at, refl)

  pub sees_empty : Learns Kept port v (SeenEmpty v)
  sees_empty items views k at =
      let mine = (k.each port v at).1 may in
      let total = ap length k.balance ∙ length-append k.took items in (
        omega (arith, total, mine.room),
        (mine.begins.0, mine.begins.1 ∙ k.balance ∙ ap (λ l. l ++ items) (sym mine.knows)),
      )

  pub balanced : v.sends ≡ true → Learns Kept port v (Balanced v)
  balanced sends items views k at =
      let mine = (k.each port v at).1 may in
      let sender = (k.each port v at).0 sends in (
        sender.knows ∙ k.balance ∙ ap (λ l. l ++ items) (sym mine.knows),
        subst (λ (p : List McCopy × List McCopy). All (IsFullNote v.cap p.0 p.1) v.fulls) (λ i. (sym sender.knows i, sym mine.knows i)) sender.noted,
      )

pub sees_full : (port : ℕ) (v : Known) → v.sends ≡ true → Learns Kept port v (SeenFull v)
sees_full port v may items views k at =
    let mine = (k.each port v at).0 may in
    let total = ap length k.balance ∙ length-append k.took items in
    (omega (arith, total, mine.room), mine.bound, omega (arith, total, ap length mine.knows))

all_more : (P : ℕ → Type 0) (xs : List ℕ) (x : ℕ) → All P xs → P x → All P (xs ++ x ∷ [])
all_more P xs x all here = All-push P xs x all here

-- one view changes, and one that knows nothing comes
plain : (port : ℕ) (v w : Known) (items : List McCopy) (views : List Known) (k : Kept items views) → FitsRule k.sender k.receiver k.put k.took port w → Kept items (set views port w ++ blank ∷ [])
plain port v w items views k new = record {
  sender = k.sender;
  receiver = k.receiver;
  put = k.put;
  took = k.took;
  balance = k.balance;
  each = each_snoc (FitsRule k.sender k.receiver k.put k.took) (set views port w) blank
      (each_set (FitsRule k.sender k.receiver k.put k.took) views port w new (λ j u other e. k.each j u e))
      (λ j e. (λ p. never p, λ p. never p));
}

pub tells : (n port : ℕ) (v : Known) → v ≡ newborn → Forks Kept port v (told n v) blank
tells n port v new items views k at =
    let f = k.each port v at in
    plain port v (told n v) items views k (
      λ p. (let s = f.0 p in record {
        seated = s.seated;
        knows = s.knows;
        room = s.room;
        bound = omega (arith, ap (λ (u : Known). u.held) new);
        noted = subst (λ l. All (IsFullNote n k.put k.took) l) (sym (ap (λ (u : Known). u.fulls) new)) (λ i d inside. absurd (omega arith));
      }),
      λ p. (let r = f.1 p in record { seated = r.seated; knows = r.knows; room = r.room; begins = r.begins; noted = r.noted }),
    )

pub notes_full : (port : ℕ) (v : Known) → v.sends ≡ true → v.cap ≤ length (put_of v) → v.held ≡ v.cap → Forks Kept port v (full_noted v) blank
notes_full port v may full looked items views k at =
    let f = k.each port v at in
    plain port v (full_noted v) items views k (
      λ p. (let s = f.0 p in record {
        seated = s.seated;
        knows = s.knows;
        room = s.room;
        bound = s.bound;
        noted = all_more (IsFullNote v.cap k.put k.took) v.fulls (length (put_of v)) s.noted
            (let same = ap length s.knows in (full, omega (arith, same), omega (arith, same, s.room)));
      }),
      λ p. (let r = f.1 p in record { seated = r.seated; knows = r.knows; room = r.room; begins = r.begins; noted = r.noted }),
    )

pub notes_none : (port : ℕ) (v : Known) → v.takes ≡ true → length v.first ≤ length v.took → Forks Kept port v (none_noted v) blank
notes_none port v may whole items views k at =
    let f = k.each port v at in
    plain port v (none_noted v) items views k (
      λ p. (let s = f.0 p in record { seated = s.seated; knows = s.knows; room = s.room; bound = s.bound; noted = s.noted }),
      λ p. (let r = f.1 p in record {
        seated = r.seated;
        knows = r.knows;
        room = r.room;
        begins = r.begins;
        noted = all_more (IsNoneNote v.first k.took) v.nones (length v.took) r.noted (let same = ap length r.knows in (whole, omega (arith, same)));
      }),
    )

pub seats : (port : ℕ) (v : Known) → v.sends ≡ true → v.takes ≡ true → v.took ≡ [] → v.sent ≡ [] → v.nones ≡ [] → Forks Kept port v (sender_of v) (receiver_of v)
seats port v sends takes none no_sent no_notes items views k at =
    let f = k.each port v at in
    let s = f.0 sends in
    let r = f.1 takes in
    let l = sender_of v in
    let vs = set views port l in
    record {
      sender = k.sender;
      receiver = length vs;
      put = k.put;
      took = k.took;
      balance = k.balance;
      each = each_snoc (FitsRule k.sender (length vs) k.put k.took) vs (receiver_of v)
          (each_set (FitsRule k.sender (length vs) k.put k.took) views port l
          (λ _. record { seated = s.seated; knows = s.knows; room = s.room; bound = s.bound; noted = s.noted }, λ p. never p)
          (λ j u other e. ((k.each j u e).0, λ p. absurd (other (((k.each j u e).1 p).seated ∙ sym r.seated)))))
          (λ j e. (
            λ p. never p,
            λ _. record {
              seated = e;
              knows = sym none ∙ r.knows;
              room = (let room = r.room in omega arith);
              begins = r.begins;
              noted = λ i d inside. absurd (omega arith);
            },
          ));
    }

pub joins : (port : ℕ) (v : Known) (other : ℕ) (u : Known) → v.sends ≡ true → u.takes ≡ true → Merges Kept port v other u (joined v u) blank
joins port v other u sends takes items views k at two at' =
    let both = joined v u in
    let s = (k.each port v at).0 sends in
    let was : get_elem? views other ≡ some u = ⊎_elim (λ (x : (other ≡ port) × (both ≡ u)). absurd (two x.0)) (λ (x : (other ≢ port) × (get_elem? views other ≡ some u)). x.1) (at_set views port other both u at') in
    let r = (k.each other u was).1 takes in
    let Now : ℕ → Known → Type 0 = λ j y. j ≢ other → FitsRule k.sender port k.put k.took j y in
    let now : Each Now (set views port both) =
    each_set Now views port both
    (λ _. (
      λ _. record { seated = s.seated; knows = s.knows; room = s.room; bound = s.bound; noted = s.noted },
      λ _. record {
        seated = refl;
        knows = r.knows;
        room = (let room = r.room in omega arith);
        begins = (v.sent, s.knows);
        noted = λ i d inside. absurd (omega arith);
      },
    ))
    (λ j y _ e apart. ((k.each j y e).0, λ p. absurd (apart (((k.each j y e).1 p).seated ∙ sym r.seated)))) in
    record {
      sender = k.sender;
      receiver = port;
      put = k.put;
      took = k.took;
      balance = k.balance;
      each = each_set (FitsRule k.sender port k.put k.took) (set views port both) other blank (λ p. never p, λ p. never p) (λ j y apart e. now j y e apart);
    }

-- where nothing is held, all of the first list was taken
pub whole_taken : (took first items : List McCopy) → length items ≡ 0 → StartsWith (took ++ items) first → StartsWith took first
whole_taken took first [] none h = (h.0, h.1 ∙ append-nil took)
whole_taken took first (x ∷ xs) none h = absurd (omega arith)

pub whole_length : (took first : List McCopy) → StartsWith took first → length first ≤ length took
whole_length took first h = let e = ap length (sym h.1) ∙ length-append first h.0 in omega (arith, e)

pub begins : Kept [] (newborn ∷ [])
begins = record {
  sender = 0;
  receiver = 0;
  put = [];
  took = [];
  balance = refl;
  each = each_snoc (FitsRule 0 0 [] []) [] newborn (λ j u e. absurd (some-ne-none u (sym e))) (λ j e. (
    λ _. record { seated = e; knows = refl; room = omega arith; bound = omega arith; noted = λ i d inside. absurd (omega arith) },
    λ _. record { seated = e; knows = refl; room = omega arith; begins = ([], refl); noted = λ i d inside. absurd (omega arith) },
  ));
}

-- ---- a link that is emptied

-- a seat that popped fewer copies than were held finds some
pub some_left : (v w : Known) (held got none : List McCopy) → Balanced v held → PoppedTo v got w → Balanced w none → length got < length held
    → length none ≡ 0 → ⊥
some_left v w held got none first popped last fewer nothing = grind (arith, length-append v.took got, length-append v.took held, length-append w.took none)

-- one that popped as many as were held popped all
pub all_popped : (s t v w : Known) (held got left : List McCopy) → v ≡ joined s t → Balanced v held → PoppedTo v got w → Balanced w left
    → length got ≡ length held → put_of s ≡ t.took ++ got
all_popped s t v w held got [] is first popped last many = grind (arith, append-nil w.took)
all_popped s t v w held got (x ∷ xs) is first popped last many = grind (arith, length-append v.took got, length-append v.took held, length-append w.took (x ∷ xs))

-- ---- a link that rests

-- what is held is what entered, less what was taken
held_is : (put took items : List McCopy) → put ≡ took ++ items → drop (length took) put ≡ items
held_is put took items balance = ap (drop (length took)) balance ∙ drop_at took items (length took) refl

pub renews : (port : ℕ) (v : Known) → v.sends ≡ true → v.takes ≡ true → Forks Kept port v (sender_of (renewed v)) (receiver_of (renewed v))
renews port v sends takes items views k at =
    let f = k.each port v at in
    let s = f.0 sends in
    let r = f.1 takes in
    let w = renewed v in
    let l = sender_of w in
    let vs = set views port l in
    let first : w.first ≡ items = held_is (put_of v) v.took items (s.knows ∙ k.balance ∙ ap (λ l. l ++ items) (sym r.knows)) in
    let put : w.first ++ [] ≡ items = append-nil w.first ∙ first in
    let total = ap length k.balance ∙ length-append k.took items in
    let room = s.room in
    record {
      sender = k.sender;
      receiver = length vs;
      put = items;
      took = [];
      balance = refl;
      each = each_snoc (FitsRule k.sender (length vs) items []) vs (receiver_of w)
          (each_set (FitsRule k.sender (length vs) items []) views port l
          (λ _. record { seated = s.seated; knows = put; room = omega (arith, total, room); bound = s.bound; noted = λ i d inside. absurd (omega arith) }, λ p. never p)
          (λ j u other e. (λ p. absurd (other (((k.each j u e).0 p).seated ∙ sym s.seated)), λ p. absurd (other (((k.each j u e).1 p).seated ∙ sym r.seated)))))
          (λ j e. (
            λ p. never p,
            λ _. record { seated = e; knows = refl; room = omega arith; begins = ([], put); noted = λ i d inside. absurd (omega arith) },
          ));
    }

pub rested : (cap count : ℕ) (v w a b : Known) (held : List McCopy) → v.cap ≡ cap → Balanced (joined v w) held → length held ≡ count → count ≤ cap → a ≡ sender_of (renewed (joined v w)) →
    b ≡ receiver_of (renewed (joined v w)) → Rests cap v w a b count
rested cap count v w a b held cap_is balanced many bound a_is b_is = grind (arith, held_is (put_of v) w.took held balanced.0)
