-- Links that rest or are widened, one after the other.
use Rattle.mesh_run.proofs.Common.{All, All-at, AreEnds, AreUp, Bool, Err, HasPlaces, HoldsAll, IsDown, IsRx, IsTx, IsUp, LacksEnds, Link, LinkEnds, List, McCopy, NoNotes, Ok, OnErr, RestAll, Rested}
use Rattle.mesh_run.proofs.Common.{Rests, RestsAt, Result, Rx, Some, Standing, StayUp, Tx, UpAt, WasUp, [], ap, append-nil, ap₂, arith, cap_of, cases_Bool, cases_lt, cond-false, eqb-true}
use Rattle.mesh_run.proofs.Common.{free_places_of, get_or, get_or-set_same, get_or_from_slice_get, inl, inr, is_empty, length, length-map, length-set, list_all, list_all_more, map, map-set, min}
use Rattle.mesh_run.proofs.Common.{nat_eq, places_for, queue_of_link, refl, same_Some, sending, set, slice_get, slice_get-mapped, slice_get-set_other, slice_get-set_same, slice_get_there}
use Rattle.mesh_run.proofs.Common.{slice_get_within, subst, sym, take, take-set-le, take_all, taking, true, ℕ, ◌&&◌, ◌+◌, ◌-◌, ◌<◌, ◌∙◌, ◌≡◌, ◌≤◌}
use Rattle.mesh_run.proofs.{BringingUp.fewer_fit, BringingUp.made_with, Going.was_set, Holding.as_many, Holding.only_ends, Slots.in_links, Slots.set_again, Slots.slot_is}

-- ---- links, of which the first ones are done

-- The first links are as P says of what they were, and the others are as they were.
pub record SoFar (P : LinkEnds → LinkEnds → Type 0) (back : List LinkEnds) (k : ℕ) (s : Standing) : Type 0 where
  pub now : List LinkEnds
  pub long : length now ≡ length back
  pub holds : HoldsAll now s
  pub done : (i : ℕ) (d e : LinkEnds) → i < k → slice_get back i ≡ Some d → slice_get now i ≡ Some e → P d e
  pub left : (i : ℕ) → k ≤ i → slice_get now i ≡ slice_get back i

pub none_done : (P : LinkEnds → LinkEnds → Type 0) (back : List LinkEnds) (s : Standing) → HoldsAll back s → SoFar P back 0 s
none_done P back s holds = record { now = back; long = refl; holds = holds; done = λ i d e before. absurd (omega (arith, before)); left = λ i from. refl }

-- the next link, as it was and as it stands
pub record NextLink (back now : List LinkEnds) (k : ℕ) : Type 0 where
  pub old : LinkEnds
  pub was : slice_get back k ≡ Some old
  pub stands : slice_get now k ≡ Some old

-- of the links that stood at first, as many as were counted
module _ {P : LinkEnds → LinkEnds → Type 0} {back : List LinkEnds} {k count : ℕ} {s start : Standing} (f : SoFar P back k s) (holds : HoldsAll back start)
    (many : count ≡ length start.links.items) where
  pub next_at : k < count → NextLink back f.now k
  next_at below = let old = slice_get_there back k (omega (arith, below, many, as_many back start holds)) in record { old = old.0; was = old.1; stands = f.left k (omega arith) ∙ old.1 }

  pub links_past : count ≤ k → length back ≤ k
  links_past past = let all = as_many back start holds in omega (arith, past, many, all)

pub one_done : {P : LinkEnds → LinkEnds → Type 0} {back : List LinkEnds} {k : ℕ} {s t : Standing} (new : LinkEnds) → (f : SoFar P back k s) → (n : NextLink back f.now k) → P n.old new →
    HoldsAll (set f.now k new) t → SoFar P back (k + 1) t
one_done {P} {back} {k} {s} {t} new f n is holds = record {
  now = set f.now k new;
  long = length-set f.now k new ∙ f.long;
  holds = holds;
  done = λ i d e before at_d at_e.
      was_set (λ i e. i < k + 1 → slice_get back i ≡ Some d → P d e) f.now k new (λ i e other at less there. f.done i d e (omega (arith, less, other)) there at)
      (λ less there. subst (λ (x : LinkEnds). P x new) (same_Some n.old d (sym n.was ∙ there)) is) i e at_e before at_d;
  left = λ i from. slice_get-set_other f.now k i new (λ here. omega (arith, from, here)) ∙ f.left i (omega (arith, from));
}

-- ---- links that rest

-- the link rests, and holds some copies
pub record RestsAs (cap : ℕ) (old new : LinkEnds) : Type 0 where
  pub few : cap_of new.link ≤ cap
  pub ends : AreEnds new
  pub link : new.link ≡ old.link
  pub held : List McCopy
  pub down : IsDown old held
  pub tx_new : NoNotes held (sending new.tx)
  pub rx_new : NoNotes held (taking new.rx)

rests_as : {cap : ℕ} {ends : List LinkEnds} {place : ℕ} {old : LinkEnds} {s : Standing} {held : ℕ} → WasUp cap old → (r : RestsAt ends place old s held) → RestsAs cap old r.now
rests_as {cap} was r = grind arith

free_fits : (cap places held free : ℕ) → held ≤ places → places ≤ cap → free ≤ free_places_of cap places held → HasPlaces cap free held places
free_fits cap places held free fits few within = grind (arith, cases_Bool (nat_eq places cap), nat_eq places cap, eqb-true, cond-false)

-- The first links rest, each of them has so many places free, and whether they hold a copy is known.
pub record RestSoFar (cap : ℕ) (back : List LinkEnds) (k : ℕ) (s : Standing) (quiet : Bool) (free : ℕ) : Type 0 where
  pub so_far : SoFar (RestsAs cap) back k s
  pub fits : (i : ℕ) (e : LinkEnds) → i < k → slice_get so_far.now i ≡ Some e → HasPlaces cap free (length (queue_of_link e)) (cap_of e.link)
  pub quiet_is : quiet ≡ list_all is_empty (take k (map queue_of_link so_far.now))

pub none_rest : (cap : ℕ) (back : List LinkEnds) (s : Standing) (free : ℕ) → HoldsAll back s → RestSoFar cap back 0 s true free
none_rest cap back s free holds = record { so_far = none_done (RestsAs cap) back s holds; fits = λ i e before. absurd (omega (arith, before)); quiet_is = refl }

-- what held of the link at first
pub next_was : (P : LinkEnds → Type 0) {back now : List LinkEnds} {k : ℕ} → All P back → (n : NextLink back now k) → P n.old
next_was P {back} {k = k} all n = All-at P back k n.old all n.was

pub one_rests : {cap : ℕ} {back : List LinkEnds} {k : ℕ} {s t : Standing} {quiet more : Bool} {free less held places : ℕ} (f : RestSoFar cap back k s quiet free) →
    (n : NextLink back f.so_far.now k) → All (WasUp cap) back →
    (r : RestsAt f.so_far.now k n.old t held) → places ≡ cap_of r.now.link → less ≡ min free (free_places_of cap places held) → more ≡ (quiet && nat_eq held 0) → RestSoFar cap back (k + 1) t more less
unfolding one_done rests_as
one_rests {cap} {back} {k} {s} {t} {quiet} {more} {free} {less} {held} {places} f n were r places_are less_is more_is =
    let was = next_was (WasUp cap) were n in
    let below = slice_get_within back k n.old n.was in
    let now = f.so_far.now in
    let long = f.so_far.long in
    let here : k < length now = omega (arith, below, long) in
    let first : queue_of_link r.now ≡ r.rests.held = r.rests.sender_new.first in
    let count : held ≡ length (queue_of_link r.now) = r.rests.counts ∙ ap length (sym first) in
    let bound = r.rests.bound in
    let rest_count = r.rests.counts in
    let caps : cap_of r.now.link ≡ cap_of n.old.link = ap cap_of r.link in
    let few = was.few in
    let has : HasPlaces cap less held places = free_fits cap places held less (omega (arith, bound, rest_count, caps, places_are)) (omega (arith, few, caps, places_are)) (omega (arith, less_is)) in
    let mapped = length-map now queue_of_link in
    let qs = map queue_of_link now in
    let inside : k < length (set qs k (queue_of_link r.now)) = (let l = length-set qs k (queue_of_link r.now) in omega (arith, l, mapped, here)) in
    let all : list_all is_empty (take (k + 1) (set qs k (queue_of_link r.now))) ≡ (quiet && nat_eq held 0) =
    list_all_more is_empty (set qs k (queue_of_link r.now)) k [] inside
    ∙ ap₂ (λ (a b : Bool). a && b) (ap (list_all is_empty) (take-set-le k qs k (queue_of_link r.now) (omega arith)) ∙ sym f.quiet_is)
    (ap is_empty (get_or-set_same qs k (queue_of_link r.now) [] (omega (arith, mapped, here))) ∙ ap (λ c. nat_eq c 0) (sym count)) in
    record {
      so_far = one_done r.now f.so_far n (rests_as was r) r.holds;
      fits = λ i e before at.
          was_set (λ i e. i < k + 1 → HasPlaces cap less (length (queue_of_link e)) (cap_of e.link)) now k r.now
          (λ i e other at before. fewer_fit cap free less _ _ (omega (arith, less_is)) (f.fits i e (omega (arith, before, other)) at))
          (λ before. subst (λ (p : ℕ × ℕ). HasPlaces cap less p.0 p.1) (λ j. (count j, places_are j)) has) i e at before;
      quiet_is = more_is ∙ (sym all ∙ ap (λ l. list_all is_empty (take (k + 1) l)) (sym (map-set queue_of_link now k r.now)));
    }

-- a link that rests is up, with what it holds
rest_is_up : (cap free : ℕ) (old new : LinkEnds) → RestsAs cap old new → HasPlaces cap free (length (queue_of_link new)) (cap_of new.link) → IsUp cap free (queue_of_link new) new
rest_is_up cap free old new r has = grind arith

pub all_rest : {cap : ℕ} {back : List LinkEnds} {k : ℕ} {s : Standing} (rested : Rested) → RestSoFar cap back k s rested.quiet rested.free → length back ≤ k → RestAll cap back s rested
all_rest {cap} {back} {k} rested f past =
    let now = f.so_far.now in
    let long = f.so_far.long in
    let mapped = length-map now queue_of_link in
    record {
      now = now;
      holds = f.so_far.holds;
      long = long;
      up = record {
        long = sym mapped;
        each = λ i q e at_q at_e.
            let inside = slice_get_within now i e at_e in
            let old = slice_get_there back i (omega (arith, inside, long)) in
            let within : i < k = omega (arith, inside, long, past) in
            subst (λ (l : List McCopy). IsUp cap rested.free l e) (same_Some (queue_of_link e) q (sym (slice_get-mapped queue_of_link now i e at_e) ∙ at_q))
            (rest_is_up cap rested.free old.0 e (f.so_far.done i old.0 e within old.1 at_e) (f.fits i e within at_e));
      };
      down = λ i e q at.
          let inside = slice_get_within back i e at in
          let new = slice_get_there now i (omega (arith, inside, long)) in
          let r = f.so_far.done i e new.0 (omega (arith, inside, past)) at new.1 in
          subst (IsDown e) (sym (get_or_from_slice_get (map queue_of_link now) i (queue_of_link new.0) q (slice_get-mapped queue_of_link now i new.0 new.1) ∙ r.tx_new.first)) r.down;
      quiet = f.quiet_is ∙ ap (list_all is_empty) (take_all k (map queue_of_link now) (omega (arith, mapped, long, past)));
    }

-- ---- links that are widened

-- the link is up with the queue that the old one had
abbrev pub StaysAs : ℕ → ℕ → LinkEnds → LinkEnds → Type 0
StaysAs cap more old new = IsUp cap more (queue_of_link old) new

pub stay_up : (cap more : ℕ) (back now : List LinkEnds) → length now ≡ length back →
    ((i : ℕ) (d e : LinkEnds) → slice_get back i ≡ Some d → slice_get now i ≡ Some e → StaysAs cap more d e) → AreUp cap more (map queue_of_link back) now
stay_up cap more back now long each = record {
  long = omega (arith, long, length-map back queue_of_link);
  each = λ i q e at_q at_e.
      let old = slice_get_there back i (omega (arith, slice_get_within now i e at_e, long)) in
      subst (λ (l : List McCopy). IsUp cap more l e) (same_Some (queue_of_link old.0) q (sym (slice_get-mapped queue_of_link back i old.0 old.1) ∙ at_q)) (each i old.0 e old.1 at_e);
}

pub fewer : (cap more : ℕ) (queue : List McCopy) (e : LinkEnds) → IsUp cap more queue e → IsUp cap 0 queue e
fewer cap more queue e up = record { ends = up.ends; holds = fewer_fit cap more 0 _ _ (omega arith) up.holds; tx_new = up.tx_new; rx_new = up.rx_new }

-- all links are widened
pub all_stay : {cap more : ℕ} {back : List LinkEnds} {k : ℕ} {s : Standing} → SoFar (StaysAs cap more) back k s → length back ≤ k → StayUp cap more back s
all_stay {cap} {more} {back} f past = record {
  now = f.now;
  holds = f.holds;
  up = stay_up cap more back f.now f.long (λ i d e at. f.done i d e (omega (arith, slice_get_within back i d at, past)) at);
}

-- the first links are widened, the next one is not, and all hold what they held
pub some_stay : {cap more : ℕ} {back : List LinkEnds} {k : ℕ} {s t : Standing} (f : SoFar (StaysAs cap more) back k s) → (n : NextLink back f.now k) → AreUp cap 0 (map queue_of_link back) back →
    UpAt cap 0 f.now k (queue_of_link n.old) t → StayUp cap 0 back t
some_stay {cap} {more} {back} {k} f n up at =
    let fewer_places : SoFar (StaysAs cap 0) back k _ = record {
      now = f.now;
      long = f.long;
      holds = f.holds;
      done = λ i d e before at_d at_e. fewer cap more (queue_of_link d) e (f.done i d e before at_d at_e);
      left = f.left;
    } in
    let g = one_done at.now fewer_places n at.up at.holds in
    record {
      now = g.now;
      holds = g.holds;
      up = stay_up cap 0 back g.now g.long (λ i d e at_d at_e. elim (cases_lt i (k + 1)) [
        | inl before ↦ g.done i d e before at_d at_e
        | inr from ↦ subst (StaysAs cap 0 d) (same_Some d e (sym at_d ∙ (sym (g.left i from) ∙ at_e))) (up.each i (queue_of_link d) d (slice_get-mapped queue_of_link back i d at_d) at_d)
      ]);
    }

-- the next link is up
pub next_up : {cap : ℕ} {back now : List LinkEnds} {k : ℕ} (n : NextLink back now k) → AreUp cap 0 (map queue_of_link back) back → IsUp cap 0 (queue_of_link n.old) n.old
next_up {cap} {back} {k = k} n up = up.each k (queue_of_link n.old) n.old (slice_get-mapped queue_of_link back k n.old n.was) n.was

-- ---- one link

-- the link at a place rests, by what its ends tell
-- the link at a place, where its ends have left: they are its own
pub lent_there : (ends : List LinkEnds) (place : ℕ) (old : LinkEnds) (mid : Standing) (link : Link) (tx : Tx) (rx : Rx) → slice_get ends place ≡ Some old → AreEnds old →
    (tx ≡ old.tx) × (rx ≡ old.rx) → LacksEnds ends place mid → link ≡ get_or mid.links.items place link → IsTx link tx × IsRx link rx
lent_there ends place old mid link tx rx at are taken lacks index = grind (arith, slot_is)

pub rests_there : (ends es : List LinkEnds) (place : ℕ) (old o : LinkEnds) (s mid t : Standing) (link : Link) (tx sender : Tx) (rx receiver : Rx) (held : ℕ) → HoldsAll ends s →
    slice_get ends place ≡ Some old →
    HoldsAll es s → slice_get es place ≡ Some o → AreEnds o → (tx ≡ old.tx) × (rx ≡ old.rx) → LacksEnds ends place mid → link ≡ get_or mid.links.items place link → IsTx link sender →
    IsRx link receiver →
    Rests (cap_of link) (sending tx) (taking rx) (sending sender) (taking receiver) held → HoldsAll (set ends place (record old { tx = sender; rx = receiver })) t → RestsAt ends place old t held
rests_there ends es place old o s mid t link tx sender rx receiver held holds at were stood are taken lacks index is_tx is_rx rests now =
    let same_old : o ≡ old = same_Some o old (sym stood ∙ (ap (λ (l : List LinkEnds). slice_get l place) (only_ends es ends s were holds) ∙ at)) in
    let here : AreEnds old = subst AreEnds same_old are in
    let link_is : link ≡ old.link = index ∙ slot_is (λ (e : LinkEnds). e.link) ends mid.links.items place old link lacks.links at in
    let from_tx : Rests (cap_of link) (sending old.tx) (taking rx) (sending sender) (taking receiver) held =
    subst (λ (x : Tx). Rests (cap_of link) (sending x) (taking rx) (sending sender) (taking receiver) held) taken.0 rests in
    let from_rx : Rests (cap_of link) (sending old.tx) (taking old.rx) (sending sender) (taking receiver) held =
    subst (λ (x : Rx). Rests (cap_of link) (sending old.tx) (taking x) (sending sender) (taking receiver) held) taken.1 from_tx in
    record {
      now = record old { tx = sender; rx = receiver };
      holds = now;
      link = refl;
      ends_are = record { tx = subst (λ (l : Link). IsTx l sender) link_is is_tx; rx = subst (λ (l : Link). IsRx l receiver) link_is is_rx; empty = here.empty; spare = here.spare };
      rests = subst (λ (l : Link). Rests (cap_of l) (sending old.tx) (taking old.rx) (sending sender) (taking receiver) held) link_is from_rx;
    }

-- a link that rests at its place
module _ {ends : List LinkEnds} {place : ℕ} {old : LinkEnds} {s : Standing} {held : ℕ} (at : slice_get ends place ≡ Some old) (r : RestsAt ends place old s held) where
  -- as many copies as it holds have places
  held_fits : held ≤ cap_of r.now.link
  held_fits = grind arith

  -- it stands there
  pub rest_stands : slice_get (set ends place r.now) place ≡ Some r.now
  rest_stands = slice_get-set_same ends place old r.now at

  pub rest_within : place < length (set ends place r.now)
  rest_within = slice_get_within (set ends place r.now) place r.now rest_stands

  pub rest_inside : place < length s.links.items
  rest_inside = let many = as_many (set ends place r.now) s r.holds in let within = rest_within in omega (arith, many, within)

  -- the link that is read at its place is the one that rests, and has room for what it holds
  module _ {link : Link} {places : ℕ} (index : link ≡ get_or s.links.items place link) (are : places ≡ cap_of link) where
    pub rest_places : places ≡ cap_of r.now.link
    rest_places = are ∙ ap cap_of (index ∙ slot_is (λ (e : LinkEnds). e.link) (set ends place r.now) s.links.items place r.now link r.holds.links rest_stands)

  -- the same without its ends
  module _ {mid : Standing} (lacks : LacksEnds (set ends place r.now) place mid) where
    pub lent_link : {link : Link} → link ≡ get_or mid.links.items place link → link ≡ r.now.link
    lent_link {link} index = index ∙ slot_is (λ (e : LinkEnds). e.link) (set ends place r.now) mid.links.items place r.now link lacks.links rest_stands

    pub lent_inside : place < length mid.links.items
    lent_inside = in_links (set ends place r.now) place mid lacks rest_within

  -- its ends are as new
  module _ {tx : Tx} (tx_is : tx ≡ r.now.tx) where
    pub rest_sent : NoNotes (sending tx).first (sending tx)
    rest_sent = subst (λ (x : Tx). NoNotes (sending x).first (sending x)) (sym tx_is) (subst (λ (q : List McCopy). NoNotes q (sending r.now.tx)) (sym r.rests.sender_new.first) r.rests.sender_new)

    pub rest_took : {rx : Rx} → rx ≡ r.now.rx → NoNotes (sending tx).first (taking rx)
    rest_took {rx} rx_is = grind arith

    pub rest_count : held ≡ length (sending tx).first
    rest_count = r.rests.counts ∙ (ap length (sym r.rests.sender_new.first) ∙ ap (λ (x : Tx). length (sending x).first) (sym tx_is))

  -- a link that was up
  module _ {cap : ℕ} (up : IsUp cap 0 (queue_of_link old) old) where
    -- the queue is what it was
    held_same : r.rests.held ≡ queue_of_link old
    held_same = grind (arith, append-nil)

    few_places : cap_of r.now.link ≤ cap
    few_places = subst (λ (l : Link). cap_of l ≤ cap) (sym r.link) up.holds.few

    -- it is up again, where it has places
    rested_up : (more : ℕ) → HasPlaces cap more held (cap_of r.now.link) → IsUp cap more (queue_of_link old) r.now
    rested_up more has = grind (arith, held_same)

    -- no more copies are held than the queue can hold
    pub held_short : held ≤ cap
    held_short = let fits = held_fits in let few = few_places in omega (arith, fits, few)

    -- another link with the same queue stands at the place
    pub widened_up : (turns : ℕ) {wider : ℕ} {t : Standing} {e : LinkEnds} {q : List McCopy} → q ≡ queue_of_link r.now → wider ≡ places_for cap turns held →
        IsTx e.link e.tx × NoNotes q (sending e.tx) →
        IsRx e.link e.rx × NoNotes q (taking e.rx) → cap_of e.link ≡ wider → (e.room.items ≡ []) × (wider ≤ e.room.spare) → HoldsAll (set (set ends place r.now) place e) t →
        UpAt cap (turns + 1) ends place (queue_of_link old) t
    widened_up turns {wider} {t} {e} {q} q_is wider_is tx rx cap_is room holds =
        let same : q ≡ queue_of_link old = q_is ∙ (r.rests.sender_new.first ∙ held_same) in
        let count : held ≡ length (queue_of_link old) = r.rests.counts ∙ ap length held_same in
        record {
          now = e;
          holds = set_again ends place r.now e t holds;
          up = record {
            ends = record { tx = tx.0; rx = rx.0; empty = room.0; spare = subst (λ n. n ≤ e.room.spare) (sym cap_is) room.1 };
            holds = subst (λ n. HasPlaces cap (turns + 1) n (cap_of e.link)) count (made_with cap turns held (cap_of e.link) held_short (cap_is ∙ wider_is));
            tx_new = subst (λ l. NoNotes l (sending e.tx)) same tx.1;
            rx_new = subst (λ l. NoNotes l (taking e.rx)) same rx.1;
          };
        }

    -- the link that rests stands again
    pub put_again : {t : Standing} {tx : Tx} {rx : Rx} → tx ≡ r.now.tx → rx ≡ r.now.rx → HoldsAll (set (set ends place r.now) place (record (r.now) { tx = tx; rx = rx })) t →
        UpAt cap 0 ends place (queue_of_link old) t
    put_again {t} {tx} {rx} tx_is rx_is holds =
        let same : (record (r.now) { tx = tx; rx = rx }) ≡ r.now = λ i. record (r.now) { tx = tx_is i; rx = rx_is i } in
        record {
          now = r.now;
          holds = subst (λ (e : LinkEnds). HoldsAll (set ends place e) t) same (set_again ends place r.now (record (r.now) { tx = tx; rx = rx }) t holds);
          up = rested_up 0 (record { enough = omega (arith, held_fits); few = few_places });
        }

    -- it has places for a round already
    pub rest_wide : {turns places free : ℕ} → places ≡ cap_of r.now.link → free ≡ free_places_of cap places held → turns < free → UpAt cap (turns + 1) ends place (queue_of_link old) s
    rest_wide {turns} {places} {free} are free_is more =
        let left : turns + 1 ≤ free = omega (arith, more) in
        record {
          now = r.now;
          holds = r.holds;
          up = rested_up (turns + 1) (free_fits cap (cap_of r.now.link) held (turns + 1) held_fits few_places
              (subst (λ (n : ℕ). turns + 1 ≤ free_places_of cap n held) are (subst (λ (n : ℕ). turns + 1 ≤ n) free_is left)));
        }

-- what holds anyway holds after a refusal
pub after_refusal : {X E : Type 0} (r : Result X E) (P : Type 0) → P → OnErr r P
after_refusal (Ok x) P p = tt
after_refusal (Err e) P p = p
