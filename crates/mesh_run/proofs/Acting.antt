-- What one turn of the actor at a place does to a share, and turns one after the other.
use Rattle.mesh_run.proofs.Common.{ActsAt, All, All-append, All-each, All-nil, All-weaker, AreEndsOf, AreOf, BankActs, Bool, CoreBank, DoesAt, Goes, Holdings, HoldsSender, IsBankOf, IsInRun}
use Rattle.mesh_run.proofs.Common.{IsLiveIndex, IsNoted, IsOutput, IsReadyBank, IsReadyRouter, IsRouterOf, IsShareOf, Item, List, Moved, MovesAt, Nothing, Out, PlaysOne, PlaysRound, PlaysTurns}
use Rattle.mesh_run.proofs.Common.{QueueLink, RouterActs, RouterNode, Setup, Share, SharePlays, Some, Stays, Turn, Waits, [], actor_of, ap, arith, bank_place, both_none, cases_eq, chip_of}
use Rattle.mesh_run.proofs.Common.{div-add-mod', false, goes_none, goes_on, grid_size, holds_sender_on, index_of, index_of-chip_of, injection_place, length, live_inside, mod_below, place_at_router}
use Rattle.mesh_run.proofs.Common.{place_behind, port_number, port_place, refl, router_place, slice_get_within, stays_same, subst, sym, true, ℕ, ◌%◌, ◌*◌, ◌++◌, ◌+◌, ◌/◌, ◌<◌, ◌∙◌, ◌≡◌, ◌≢◌, ◌≤◌, ◌⊎◌}
use Rattle.mesh_run.proofs.{Apart.not_to_itself, Apart.one_output, Turns.IsNotOf, Turns.bank_by, Turns.bank_turns, Turns.routed_by, Turns.routed_some, Turns.routed_turns, Turns.turns_beside}
use Rattle.mesh_run.proofs.Turns.{turns_none, turns_on}

-- ---- places of actors

pub even_place : (at : ℕ) → at % 2 ≡ 0 → router_place (at / 2) ≡ at
even_place at even = omega (arith, even, div-add-mod' at 2)

pub odd_place : (at : ℕ) → at % 2 ≢ 0 → bank_place (at / 2) ≡ at
odd_place at odd = omega (arith, odd, div-add-mod' at 2, mod_below at 2 (omega arith))

-- ---- what a share has for an actor

-- an output behind which a router knows a queue has a bit
has_bit : (r : RouterNode) (o : Out) (q : ℕ) → place_at_router r.behind.now o ≡ Some q → IsOutput o
has_bit r o q is = grind (arith, slice_get_within)

module _ (u : Setup) (links : List QueueLink) (s : Share) where
  pub ready_router : (i : ℕ) (r : RouterNode) → IsRouterOf u i r → IsShareOf u links s → IsInRun s.from s.to (router_place i) → IsReadyRouter links r s.hold
  ready_router i r router share within =
      let inside = live_inside u.machine (chip_of u.machine i) router.live.live in
      let at : (o : Out) (q : ℕ) → place_at_router r.behind.now o ≡ Some q → place_behind u (chip_of u.machine i) o ≡ Some q =
      λ o q behind. sym (router.behind o (has_bit r o q behind)) ∙ behind in
      record {
        senders = λ o q behind. share.routers i o q router.live within (at o q behind);
        differ = λ o p q one two o_is p_is. (one_output u (chip_of u.machine i) (chip_of u.machine i) o p q inside inside (at o q one) (at p q two)).1;
        apart = λ o port behind.
            let place : port_place r.index port ≡ 7 * index_of u.machine (chip_of u.machine i) + port_number port =
            ap (λ n. 7 * n + port_number port) (router.index ∙ sym (index_of-chip_of u.machine i)) in
            not_to_itself u (chip_of u.machine i) o port inside (at o (port_place r.index port) behind ∙ ap Some place);
        ends = share.ends;
      }

  pub ready_bank : (i : ℕ) (b : CoreBank) → IsLiveIndex u i → IsBankOf u i b → IsShareOf u links s → IsInRun s.from s.to (bank_place i) → IsReadyBank links b s.hold
  ready_bank i b live bank share within = record {
    sender = subst (λ n. HoldsSender s.hold.ends.items (injection_place n)) (sym bank.index) (share.banks i live within);
    vertices = All-each (λ v. (v < length s.hold.unsent.items) × (b.cores + v < length s.hold.ends.items)) b.vertices.items (λ v has.
        let on = bank.vertices v has in
        let below = slice_get_within u.spots v on.spot on.stands in
        (omega (arith, below, share.unsent_long), omega (arith, below, share.ends_long, bank.cores)));
    ends = share.ends;
  }

module _ (u : Setup) (links : List QueueLink) (s : Share) where
  was_in : (t : Share) → t.from ≡ s.from → t.to ≡ s.to → {a : ℕ} → IsInRun t.from t.to a → IsInRun s.from s.to a
  was_in t from to {a} is = record { above = subst (λ n. n ≤ a) from is.above; below = subst (λ n. a < n) to is.below }

  -- a share is one of its mesh after what was done
  pub share_on : (cap patience : ℕ) (t : Share) (items : List Item) → t.from ≡ s.from → t.to ≡ s.to → Goes cap patience s.hold items t.hold → AreEndsOf links t.hold.ends.items →
      IsShareOf u links s → IsShareOf u links t
  share_on cap patience t items from to goes ends share = record {
    ends_long = goes.ends_long ∙ share.ends_long;
    unsent_long = goes.unsent_long ∙ share.unsent_long;
    within = subst (λ n. n ≤ 2 * grid_size u) (sym to) share.within;
    routers = λ i o q live within behind. holds_sender_on cap patience s.hold t.hold items q goes (share.routers i o q live (was_in t from to within) behind);
    banks = λ i live within. holds_sender_on cap patience s.hold t.hold items (injection_place i) goes (share.banks i live (was_in t from to within));
    ends = ends;
  }

-- ---- what a turn does

module _ (u : Setup) (patience : ℕ) where
  router_goes : (cap i : ℕ) (r : RouterNode) (a b : Holdings) (turn : Turn) → RouterActs cap patience r.table.now r a turn b → (items : List Item) × Goes cap patience a items b
  router_goes cap i r a b Moved acts = (acts.0, acts.2)
  router_goes cap i r a b Nothing acts = ([], goes_none cap patience a b acts)
  router_goes cap i r a b Waits acts = ([], goes_none cap patience a b acts)

  bank_goes : (cap : ℕ) (k : CoreBank) (a b : Holdings) (turn : Turn) → BankActs cap patience k a turn b → (items : List Item) × Goes cap patience a items b
  bank_goes cap k a b Moved acts = (acts.0, acts.2)
  bank_goes cap k a b Nothing acts = ([], goes_none cap patience a b acts)
  bank_goes cap k a b Waits acts = ([], goes_none cap patience a b acts)

  pub router_keeps : (links : List QueueLink) (s t : Share) (cap i : ℕ) (r : RouterNode) (turn : Turn) → t.from ≡ s.from → t.to ≡ s.to → RouterActs cap patience r.table.now r s.hold turn t.hold →
      AreEndsOf links t.hold.ends.items → IsShareOf u links s → IsShareOf u links t
  router_keeps links s t cap i r turn from to acts ends share =
      let goes = router_goes cap i r s.hold t.hold turn acts in
      share_on u links s cap patience t goes.0 from to goes.1 ends share

  pub bank_keeps : (links : List QueueLink) (s t : Share) (cap : ℕ) (k : CoreBank) (turn : Turn) → t.from ≡ s.from → t.to ≡ s.to → BankActs cap patience k s.hold turn t.hold →
      AreEndsOf links t.hold.ends.items → IsShareOf u links s → IsShareOf u links t
  bank_keeps links s t cap k turn from to acts ends share =
      let goes = bank_goes cap k s.hold t.hold turn acts in
      share_on u links s cap patience t goes.0 from to goes.1 ends share

  router_does : (cap at i : ℕ) (r : RouterNode) (s t : Share) (turn : Turn) → cap ≡ u.capacity → IsRouterOf u i r → router_place i ≡ at →
      RouterActs cap patience r.table.now r s.hold turn t.hold → DoesAt u patience at s turn t
  router_does cap at i r s t Moved is of place acts = grind (arith, routed_turns u r i of acts.0 acts.1, routed_some u r acts.0 acts.1, routed_by u r acts.0 acts.1, All-weaker)
  router_does cap at i r s t Nothing is of place acts = acts
  router_does cap at i r s t Waits is of place acts = acts

  pub router_acts : (cap at i : ℕ) (r : RouterNode) (s t : Share) (turn : Turn) → t.from ≡ s.from → t.to ≡ s.to → t.moved ≡ s.moved → cap ≡ u.capacity → IsRouterOf u i r → router_place i ≡ at →
      RouterActs cap patience r.table.now r s.hold turn t.hold → ActsAt u patience at s turn t
  router_acts cap at i r s t turn from to moved is of place acts = record { from = from; to = to; moved = moved; does = router_does cap at i r s t turn is of place acts }

  pub bank_acts : (cap at i : ℕ) (k : CoreBank) (s t : Share) (turn : Turn) → t.from ≡ s.from → t.to ≡ s.to → t.moved ≡ s.moved → cap ≡ u.capacity → IsLiveIndex u i → IsBankOf u i k →
      bank_place i ≡ at → BankActs cap patience k s.hold turn t.hold → ActsAt u patience at s turn t
  bank_acts cap at i k s t turn from to moved is live of place acts = grind (arith, bank_turns, bank_by, All-weaker)

  -- ---- what is noted

  noted_none : (x y : Bool) → y ≡ x → IsNoted x [] y
  noted_none x y same = grind arith

  noted_on : (x y z : Bool) (xs ys : List Item) → IsNoted x xs y → IsNoted y ys z → IsNoted x (xs ++ ys) z
  noted_on x y z xs ys h k = grind (arith, both_none)

  -- ---- one turn, noted

  pub one_stays : (at : ℕ) (s t : Share) → t.from ≡ s.from → t.to ≡ s.to → t.moved ≡ s.moved → Stays s.hold t.hold → PlaysOne u patience at s t
  one_stays at s t from to moved stays = grind (arith, goes_none u.capacity patience s.hold t.hold stays, turns_none u 1, noted_none s.moved t.moved moved, All-nil)

  pub one_moves : (at : ℕ) (s t : Share) → t.from ≡ s.from → t.to ≡ s.to → t.moved ≡ true → IsInRun s.from s.to at → MovesAt u patience at s t → PlaysOne u patience at s t
  one_moves at s t from to moved within h = grind (arith, All-weaker)

  -- ---- turns of actors, one after the other

  -- the actors of a share below a place took at most one turn
  pub record OneEach (start : Share) (at : ℕ) (now : Share) : Type 0 where
    pub items : List Item
    pub plays : SharePlays u patience 1 start items now
    pub before : All (λ x. actor_of x < at) items
    pub noted : IsNoted start.moved items now.moved

  plays_none : (n : ℕ) (s t : Share) → t.from ≡ s.from → t.to ≡ s.to → t.hold ≡ s.hold → SharePlays u patience n s [] t
  plays_none n s t from to hold = grind (arith, goes_none u.capacity patience s.hold s.hold (stays_same s.hold), stays_same s.hold, turns_none u n, All-nil)

  pub each_none : (start : Share) (at : ℕ) → OneEach start at start
  each_none start at = record { items = []; plays = plays_none 1 start start refl refl refl; before = All-nil (λ x. actor_of x < at); noted = noted_none start.moved start.moved refl }

  own_on : (a b : Share) (xs ys : List Item) → b.from ≡ a.from → b.to ≡ a.to → AreOf a.from a.to xs → AreOf b.from b.to ys → AreOf a.from a.to (xs ++ ys)
  own_on a b xs ys from to h k = All-append (λ x. IsInRun a.from a.to (actor_of x)) _ _ h (subst (λ n. AreOf n a.to ys) from (subst (λ n. AreOf b.from n ys) to k))

  -- a place further on
  pub each_past : (start now : Share) (at next : ℕ) → at ≤ next → OneEach start at now → OneEach start next now
  each_past start now at next past h = grind (arith, All-weaker)

  pub each_more : (start now new : Share) (at : ℕ) → OneEach start at now → PlaysOne u patience at now new → OneEach start (at + 1) new
  each_more start now new at h k = record {
    items = h.items ++ k.items;
    plays = record {
      from = k.plays.from ∙ h.plays.from;
      to = k.plays.to ∙ h.plays.to;
      goes = goes_on u.capacity patience start.hold now.hold new.hold h.items k.items h.plays.goes k.plays.goes;
      own = own_on start now h.items k.items h.plays.from h.plays.to h.plays.own k.plays.own;
      turns_are = turns_beside u 1 h.items k.items apart h.plays.turns_are k.plays.turns_are;
    };
    before = All-append (λ x. actor_of x < at + 1) h.items k.items
        (All-weaker (λ x. actor_of x < at) (λ x. actor_of x < at + 1) (λ x below. omega (arith, below)) h.items h.before)
        (All-weaker (λ x. actor_of x ≡ at) (λ x. actor_of x < at + 1) (λ x is. omega (arith, is)) k.items k.of_it);
    noted = noted_on start.moved now.moved new.moved h.items k.items h.noted k.noted;
  }
    where
      apart : (a : ℕ) → IsNotOf u a h.items ⊎ IsNotOf u a k.items
      apart a = grind (arith, cases_eq a at, All-weaker)

  -- ---- turns of a round

  pub round_more : (n : ℕ) (a b c : Share) → PlaysRound u patience n a b → PlaysTurns u patience 1 b c → PlaysRound u patience (n + 1) a c
  round_more n a b c h k = record {
    items = h.items ++ k.items;
    plays = record {
      from = k.plays.from ∙ h.plays.from;
      to = k.plays.to ∙ h.plays.to;
      goes = goes_on u.capacity patience a.hold b.hold c.hold h.items k.items h.plays.goes k.plays.goes;
      own = own_on a b h.items k.items h.plays.from h.plays.to h.plays.own k.plays.own;
      turns_are = turns_on u n 1 h.items k.items h.plays.turns_are k.plays.turns_are;
    };
    noted = noted_on false b.moved c.moved h.items k.items h.noted k.noted;
  }
