-- Ends of links, dealt to shares and collected from them.
use Rattle.mesh_run.proofs.Common.{AreCuts, AreLaid, AreSameButEnds, Away, Cut, Deals, End, HoldsAll, HoldsCollected, HoldsNoEnds, IsLaid, IsOfCut, LinkEnds, List, None, Option, PutsEnd, Rx}
use Rattle.mesh_run.proofs.Common.{SameButEnds, Sends, Share, Some, Standing, Takes, Tx, ap, arith, cases_eq, cases_lt, end_at, end_in, get_or, get_or_from_slice_get, inl, inr, length, length-map}
use Rattle.mesh_run.proofs.Common.{length-set, map, map-set, none-some, refl, same_Some, same_lists, set, set-slice_get, slice_get, slice_get-mapped, slice_get-set_other, slice_get-set_same}
use Rattle.mesh_run.proofs.Common.{slice_get_past, slice_get_there, slice_get_within, subst, sym, ℕ, ◌+◌, ◌<◌, ◌∙◌, ◌≡◌, ◌≤◌}
use Rattle.mesh_run.proofs.{Going.next_too, Going.was_set, Holding.only_ends}

-- ---- lists of which each item is as the one at its place

abbrev pub AreEach : {X : Type 0} → (X → X → Type 0) → List X → List X → Type 0
AreEach {X} R before after = (length after ≡ length before) × ((k : ℕ) (s t : X) → slice_get before k ≡ Some s → slice_get after k ≡ Some t → R s t)

pub each_self : {X : Type 0} (R : X → X → Type 0) → ((x : X) → R x x) → (xs : List X) → AreEach R xs xs
each_self R self xs = (refl, λ k s t at also. subst (R s) (same_Some s t (sym at ∙ also)) (self s))

pub each_on : {X : Type 0} (R : X → X → Type 0) → ((x y z : X) → R x y → R y z → R x z) → (a b c : List X) → AreEach R a b → AreEach R b c → AreEach R a c
each_on R on a b c first second = (
  second.0 ∙ first.0,
  λ k x z at also.
      let y = slice_get_there b k (omega (arith, slice_get_within a k x at, first.0)) in
      on x y.0 z (first.1 k x y.0 at y.1) (second.1 k y.0 z y.1 also),
)

pub each_weaker : {X : Type 0} (R S : X → X → Type 0) → ((x y : X) → R x y → S x y) → (a b : List X) → AreEach R a b → AreEach S a b
each_weaker R S weaker a b each = (each.0, λ k s t at also. weaker s t (each.1 k s t at also))

-- one item is another
pub each_set : {X : Type 0} (R : X → X → Type 0) → ((x : X) → R x x) → (xs : List X) (i : ℕ) (s t : X) → slice_get xs i ≡ Some s → R s t → AreEach R xs (set xs i t)
each_set {X} R self xs i s t stands new = grind (arith, length-set xs i t, slice_get-set_same xs i s t stands, cases_eq, same_Some, slice_get-set_other)

-- what lists of shares tell at a place is the same, where the shares there tell the same
pub told_same : {X : Type 0} (tell : Option Share → X) (a b : List Share) (k : ℕ) → length b ≡ length a →
    ((x y : Share) → slice_get a k ≡ Some x → slice_get b k ≡ Some y → tell (Some y) ≡ tell (Some x)) → tell (slice_get b k) ≡ tell (slice_get a k)
told_same tell a b k long each = elim (cases_lt k (length a)) [
  | inl inside ↦
      let x = slice_get_there a k inside in
      let y = slice_get_there b k (omega (arith, inside, long)) in
      ap tell y.1 ∙ (each x.0 y.0 x.1 y.1 ∙ ap tell (sym x.1))
  | inr past ↦ ap tell (slice_get_past b k (omega (arith, past, long)) ∙ sym (slice_get_past a k past))
]

-- ---- all but ends is the same

pub ends_self : (s : Share) → SameButEnds s s
ends_self s = record { from = refl; to = refl; moved = refl; ends_long = refl; unsent = refl; dumps = refl; deliveries = refl }

ends_on : (x y z : Share) → SameButEnds x y → SameButEnds y z → SameButEnds x z
ends_on x y z p q = grind arith

pub same_self : (shares : List Share) → AreSameButEnds shares shares
same_self shares = each_self SameButEnds ends_self shares

pub same_on : (a b c : List Share) → AreSameButEnds a b → AreSameButEnds b c → AreSameButEnds a c
same_on a b c first second = each_on SameButEnds ends_on a b c first second

-- ---- one end of one share

-- a share whose end is there is there
pub stood : (x : Option Share) (q : ℕ) (a : End) → end_in x q ≡ Some a → (s : Share) × (x ≡ Some s) × (slice_get s.hold.ends.items q ≡ Some a)
stood None q a at = absurd (none-some a at)
stood (Some s) q a at = (s, refl, at)

-- what is read at its place
pub read_end : (shares : List Share) (s q : ℕ) (e found : End) (share : Share) → end_at shares s q ≡ Some e → share ≡ get_or shares s share → found ≡ get_or share.hold.ends.items q found →
    (slice_get shares s ≡ Some share) × (slice_get share.hold.ends.items q ≡ Some found)
read_end shares s q e found share is read read_found = grind (arith, get_or_from_slice_get)

pub share_inside : (shares : List Share) (s q : ℕ) (e : End) → end_at shares s q ≡ Some e → s < length shares
share_inside shares s q e is = let at = stood (slice_get shares s) q e is in slice_get_within shares s at.0 at.1

pub end_inside : (shares : List Share) (s q : ℕ) (e : End) (share : Share) → end_at shares s q ≡ Some e → share ≡ get_or shares s share → q < length share.hold.ends.items
end_inside shares s q e share is read = grind (arith, get_or_from_slice_get, slice_get_within)

-- one end of a share is another
pub end_set : (before after : List Share) (share queue : ℕ) (s t : Share) (old end : End) → slice_get before share ≡ Some s → slice_get s.hold.ends.items queue ≡ Some old →
    after ≡ set before share t → t.from ≡ s.from → t.to ≡ s.to → t.moved ≡ s.moved → t.hold.unsent ≡ s.hold.unsent → t.hold.dumps ≡ s.hold.dumps → t.hold.deliveries ≡ s.hold.deliveries →
    t.hold.ends.items ≡ set s.hold.ends.items queue end → PutsEnd share queue end before after
end_set before after share queue s t old end stands holds is from to moved unsent dumps deliveries ends =
    grind (arith, each_set, ends_self, length-set, slice_get-set_same, cases_eq, slice_get-set_other)

-- an end's place stays
pub end_still : (a b : List Share) (s q : ℕ) (e : End) → AreSameButEnds a b → end_at a s q ≡ Some e → (f : End) × (end_at b s q ≡ Some f)
end_still a b s q e same is =
    let at = stood (slice_get a s) q e is in
    let y = slice_get_there b s (omega (arith, slice_get_within a s at.0 at.1, same.0)) in
    let f = slice_get_there y.0.hold.ends.items q (omega (arith, (same.1 s at.0 y.0 at.1 y.1).ends_long, slice_get_within at.0.hold.ends.items q e at.2)) in
    (f.0, ap (λ (o : Option Share). end_in o q) y.1 ∙ f.1)

-- ---- both ends of a cut's link

pub puts_two : (cuts : List Cut) (start before mid after : List Share) (n : ℕ) (c : Cut) (first second : End) → AreCuts cuts start → slice_get cuts n ≡ Some c →
    PutsEnd c.sender c.queue first before mid → PutsEnd c.receiver c.queue second mid after →
    (end_at after c.sender c.queue ≡ Some first) × (end_at after c.receiver c.queue ≡ Some second) × ((s q : ℕ) → (IsOfCut c s q → ⊥) → end_at after s q ≡ end_at before s q)
puts_two cuts start before mid after n c first second are at one two = grind arith

-- an end of one cut's link is none of another's
pub apart : (cuts : List Cut) (start : List Share) (k l s : ℕ) (a b : Cut) → AreCuts cuts start → slice_get cuts k ≡ Some a → slice_get cuts l ≡ Some b → l < k → IsOfCut a s b.queue → ⊥
apart cuts start k l s a b are at_k at_l less of = grind arith

-- ---- dealing

pub record DealtTo (cuts : List Cut) (start : Standing) (before : List Share) (n : ℕ) (standing : Standing) (now : List Share) : Type 0 where
  pub ends : List LinkEnds
  pub held : HoldsAll ends start
  pub long : length ends ≡ length cuts
  pub links : standing.links ≡ start.links
  pub rooms : standing.rooms ≡ start.rooms
  pub txs_long : length standing.txs.items ≡ length ends
  pub rxs_long : length standing.rxs.items ≡ length ends
  pub txs : (k : ℕ) (e : LinkEnds) → n ≤ k → slice_get ends k ≡ Some e → slice_get standing.txs.items k ≡ Some (Some e.tx)
  pub rxs : (k : ℕ) (e : LinkEnds) → n ≤ k → slice_get ends k ≡ Some e → slice_get standing.rxs.items k ≡ Some (Some e.rx)
  pub same : AreSameButEnds before now
  pub dealt : (l : ℕ) (c : Cut) (e : LinkEnds) → l < n → slice_get cuts l ≡ Some c → slice_get ends l ≡ Some e
      → (end_at now c.sender c.queue ≡ Some (Sends (record { link = l; tx = e.tx }))) × (end_at now c.receiver c.queue ≡ Some (Takes (record { link = l; rx = e.rx })))
  pub others : (s q : ℕ) → ((l : ℕ) (c : Cut) → l < n → slice_get cuts l ≡ Some c → IsOfCut c s q → ⊥) → end_at now s q ≡ end_at before s q

pub dealt_none : (cuts : List Cut) (start : Standing) (before : List Share) (ends : List LinkEnds) → HoldsAll ends start → length ends ≡ length cuts → DealtTo cuts start before 0 start before
dealt_none cuts start before ends holds long = grind (arith, same_self before, length-map, slice_get-mapped)

-- the link at the next place
pub next_link : (cuts : List Cut) (start standing : Standing) (before now : List Share) (n : ℕ) → DealtTo cuts start before n standing now → n < length cuts →
    (e : LinkEnds) × (slice_get standing.txs.items n ≡ Some (Some e.tx)) × (slice_get standing.rxs.items n ≡ Some (Some e.rx))
next_link cuts start standing before now n so_far below =
    let long = so_far.long in
    let e = slice_get_there so_far.ends n (omega (arith, long, below)) in
    (e.0, so_far.txs n e.0 (omega arith) e.1, so_far.rxs n e.0 (omega arith) e.1)

pub dealt_more : (cuts : List Cut) (start standing after : Standing) (before now mid new : List Share) (n : ℕ) (c : Cut) (tx : Tx) (rx : Rx) → AreCuts cuts before →
    DealtTo cuts start before n standing now → slice_get cuts n ≡ Some c →
    slice_get standing.txs.items n ≡ Some (Some tx) → slice_get standing.rxs.items n ≡ Some (Some rx) → after.links ≡ standing.links → after.rooms ≡ standing.rooms →
    after.txs.items ≡ set standing.txs.items n None → after.rxs.items ≡ set standing.rxs.items n None →
    PutsEnd c.sender c.queue (Sends (record { link = n; tx = tx })) now mid → PutsEnd c.receiver c.queue (Takes (record { link = n; rx = rx })) mid new → DealtTo cuts start before (n + 1) after new
dealt_more cuts start standing after before now mid new n c tx rx are so_far at tx_is rx_is links rooms txs rxs one two =
    let both = puts_two cuts before now mid new n c (Sends (record { link = n; tx = tx })) (Takes (record { link = n; rx = rx })) are at one two in
    record {
      ends = so_far.ends;
      held = so_far.held;
      long = so_far.long;
      links = links ∙ so_far.links;
      rooms = rooms ∙ so_far.rooms;
      txs_long = ap length txs ∙ (length-set standing.txs.items n None ∙ so_far.txs_long);
      rxs_long = ap length rxs ∙ (length-set standing.rxs.items n None ∙ so_far.rxs_long);
      txs = λ k e from there. ap (λ l. slice_get l k) txs ∙ (slice_get-set_other standing.txs.items n k None (λ same. omega (arith, same, from)) ∙ so_far.txs k e (omega (arith, from)) there);
      rxs = λ k e from there. ap (λ l. slice_get l k) rxs ∙ (slice_get-set_other standing.rxs.items n k None (λ same. omega (arith, same, from)) ∙ so_far.rxs k e (omega (arith, from)) there);
      same = same_on before mid new (same_on before now mid so_far.same one.same) two.same;
      dealt = λ l d e less at_l there.
          next_too (λ l d. (e : LinkEnds) → slice_get so_far.ends l ≡ Some e →
          (end_at new d.sender d.queue ≡ Some (Sends (record { link = l; tx = e.tx }))) × (end_at new d.receiver d.queue ≡ Some (Takes (record { link = l; rx = e.rx })))) cuts n c at
          (λ l d less at_l e there.
          let was = so_far.dealt l d e less at_l there in (
            both.2 d.sender d.queue (apart cuts before n l d.sender c d are at at_l less) ∙ was.0,
            both.2 d.receiver d.queue (apart cuts before n l d.receiver c d are at at_l less) ∙ was.1,
          ))
          (λ e there.
          let is_tx : tx ≡ e.tx = same_Some tx e.tx (same_Some (Some tx) (Some e.tx) (sym tx_is ∙ so_far.txs n e (omega arith) there)) in
          let is_rx : rx ≡ e.rx = same_Some rx e.rx (same_Some (Some rx) (Some e.rx) (sym rx_is ∙ so_far.rxs n e (omega arith) there)) in
          (both.0 ∙ ap (λ (x : Tx). Some (Sends (record { link = n; tx = x }))) is_tx, both.1 ∙ ap (λ (x : Rx). Some (Takes (record { link = n; rx = x }))) is_rx))
          l d less at_l e there;
      others = λ s q uncut. both.2 s q (uncut n c (omega arith) at) ∙ so_far.others s q (λ l d less. uncut l d (omega (arith, less)));
    }

pub dealt_all : (cuts : List Cut) (start standing : Standing) (before now : List Share) (n : ℕ) (ends : List LinkEnds) → DealtTo cuts start before n standing now → length cuts ≤ n →
    HoldsAll ends start → Deals ends cuts before now × HoldsNoEnds ends standing
dealt_all cuts start standing before now n ends so_far past holds = subst (λ (l : List LinkEnds). Deals l cuts before now × HoldsNoEnds l standing)
    (only_ends so_far.ends ends start so_far.held holds) (
      record {
        same = so_far.same;
        dealt = λ l c e at there. let within = slice_get_within cuts l c at in so_far.dealt l c e (omega (arith, within, past)) at there;
        others = λ s q uncut. so_far.others s q (λ l c less. uncut l c);
      },
      record {
        links = sym so_far.held.links ∙ ap (λ v. v.items) (sym so_far.links);
        rooms = sym so_far.held.rooms ∙ ap (λ v. v.items) (sym so_far.rooms);
        txs_long = so_far.txs_long;
        rxs_long = so_far.rxs_long;
      },
    )

-- ---- collecting

pub record CollectedTo (cuts : List Cut) (start : Standing) (before : List Share) (n : ℕ) (standing : Standing) (now : List Share) : Type 0 where
  pub ends : List LinkEnds
  pub long : length ends ≡ length cuts
  pub links : standing.links ≡ start.links
  pub rooms : standing.rooms ≡ start.rooms
  pub links_are : map (λ (e : LinkEnds). e.link) ends ≡ start.links.items
  pub rooms_are : map (λ (e : LinkEnds). e.room) ends ≡ start.rooms.items
  pub txs_long : length standing.txs.items ≡ length ends
  pub rxs_long : length standing.rxs.items ≡ length ends
  pub txs : (k : ℕ) (e : LinkEnds) → k < n → slice_get ends k ≡ Some e → slice_get standing.txs.items k ≡ Some (Some e.tx)
  pub rxs : (k : ℕ) (e : LinkEnds) → k < n → slice_get ends k ≡ Some e → slice_get standing.rxs.items k ≡ Some (Some e.rx)
  pub same : AreSameButEnds before now
  pub dealt : (l : ℕ) (c : Cut) (e : LinkEnds) → l < n → slice_get cuts l ≡ Some c → slice_get ends l ≡ Some e
      → (end_at before c.sender c.queue ≡ Some (Sends (record { link = l; tx = e.tx }))) × (end_at before c.receiver c.queue ≡ Some (Takes (record { link = l; rx = e.rx })))
  pub gone : (l : ℕ) (c : Cut) → l < n → slice_get cuts l ≡ Some c → (end_at now c.sender c.queue ≡ Some Away) × (end_at now c.receiver c.queue ≡ Some Away)
  pub others : (s q : ℕ) → ((l : ℕ) (c : Cut) → l < n → slice_get cuts l ≡ Some c → IsOfCut c s q → ⊥) → end_at now s q ≡ end_at before s q

pub collected_none : (cuts : List Cut) (start : Standing) (before : List Share) (ends : List LinkEnds) → HoldsNoEnds ends start → length ends ≡ length cuts →
    CollectedTo cuts start before 0 start before
collected_none cuts start before ends holds long = grind (arith, same_self before)

-- the ends of the next cut's link lie where they were laid
pub next_laid : (cuts : List Cut) (start standing : Standing) (before now : List Share) (n : ℕ) (c : Cut) → CollectedTo cuts start before n standing now → AreCuts cuts before →
    AreLaid start.links.items before cuts → slice_get cuts n ≡ Some c →
    (laid : IsLaid start.links.items before n c) × (end_at now c.sender c.queue ≡ Some (Sends (record { link = n; tx = laid.tx })))
    × (end_at now c.receiver c.queue ≡ Some (Takes (record { link = n; rx = laid.rx })))
next_laid cuts start standing before now n c so_far are laid at =
    let here = laid n c at in (
      here,
      so_far.others c.sender c.queue (λ l d less at_l of. not n l d c less at_l at of.0) ∙ here.sends,
      so_far.others c.receiver c.queue (λ l d less at_l of. not n l d c less at_l at of.0) ∙ here.takes,
    )
  where
    not : (n l : ℕ) (d c : Cut) → l < n → slice_get cuts l ≡ Some d → slice_get cuts n ≡ Some c → c.queue ≡ d.queue → ⊥
    not n l d c less at_l at_n queue = let same = are.apart l n d c at_l at_n (sym queue) in omega (arith, same, less)

same_but : {X : Type 0} (f : LinkEnds → X) (ends : List LinkEnds) (n : ℕ) (old new : LinkEnds) → slice_get ends n ≡ Some old → f new ≡ f old → map f (set ends n new) ≡ map f ends
same_but f ends n old new at same = map-set f ends n new ∙ (ap (set (map f ends) n) same ∙ set-slice_get (map f ends) n (f old) (slice_get-mapped f ends n old at))

-- the ends that were set at a place stand there, and the others where they stood
slot_set : {X : Type 0} (f : LinkEnds → X) (ends : List LinkEnds) (slots : List (Option X)) (n : ℕ) (new : LinkEnds) → n < length slots →
    ((k : ℕ) (e : LinkEnds) → k < n → slice_get ends k ≡ Some e → slice_get slots k ≡ Some (Some (f e))) →
    (k : ℕ) (e : LinkEnds) → slice_get (set ends n new) k ≡ Some e → k < n + 1 → slice_get (set slots n (Some (f new))) k ≡ Some (Some (f e))
slot_set f ends slots n new below each =
    let old = slice_get_there slots n below in
    was_set (λ k e. k < n + 1 → slice_get (set slots n (Some (f new))) k ≡ Some (Some (f e))) ends n new
    (λ k e other at less. slice_get-set_other slots n k (Some (f new)) other ∙ each k e (omega (arith, less, other)) at) (λ less. slice_get-set_same slots n old.0 (Some (f new)) old.1)

pub collected_more : (cuts : List Cut) (start standing after : Standing) (before now mid new : List Share) (n : ℕ) (c : Cut) (tx : Tx) (rx : Rx) → AreCuts cuts before →
    CollectedTo cuts start before n standing now → slice_get cuts n ≡ Some c →
    end_at before c.sender c.queue ≡ Some (Sends (record { link = n; tx = tx })) → end_at before c.receiver c.queue ≡ Some (Takes (record { link = n; rx = rx })) →
    after.links ≡ standing.links → after.rooms ≡ standing.rooms → after.txs.items ≡ set standing.txs.items n (Some tx) → after.rxs.items ≡ set standing.rxs.items n (Some rx) →
    PutsEnd c.sender c.queue Away now mid → PutsEnd c.receiver c.queue Away mid new → CollectedTo cuts start before (n + 1) after new
collected_more cuts start standing after before now mid new n c tx rx are so_far at sends takes links rooms txs rxs one two =
    let both = puts_two cuts before now mid new n c Away Away are at one two in
    let within = slice_get_within cuts n c at in
    let long = so_far.long in
    let txs_long = so_far.txs_long in
    let rxs_long = so_far.rxs_long in
    let old = slice_get_there so_far.ends n (omega (arith, long, within)) in
    let e_new : LinkEnds = record old.0 { tx = tx; rx = rx } in
    let set_long = length-set so_far.ends n e_new in
    record {
      ends = set so_far.ends n e_new;
      long = set_long ∙ so_far.long;
      links = links ∙ so_far.links;
      rooms = rooms ∙ so_far.rooms;
      links_are = same_but (λ (e : LinkEnds). e.link) so_far.ends n old.0 e_new old.1 refl ∙ so_far.links_are;
      rooms_are = same_but (λ (e : LinkEnds). e.room) so_far.ends n old.0 e_new old.1 refl ∙ so_far.rooms_are;
      txs_long = ap length txs ∙ (length-set standing.txs.items n (Some tx) ∙ (so_far.txs_long ∙ sym set_long));
      rxs_long = ap length rxs ∙ (length-set standing.rxs.items n (Some rx) ∙ (so_far.rxs_long ∙ sym set_long));
      txs = λ k e less there. ap (λ l. slice_get l k) txs ∙ slot_set (λ (e : LinkEnds). e.tx) so_far.ends standing.txs.items n e_new (omega (arith, long, within, txs_long)) so_far.txs k e there less;
      rxs = λ k e less there. ap (λ l. slice_get l k) rxs ∙ slot_set (λ (e : LinkEnds). e.rx) so_far.ends standing.rxs.items n e_new (omega (arith, long, within, rxs_long)) so_far.rxs k e there less;
      same = same_on before mid new (same_on before now mid so_far.same one.same) two.same;
      dealt = λ l d e less at_l there.
          was_set (λ l e. l < n + 1 → slice_get cuts l ≡ Some d →
          (end_at before d.sender d.queue ≡ Some (Sends (record { link = l; tx = e.tx }))) × (end_at before d.receiver d.queue ≡ Some (Takes (record { link = l; rx = e.rx }))))
          so_far.ends n e_new (λ l e other stands less at_l. so_far.dealt l d e (omega (arith, less, other)) at_l stands)
          (λ less at_l. subst (λ (x : Cut). (end_at before x.sender x.queue ≡ Some (Sends (record { link = n; tx = tx }))) × (end_at before x.receiver x.queue ≡ Some (Takes (record { link = n; rx = rx }))))
          (same_Some c d (sym at ∙ at_l)) (sends, takes)) l e there less at_l;
      gone = next_too (λ l d. (end_at new d.sender d.queue ≡ Some Away) × (end_at new d.receiver d.queue ≡ Some Away)) cuts n c at
          (λ l d less at_l.
          let was = so_far.gone l d less at_l in (
            both.2 d.sender d.queue (apart cuts before n l d.sender c d are at at_l less) ∙ was.0,
            both.2 d.receiver d.queue (apart cuts before n l d.receiver c d are at at_l less) ∙ was.1,
          )) (both.0, both.1);
      others = λ s q uncut. both.2 s q (uncut n c (omega arith) at) ∙ so_far.others s q (λ l d less. uncut l d (omega (arith, less)));
    }

-- all ends are there
all_there : {X : Type 0} (end : LinkEnds → X) (ends : List LinkEnds) (slots : List (Option X)) → length slots ≡ length ends →
    ((k : ℕ) (e : LinkEnds) → slice_get ends k ≡ Some e → slice_get slots k ≡ Some (Some (end e))) → slots ≡ map (λ (e : LinkEnds). Some (end e)) ends
all_there end ends slots long each =
    let mapped = length-map ends (λ (e : LinkEnds). Some (end e)) in
    same_lists slots (map (λ (e : LinkEnds). Some (end e)) ends) (long ∙ sym mapped) (λ k d below.
    let e = slice_get_there ends k (omega (arith, below, long)) in
    get_or_from_slice_get slots k (Some (end e.0)) d (each k e.0 e.1)
    ∙ sym (get_or_from_slice_get (map (λ (x : LinkEnds). Some (end x)) ends) k (Some (end e.0)) d (slice_get-mapped (λ (x : LinkEnds). Some (end x)) ends k e.0 e.1)))

pub collected_all : (cuts : List Cut) (start standing : Standing) (before now : List Share) (n : ℕ) (old : List LinkEnds) → CollectedTo cuts start before n standing now → length cuts ≤ n →
    HoldsNoEnds old start → length old ≡ length cuts → HoldsCollected old cuts before standing now
collected_all cuts start standing before now n old so_far past holds long =
    let many = so_far.long in
    record {
      ends = so_far.ends;
      holds = record {
        links = ap (λ v. v.items) so_far.links ∙ sym so_far.links_are;
        txs = all_there (λ (e : LinkEnds). e.tx) so_far.ends standing.txs.items so_far.txs_long
            (λ k e at. let within = slice_get_within so_far.ends k e at in so_far.txs k e (omega (arith, within, many, past)) at);
        rxs = all_there (λ (e : LinkEnds). e.rx) so_far.ends standing.rxs.items so_far.rxs_long
            (λ k e at. let within = slice_get_within so_far.ends k e at in so_far.rxs k e (omega (arith, within, many, past)) at);
        rooms = ap (λ v. v.items) so_far.rooms ∙ sym so_far.rooms_are;
      };
      long = many ∙ sym long;
      links = so_far.links_are ∙ sym holds.links;
      rooms = so_far.rooms_are ∙ sym holds.rooms;
      collects = record {
        same = so_far.same;
        dealt = λ l c e at there. let within = slice_get_within cuts l c at in so_far.dealt l c e (omega (arith, within, past)) at there;
        gone = λ l c at. let within = slice_get_within cuts l c at in so_far.gone l c (omega (arith, within, past)) at;
        others = λ s q uncut. so_far.others s q (λ l c less. uncut l c);
      };
    }
