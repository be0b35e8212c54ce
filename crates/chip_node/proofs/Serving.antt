-- Outputs of a copy that are served one after the other.
use Rattle.chip_node.proofs.Common.{All-append, All-cons, All-nil, AllWithin, AreOuts, Dumped, Goes, HasRoomBehind, Holdings, IsOutput, IsReadyRouter, Item, Link, List, McCopy, None, Out, RouterNode}
use Rattle.chip_node.proofs.Common.{ServesOuts, Service, Some, [], ap, arith, get_or, get_or_default, length, map, map-append, place_at_router, served, service_items, slice_get, subst, sym, take}
use Rattle.chip_node.proofs.Common.{take_more, ℕ, ◌++◌, ◌+◌, ◌<◌, ◌∙◌, ◌∷◌, ◌≡◌, ◌≢◌}
use Rattle.chip_node.proofs.{Flows.goes_none, Flows.goes_on, Stays.stays_same}

pub serves_none : (cap patience : ℕ) (r : RouterNode) (k : McCopy) (a : Holdings) → ServesOuts cap patience r [] k a a
serves_none cap patience r k a = grind (arith, goes_none cap patience a a (stays_same a), stays_same a, All-nil)

-- one output more
pub serves_more : (cap patience : ℕ) (r : RouterNode) (k : McCopy) (a b c : Holdings) (outs : List Out) (i : ℕ) (s : Service) → i < length outs → s.out ≡ get_or outs i s.out → s.copy ≡ k
    → (place_at_router r.behind.now s.out ≡ None → s.fate ≡ Dumped)
    → ServesOuts cap patience r (take i outs) k a b → Goes cap patience b (service_items r (s ∷ [])) c → ServesOuts cap patience r (take (i + 1) outs) k a c
serves_more cap patience r k a b c outs i s below read of nowhere h goes = record {
  nowhere =
      All-append (λ (x : Service). place_at_router r.behind.now x.out ≡ None → x.fate ≡ Dumped) h.done (s ∷ []) h.nowhere
      (All-cons (λ (x : Service). place_at_router r.behind.now x.out ≡ None → x.fate ≡ Dumped) s [] nowhere
      (All-nil (λ (x : Service). place_at_router r.behind.now x.out ≡ None → x.fate ≡ Dumped)));
  done = h.done ++ s ∷ [];
  each_once =
      map-append pair h.done (s ∷ [])
      ∙ (ap (λ l. l ++ pair s ∷ []) h.each_once
      ∙ (ap {B = List (Out × McCopy)} (λ x. map with_copy (take i outs) ++ (s.out, x) ∷ []) of
      ∙ (sym (map-append with_copy (take i outs) (s.out ∷ []))
      ∙ ap (map with_copy) (ap (λ o. take i outs ++ o ∷ []) read ∙ sym (take_more outs i s.out below)))));
  goes =
      subst (λ (l : List Item). Goes cap patience a l c) (sym (map-append item h.done (s ∷ [])))
      (goes_on cap patience a b c (service_items r h.done) (service_items r (s ∷ [])) h.goes goes);
}
  where
    pair : Service → Out × McCopy
    pair x = (x.out, x.copy)

    with_copy : Out → Out × McCopy
    with_copy o = (o, k)

    item : Service → Item
    item x = served r.index r.chip (place_at_router r.behind.now x.out) x

-- the outputs from one on still have room, where the queue behind the one before alone has changed
pub room_left : (cap : ℕ) (links : List Link) (r : RouterNode) (a b : Holdings) (outs : List Out) (i : ℕ) (o : Out) → IsReadyRouter links r a → AreOuts outs
    → i < length outs → o ≡ get_or outs i o
    → AllWithin (HasRoomBehind cap r a) outs i (length outs) → ((q : ℕ) → place_at_router r.behind.now o ≢ Some q → slice_get b.ends.items q ≡ slice_get a.ends.items q)
    → AllWithin (HasRoomBehind cap r b) outs (i + 1) (length outs)
room_left cap links r a b outs i o ready are below read room elsewhere = λ j d from inside q e behind stands.
    (let p = get_or outs j d in
    let o_is : IsOutput o = subst IsOutput (sym read) (are.numbered i o below) in
    let p_is : IsOutput p = are.numbered j d inside in
    let apart : o ≢ p = λ same. are.differ i j d (omega arith) inside (get_or_default outs i d o below ∙ (sym read ∙ same)) in
    let other : place_at_router r.behind.now o ≢ Some q = λ also. apart (ready.differ o p q also behind o_is p_is) in
    room j d (omega arith) inside q e behind (sym (elsewhere q other) ∙ stands))
