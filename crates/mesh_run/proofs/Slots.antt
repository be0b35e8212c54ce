-- Links with all their ends, of which one is set.
use Rattle.mesh_run.proofs.Common.{HoldsAll, LacksEnds, LinkEnds, List, None, Option, Rx, Some, Standing, Tx, ap, arith, get_or, get_or_from_slice_get, length, length-map, map, map-set, same_Some}
use Rattle.mesh_run.proofs.Common.{set, set-set, set-slice_get, slice_get, slice_get-mapped, subst, sym, ℕ, ◌<◌, ◌∙◌, ◌≡◌}

-- the place is one of a list that is a map
pub slot_is : {X : Type 0} (f : LinkEnds → X) (ends : List LinkEnds) (slots : List X) (place : ℕ) (old : LinkEnds) (d : X) → slots ≡ map f ends → slice_get ends place ≡ Some old →
    get_or slots place d ≡ f old
slot_is f ends slots place old d are at = grind (arith, get_or_from_slice_get (map f ends) place (f old) d (slice_get-mapped f ends place old at), slice_get-mapped f ends place old at, get_or)

-- what two lists have at one place, where they are one list as far as f tells
pub same_mapped : {X : Type 0} (f : LinkEnds → X) (es fs : List LinkEnds) (l : ℕ) (e o : LinkEnds) → map f es ≡ map f fs → slice_get es l ≡ Some e → slice_get fs l ≡ Some o → f e ≡ f o
same_mapped f es fs l e o same at also = same_Some (f e) (f o) (sym (slice_get-mapped f es l e at) ∙ (ap (λ x. slice_get x l) same ∙ slice_get-mapped f fs l o also))

pub slot_stands : {X : Type 0} (end : LinkEnds → X) (ends : List LinkEnds) (slots : List (Option X)) (place : ℕ) (old : LinkEnds) → slots ≡ map (λ (e : LinkEnds). Some (end e)) ends →
    slice_get ends place ≡ Some old → slice_get slots place ≡ Some (Some (end old))
slot_stands end ends slots place old are at = ap (λ l. slice_get l place) are ∙ slice_get-mapped (λ (e : LinkEnds). Some (end e)) ends place old at

-- the end that was taken
pub end_taken : {X : Type 0} (end : LinkEnds → X) (ends : List LinkEnds) (slots : List (Option X)) (place : ℕ) (old : LinkEnds) (x : X) → slots ≡ map (λ (e : LinkEnds). Some (end e)) ends →
    slice_get ends place ≡ Some old → slice_get slots place ≡ Some (Some x) → x ≡ end old
end_taken end ends slots place old x are at is = same_Some x (end old) (same_Some (Some x) (Some (end old)) (sym is ∙ slot_stands end ends slots place old are at))

-- what stands in a list that is a map, with one item set
new_slot : {X : Type 0} (f : LinkEnds → X) (ends : List LinkEnds) (lacking slots : List X) (place : ℕ) (gone : X) (new : LinkEnds) → lacking ≡ set (map f ends) place gone →
    slots ≡ set lacking place (f new) → slots ≡ map f (set ends place new)
new_slot f ends lacking slots place gone new lacks is = grind (arith, set-set (map f ends) place gone (f new), map-set f ends place new)

pub ends_back : (ends : List LinkEnds) (place : ℕ) (old : LinkEnds) (tx : Tx) (rx : Rx) (s t : Standing) → LacksEnds ends place s → slice_get ends place ≡ Some old → t.links ≡ s.links →
    t.rooms ≡ s.rooms → t.txs.items ≡ set s.txs.items place (Some tx) → t.rxs.items ≡ set s.rxs.items place (Some rx) → HoldsAll (set ends place (record old { tx = tx; rx = rx })) t
ends_back ends place old tx rx s t lacks at links rooms txs rxs = grind (arith, new_slot, set-slice_get, slice_get-mapped, map-set)

pub set_there : (ends : List LinkEnds) (place : ℕ) (new : LinkEnds) (s t : Standing) → LacksEnds ends place s → t.links.items ≡ set s.links.items place new.link →
    t.txs.items ≡ set s.txs.items place (Some new.tx) → t.rxs.items ≡ set s.rxs.items place (Some new.rx) → t.rooms.items ≡ set s.rooms.items place new.room → HoldsAll (set ends place new) t
set_there ends place new s t lacks links txs rxs rooms = record {
  links = links ∙ (ap (λ l. set l place new.link) lacks.links ∙ sym (map-set (λ (e : LinkEnds). e.link) ends place new));
  txs = new_slot (λ (e : LinkEnds). Some e.tx) ends s.txs.items t.txs.items place None new lacks.txs txs;
  rxs = new_slot (λ (e : LinkEnds). Some e.rx) ends s.rxs.items t.rxs.items place None new lacks.rxs rxs;
  rooms = rooms ∙ (ap (λ l. set l place new.room) lacks.rooms ∙ sym (map-set (λ (e : LinkEnds). e.room) ends place new));
}

-- ---- the place is one of each list

pub in_links : (ends : List LinkEnds) (place : ℕ) (s : Standing) → LacksEnds ends place s → place < length ends → place < length s.links.items
in_links ends place s lacks below = grind (arith, length-map)

-- the ends that are gone, and all that is left
pub ends_gone : (ends : List LinkEnds) (place : ℕ) (s t : Standing) → HoldsAll ends s → t.links ≡ s.links → t.rooms ≡ s.rooms → t.txs.items ≡ set s.txs.items place None →
    t.rxs.items ≡ set s.rxs.items place None → LacksEnds ends place t
ends_gone ends place s t holds links rooms txs rxs = grind arith

-- an end that is there twice stands once
pub set_again : (ends : List LinkEnds) (place : ℕ) (first second : LinkEnds) (s : Standing) → HoldsAll (set (set ends place first) place second) s → HoldsAll (set ends place second) s
set_again ends place first second s holds = subst (λ l. HoldsAll l s) (set-set ends place first second) holds
