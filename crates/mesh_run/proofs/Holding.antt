-- Links with all their ends, seen as a list, and brought down from the last one on.
use Rattle.mesh_run.proofs.Common.{All, All-at, AreEnds, DownTo, HoldsAll, IsDown, LinkEnds, List, McCopy, Option, Rx, Some, Standing, Tx, [], ap, arith, cases_eq, get_or, get_or-set_other}
use Rattle.mesh_run.proofs.Common.{get_or-set_same, inl, inr, length, length-map, map, map-append, refl, same_Some, same_from_push, set, slice_get, slice_get_there, slice_get_within, subst, sym, take}
use Rattle.mesh_run.proofs.Common.{take_all, take_more_at, ℕ, ◌++◌, ◌+◌, ◌-◌, ◌<◌, ◌∙◌, ◌∷◌, ◌≡◌, ◌≤◌}
use Rattle.std.proofs.Math.ListN.{length-set}

-- ---- the list is the only one

pub first_same : {X : Type 0} (x y : X) (xs ys : List X) → x ∷ xs ≡ y ∷ ys → x ≡ y
first_same x y xs ys e = cc

pub rest_same : {X : Type 0} (x y : X) (xs ys : List X) → x ∷ xs ≡ y ∷ ys → xs ≡ ys
rest_same x y xs ys e = cc

equal_ends : (e f : LinkEnds) → e.link ≡ f.link → e.tx ≡ f.tx → e.rx ≡ f.rx → e.room ≡ f.room → e ≡ f
equal_ends e f links txs rxs rooms = λ i. record { link = links i; tx = txs i; rx = rxs i; room = rooms i }

pub both_same : {X : Type 0} (x y : X) (xs ys : List X) → x ≡ y → xs ≡ ys → x ∷ xs ≡ y ∷ ys
both_same x y xs ys first rest = cc

none_is_some : {X : Type 0} (x : X) (xs : List X) → [] ≡ x ∷ xs → ⊥
none_is_some x xs e = cc

same_ends : (es fs : List LinkEnds) → map (λ (e : LinkEnds). e.link) es ≡ map (λ (e : LinkEnds). e.link) fs →
    map (λ (e : LinkEnds). Some e.tx) es ≡ map (λ (e : LinkEnds). Some e.tx) fs → map (λ (e : LinkEnds). Some e.rx) es ≡ map (λ (e : LinkEnds). Some e.rx) fs →
    map (λ (e : LinkEnds). e.room) es ≡ map (λ (e : LinkEnds). e.room) fs → es ≡ fs
same_ends [] [] a b c d = refl
same_ends [] (f ∷ fs) a b c d = absurd (none_is_some f.link (map (λ (e : LinkEnds). e.link) fs) a)
same_ends (e ∷ es) [] a b c d = absurd (none_is_some e.link (map (λ (e : LinkEnds). e.link) es) (sym a))
same_ends (e ∷ es) (f ∷ fs) a b c d =
    both_same e f es fs
    (equal_ends e f (first_same _ _ _ _ a) (same_Some e.tx f.tx (first_same _ _ _ _ b)) (same_Some e.rx f.rx (first_same _ _ _ _ c)) (first_same _ _ _ _ d))
    (same_ends es fs (rest_same _ _ _ _ a) (rest_same _ _ _ _ b) (rest_same _ _ _ _ c) (rest_same _ _ _ _ d))

pub only_ends : (es fs : List LinkEnds) (s : Standing) → HoldsAll es s → HoldsAll fs s → es ≡ fs
only_ends es fs s a b = same_ends es fs (sym a.links ∙ b.links) (sym a.txs ∙ b.txs) (sym a.rxs ∙ b.rxs) (sym a.rooms ∙ b.rooms)

-- how many there are
pub as_many : (es : List LinkEnds) (s : Standing) → HoldsAll es s → length s.links.items ≡ length es
as_many es s holds = ap length holds.links ∙ length-map es (λ (e : LinkEnds). e.link)

-- ---- the last one

-- the ends that leave a list of all
pub last_leaves : (rest : List LinkEnds) (last e : LinkEnds) (tx : Option Tx) (rx : Option Rx) (s t : Standing) → HoldsAll (rest ++ last ∷ []) s →
    s.links.items ≡ t.links.items ++ e.link ∷ [] → s.txs.items ≡ t.txs.items ++ tx ∷ [] → tx ≡ Some e.tx → s.rxs.items ≡ t.rxs.items ++ rx ∷ [] → rx ≡ Some e.rx →
    s.rooms.items ≡ t.rooms.items ++ e.room ∷ [] → (e ≡ last) × HoldsAll rest t
last_leaves rest last e tx rx s t holds links txs tx_is rxs rx_is rooms = grind (arith, equal_ends, same_Some, same_from_push, map-append)

-- ---- links brought down, from the last on

-- the last so many are down, and the links before them stand
pub record DownFrom (all : List LinkEnds) (gone : ℕ) (s : Standing) (before after : List (List McCopy)) : Type 0 where
  pub few : gone ≤ length all
  pub long : length after ≡ length before
  pub stand : HoldsAll (take (length all - gone) all) s
  pub down : (i : ℕ) (e : LinkEnds) (q : List McCopy) → length all - gone ≤ i → slice_get all i ≡ Some e → IsDown e (get_or after i q)

pub down_none : (all : List LinkEnds) (s : Standing) (qs : List (List McCopy)) → HoldsAll all s → DownFrom all 0 s qs qs
down_none all s qs holds = grind (arith, take_all, slice_get_within)

-- what stands has the next one at its end
pub record Next (all : List LinkEnds) (gone : ℕ) (s : Standing) : Type 0 where
  pub ends : LinkEnds
  pub was : slice_get all (length all - gone - 1) ≡ Some ends
  pub stands : HoldsAll (take (length all - gone - 1) all ++ ends ∷ []) s

pub stands_next : (all : List LinkEnds) (gone : ℕ) (s : Standing) (before after : List (List McCopy)) → DownFrom all gone s before after → gone < length all → Next all gone s
stands_next all gone s before after so_far below =
    let place : ℕ = length all - gone - 1 in
    let within : place < length all = omega (arith, below) in
    let next : place + 1 ≡ length all - gone = omega (arith, below) in
    let x = slice_get_there all place within in
    record {
      ends = x.0;
      was = x.1;
      stands = subst (λ l. HoldsAll l s) (ap (λ n. take n all) (sym next) ∙ take_more_at all place x.0 x.1) so_far.stand;
    }

-- its ends are ends of its link
pub next_are_ends : (all : List LinkEnds) (gone : ℕ) (s : Standing) (e : LinkEnds) → (n : Next all gone s) → gone < length all → All AreEnds all → e ≡ n.ends → AreEnds e
next_are_ends all gone s e n below ends is = subst AreEnds (sym is) (All-at AreEnds all (length all - gone - 1) n.ends ends n.was)

pub down_more : (all : List LinkEnds) (gone : ℕ) (e : LinkEnds) (s t : Standing) (before after new : List (List McCopy)) (q : List McCopy) → DownFrom all gone s before after → gone < length all →
    length all ≤ length before → (n : Next all gone s) → e ≡ n.ends → HoldsAll (take (length all - gone - 1) all) t → IsDown e q → new ≡ set after (length all - gone - 1) q →
    DownFrom all (gone + 1) t before new
down_more all gone e s t before after new q so_far below fits n e_is stands is_down is = subst (λ l. DownFrom all (gone + 1) t before l) (sym is) (
    let place : ℕ = length all - gone - 1 in
    let many = so_far.long in
    let here : place < length after = omega (arith, below, fits, many) in
    let up_to : length all - (gone + 1) ≡ place = omega arith in
    record {
      few = omega (arith, below);
      long = length-set after place q ∙ so_far.long;
      stand = subst (λ n. HoldsAll (take n all) t) (sym up_to) stands;
      down = λ i d p from at. elim (cases_eq i place) [
        | inl same ↦
            let ends : e ≡ d = e_is ∙ same_Some n.ends d (sym n.was ∙ (ap (slice_get all) (sym same) ∙ at)) in
            let now : get_or (set after place q) i p ≡ q = ap (λ n. get_or (set after place q) n p) same ∙ get_or-set_same after place q p here in
            subst (IsDown d) (sym now) (subst (λ x. IsDown x q) ends is_down)
        | inr other ↦ subst (IsDown d) (sym (get_or-set_other after place i q p other)) (so_far.down i d p (omega (arith, from, other, up_to)) at)
      ];
    })

pub down_all : (all : List LinkEnds) (gone : ℕ) (s : Standing) (before after : List (List McCopy)) → DownFrom all gone s before after → length all ≤ gone → DownTo all after
down_all all gone s before after so_far past = λ i e q at. so_far.down i e q (omega (arith, past)) at
