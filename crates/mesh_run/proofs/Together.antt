-- What all shares did in a round, one share after the other.
use Rattle.mesh_run.proofs.Common.{All, All-append, All-nil, All-weaker, AreOf, AreShareRuns, AreTurns, Away, Bool, End, EndGoes, Goes, InEnd, IsInRun, IsNoted, Item, LaneGoes, List, McCopy, Option}
use Rattle.mesh_run.proofs.Common.{OutEnd, Own, SenderGoes, Sends, Setup, Share, Some, TakerGoes, Takes, WithRoom, [], actor_of, ap, append-nil, arith, both_none, cases_lt, end_at, end_before, end_in}
use Rattle.mesh_run.proofs.Common.{entered, false, flat_map, flat_map-append, get_or, get_or_default, get_or_from_slice_get, left, length, list_any, lost_at, refl, run_start, slice_get}
use Rattle.mesh_run.proofs.Common.{slice_get-get_or, slice_get_within, slice_index_or, subst, suc, sym, take, take_all, take_more, zero, ℕ, ◌++◌, ◌+◌, ◌<◌, ◌||◌, ◌∙◌, ◌∷◌, ◌≡◌, ◌≢◌, ◌≤◌, ◌⊎◌}
use Rattle.mesh_run.proofs.{CrossingLaws.stood, Going.each_two, Turns.IsNotOf, Turns.flat_map_none, Turns.turns_beside, Turns.turns_none}

-- ---- lists of all shares

abbrev pub joined : List (List Item) → List Item
joined parts = flat_map (λ p. p) parts

pub flat_map_joined : {Y : Type 0} (f : Item → List Y) (parts : List (List Item)) → flat_map f (joined parts) ≡ flat_map (λ p. flat_map f p) parts
flat_map_joined f [] = refl
flat_map_joined f (p ∷ parts) = flat_map-append f p (joined parts) ∙ ap (λ l. flat_map f p ++ l) (flat_map_joined f parts)

-- where one part alone has something, all have what it has
pub one_part : {X Y : Type 0} (g : X → List Y) (parts : List X) (k : ℕ) (d : X) → k < length parts → ((j : ℕ) (e : X) → j < length parts → j ≢ k → g (get_or parts j e) ≡ []) →
    flat_map g parts ≡ g (get_or parts k d)
one_part g [] k d below none = absurd (omega (arith, below))
one_part g (p ∷ parts) zero d below none =
    ap (λ l. g p ++ l) (flat_map_none g parts (λ j e inside. none (suc j) e (omega (arith, inside)) (λ same. omega (arith, same)))) ∙ append-nil (g p)
one_part g (p ∷ parts) (suc k) d below none =
    ap (λ l. l ++ flat_map g parts) (none 0 p (omega arith) (λ same. omega (arith, same)))
    ∙ one_part g parts k d (omega (arith, below)) (λ j e inside other. none (suc j) e (omega (arith, inside)) (λ same. other (omega (arith, same))))

-- for each place an item with what holds there makes a list
listed_at : {X : Type 0} (n : ℕ) (P : ℕ → X → Type 0) (x : X) (xs : List X) → P 0 x → ((i : ℕ) (d : X) → i < n → P (suc i) (get_or xs i d)) → (i : ℕ) (d : X) → i < suc n → P i (get_or (x ∷ xs) i d)
listed_at n P x xs first rest zero d below = first
listed_at n P x xs first rest (suc i) d below = rest i d (omega (arith, below))

pub listed : {X : Type 0} (n : ℕ) (P : ℕ → X → Type 0) → ((i : ℕ) → i < n → (x : X) × P i x) → (xs : List X) × (length xs ≡ n) × ((i : ℕ) (d : X) → i < n → P i (get_or xs i d))
listed zero P each = ([], refl, λ i d below. absurd (omega (arith, below)))
listed (suc n) P each =
    let first = each 0 (omega arith) in
    let rest = listed n (λ i x. P (suc i) x) (λ i below. each (suc i) (omega (arith, below))) in
    (first.0 ∷ rest.0, ap suc rest.1, listed_at n P first.0 rest.0 first.1 rest.2)

-- ---- turns of all shares

module _ (u : Setup) (n count : ℕ) (ends : List ℕ) (parts : List (List Item)) where
  record SoFar (k : ℕ) : Type 0 where
    turns : AreTurns u n (joined (take k parts))
    before : All (λ x. actor_of x < run_start ends k) (joined (take k parts))

  so_far : AreShareRuns count ends → length parts ≡ length ends → ((k : ℕ) (d : List Item) → k < length parts → AreTurns u n (get_or parts k d)) →
      ((k : ℕ) (d : List Item) → k < length parts → AreOf (run_start ends k) (slice_index_or ends k 0) (get_or parts k d)) → (k : ℕ) → k ≤ length parts → SoFar k
  so_far runs long turns own zero within = record { turns = turns_none u n; before = All-nil (λ x. actor_of x < 0) }
  so_far runs long turns own (suc k) within =
      let h = so_far runs long turns own k (omega (arith, within)) in
      let below : k < length parts = omega (arith, within) in
      let next : suc k ≡ k + 1 = omega arith in
      let last = get_or parts k [] in
      let is : joined (take (suc k) parts) ≡ joined (take k parts) ++ last =
      ap (λ i. joined (take i parts)) next ∙ (ap joined (take_more parts k [] below)
      ∙ (flat_map-append (λ p. p) (take k parts) (last ∷ []) ∙ ap (λ l. joined (take k parts) ++ l) (append-nil last))) in
      let mine = own k [] below in
      record {
        turns = subst (AreTurns u n) (sym is) (turns_beside u n (joined (take k parts)) last (λ a. beside a h mine) h.turns (turns k [] below));
        before = subst (All (λ x. actor_of x < run_start ends (suc k))) (sym is) (All-append (λ x. actor_of x < run_start ends (suc k)) (joined (take k parts)) last
            (All-weaker (λ x. actor_of x < run_start ends k) (λ x. actor_of x < run_start ends (suc k)) (λ x less. omega (arith, less, rises k below)) (joined (take k parts)) h.before)
            (All-weaker (λ x. IsInRun (run_start ends k) (slice_index_or ends k 0) (actor_of x)) (λ x. actor_of x < run_start ends (suc k)) (λ x is_in. is_in.below) last mine));
      }
    where
      beside : (a : ℕ) → SoFar k → AreOf (run_start ends k) (slice_index_or ends k 0) (get_or parts k []) → IsNotOf u a (joined (take k parts)) ⊎ IsNotOf u a (get_or parts k [])
      beside a h mine = grind (arith, cases_lt a (run_start ends k), get_or parts k, All-weaker)

      rises : (j : ℕ) → j < length parts → run_start ends j ≤ slice_index_or ends j 0
      rises j inside = grind arith

  pub turns_joined : AreShareRuns count ends → length parts ≡ length ends → ((k : ℕ) (d : List Item) → k < length parts → AreTurns u n (get_or parts k d)) →
      ((k : ℕ) (d : List Item) → k < length parts → AreOf (run_start ends k) (slice_index_or ends k 0) (get_or parts k d)) → AreTurns u n (joined parts)
  turns_joined runs long turns own = grind (arith, take_all (length parts) parts (omega arith), so_far runs long turns own (length parts) (omega arith))

-- ---- what is noted

noted_or : (xs ys : List Item) (y z : Bool) → IsNoted false xs y → IsNoted false ys z → IsNoted false (xs ++ ys) (y || z)
noted_or xs ys y z h k = grind (arith, both_none)

pub noted_joined : (shares : List Share) (parts : List (List Item)) → length parts ≡ length shares →
    ((k : ℕ) (s : Share) (p : List Item) → k < length shares → IsNoted false (get_or parts k p) (get_or shares k s).moved) → IsNoted false (joined parts) (list_any (λ s. s.moved) shares)
noted_joined shares parts long each =
    each_two (λ p s. IsNoted false p s.moved) (λ parts shares. IsNoted false (joined parts) (list_any (λ s. s.moved) shares)) (refl, refl)
    (λ p s parts shares first rest. noted_or p (joined parts) s.moved (list_any (λ t. t.moved) shares) first rest) parts shares long (λ i p s below. each i s p (omega (arith, below, long)))

-- ---- what each share holds of a queue

-- each share did its part
pub record PlayedParts (cap patience : ℕ) (before after : List Share) (parts : List (List Item)) : Type 0 where
  pub long : length after ≡ length before
  pub parts_long : length parts ≡ length before
  pub goes : (k : ℕ) (s : Share) → k < length before → Goes cap patience (get_or before k s).hold (get_or parts k []) (get_or after k s).hold

module _ {cap patience : ℕ} {before after : List Share} {parts : List (List Item)} (h : PlayedParts cap patience before after parts) where
  abbrev part : ℕ → List Item
  part k = get_or parts k []

  abbrev pub Passes : ℕ → ℕ → End → End → Type 0
  Passes k q a b = EndGoes cap patience (entered q (part k)) (left q (part k)) (lost_at q (part k)) a b

  pub end_passes : (k q : ℕ) (a : End) → end_at before k q ≡ Some a → (b : End) × (end_at after k q ≡ Some b) × Passes k q a b
  end_passes k q a at =
      let s = stood (slice_get before k) q a at in
      let below = slice_get_within before k s.0 s.1 in
      let goes = h.goes k s.0 below in
      let t : Share = get_or after k s.0 in
      let here : slice_get (get_or before k s.0).hold.ends.items q ≡ Some a =
      subst (λ (x : Share). slice_get x.hold.ends.items q ≡ Some a) (sym (get_or_from_slice_get before k s.0 s.0 s.1)) s.2 in
      let there : slice_get after k ≡ Some t = slice_get-get_or after k s.0 (let long = h.long in omega (arith, long, below)) in
      let b = end_before t.hold.ends.items (get_or before k s.0).hold.ends.items q a (sym goes.ends_long) here in
      (b.0, ap (λ (x : Option Share). end_in x q) there ∙ b.1, goes.ends q a b.0 here b.1)

  pub record NonePasses (k q : ℕ) : Type 0 where
    pub stays : end_at after k q ≡ Some Away
    pub came : entered q (part k) ≡ []
    pub went : left q (part k) ≡ []
    pub lost : lost_at q (part k) ≡ []

  none_by : (k q : ℕ) (b : End) → end_at after k q ≡ Some b → Passes k q Away b → NonePasses k q
  none_by k q b at goes = grind arith

  pub none_passes : (k q : ℕ) → end_at before k q ≡ Some Away → NonePasses k q
  none_passes k q at = let b = end_passes k q Away at in none_by k q b.0 b.1 b.2

  pub record LanePasses (k q : ℕ) (a : WithRoom McCopy) : Type 0 where
    pub lane : WithRoom McCopy
    pub stays : end_at after k q ≡ Some (Own lane)
    pub goes : LaneGoes cap patience (entered q (part k)) (left q (part k)) (lost_at q (part k)) a.items lane.items

  pub lane_passes : (k q : ℕ) (a : WithRoom McCopy) → end_at before k q ≡ Some (Own a) → LanePasses k q a
  lane_passes k q a at = grind (arith, end_passes)

  pub record SenderPasses (k q : ℕ) (a : OutEnd) : Type 0 where
    pub sender : OutEnd
    pub stays : end_at after k q ≡ Some (Sends sender)
    pub went : left q (part k) ≡ []
    pub goes : SenderGoes patience (entered q (part k)) (lost_at q (part k)) a sender

  pub sender_passes : (k q : ℕ) (a : OutEnd) → end_at before k q ≡ Some (Sends a) → SenderPasses k q a
  sender_passes k q a at = grind (arith, end_passes)

  pub record TakerPasses (k q : ℕ) (a : InEnd) : Type 0 where
    pub taker : InEnd
    pub stays : end_at after k q ≡ Some (Takes taker)
    pub came : entered q (part k) ≡ []
    pub lost : lost_at q (part k) ≡ []
    pub goes : TakerGoes (left q (part k)) a taker

  pub taker_passes : (k q : ℕ) (a : InEnd) → end_at before k q ≡ Some (Takes a) → TakerPasses k q a
  taker_passes k q a at = grind (arith, end_passes)

  -- what all tell of a queue, where one share alone tells something
  pub told_by_one : {Y : Type 0} (f : Item → List Y) (k : ℕ) → k < length before → ((j : ℕ) → j < length before → j ≢ k → flat_map f (part j) ≡ []) →
      flat_map f (joined parts) ≡ flat_map f (part k)
  told_by_one f k below none =
      let long = h.parts_long in
      flat_map_joined f parts ∙ one_part (λ p. flat_map f p) parts k [] (omega (arith, below, long)) (λ j e inside other.
      ap (λ p. flat_map f p) (get_or_default parts j e [] inside) ∙ none j (omega (arith, inside, long)) other)
