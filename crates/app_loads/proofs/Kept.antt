-- A mesh whose earlier deliveries are held apart, seen as one mesh.
use Rattle.app_loads.proofs.Common.{BringsAlways, EndsWith, delivery_of, length-append, length-map, AreAlikeInBlocks, AreKnown, AreRoutedAlike, Arrival, BTreeMap, Block, Bool, CanSettle, Comes}
use Rattle.app_loads.proofs.Common.{Delivery, HasBrought, HasBroughtMore, HasFirstUnsent, HasSomeUnsent, IsClean, IsKeyOf, IsMesh, IsMoved, IsReachedDropless, IsWhyHere, KnownBlock, List, LoadedApp}
use Rattle.app_loads.proofs.Common.{MaySend, McCopy, NoneUnderWay, NothingWaits, Option, SendAlone, Setup, Some, State, UnloadErr, Updates, Waiting, WaitsIn, [], ap, append-nil, arith, cases_Bool}
use Rattle.app_loads.proofs.Common.{count_by-le-length, delivered, deliveries_at, drop, drop_at, drop_front, dumped_reached, eq-eqb, filter, get_or, is_at, kept_reached, length, length-filter, lookup}
use Rattle.app_loads.proofs.Common.{map, nat_cmp, none-some, of_packet, refl, same_Some, sent_of, setup_reached, slice_get, slice_set, subst, sym, with_earlier, ℕ, ◌++◌, ◌+◌, ◌<◌, ◌^◌, ◌∙◌, ◌∷◌, ◌≡◌}
use Rattle.app_loads.proofs.Common.{◌≢◌}
use Rattle.app_loads.proofs.{LeavingLeast.still_marked, Earlier.kept_without, Earlier.reached_with, LeftHost.mesh_with}

-- ---- the same mesh, whose deliveries are held otherwise

pub same_mesh : (xs ys : List Delivery) (s t : State) → t ≡ record s { delivered = t.delivered } → ys ++ t.delivered ≡ xs ++ s.delivered → with_earlier ys t ≡ with_earlier xs s
same_mesh xs ys s t is all = ap (λ (u : State). record u { delivered = ys ++ t.delivered }) is ∙ ap (λ l. record s { delivered = l }) all

quiet_still : (s t : State) → t ≡ record s { delivered = t.delivered } → NothingWaits s → NothingWaits t
quiet_still s t is quiet = subst NothingWaits (sym is) (record { inputs_empty = quiet.inputs_empty; hands_empty = quiet.hands_empty; cores_empty = quiet.cores_empty })

pub moved_as : (a s t b : State) → s ≡ a → b ≡ t → IsMoved s t → IsMoved a b
moved_as a s t b from to moved = subst (λ x. IsMoved x b) from (subst (IsMoved s) (sym to) moved)

module _ (ds : List Delivery) where
  abbrev we : State → State
  we s = with_earlier ds s

  -- ---- what holds of the mesh with its earlier deliveries holds without them

  pub mesh_own : (s : State) → IsMesh (we s) → IsMesh s
  mesh_own s mesh = mesh_with (we s) s.setup.tables s.delivered s.dumped mesh refl

  pub can_settle_own : (s : State) (app : LoadedApp) → CanSettle (we s) app → CanSettle s app
  can_settle_own s app can = record { loaded = can.loaded; apart = can.apart; numbers = can.numbers; vertices = can.vertices; none = can.none; long = can.long }

  -- ---- with earlier ones too

  pub alone_with : (s : State) (vertices : List ℕ) → SendAlone vertices s → SendAlone vertices (we s)
  alone_with s vertices alone = grind arith

  -- ---- what is under way

  waits_with : (s : State) (app : LoadedApp) (n : ℕ) → WaitsIn s app n → WaitsIn (we s) app n
  waits_with s app n waits = (waits.0, (waits.1.0, still_marked s s.setup.tables (ds ++ s.delivered) s.dumped waits.1.0 waits.1.3 waits.1.1, waits.1.2, waits.1.3))

  waits_own : (s : State) (app : LoadedApp) (n : ℕ) → WaitsIn (we s) app n → WaitsIn s app n
  waits_own s app n waits = (waits.0, (waits.1.0, still_marked (we s) s.setup.tables s.delivered s.dumped waits.1.0 waits.1.3 waits.1.1, waits.1.2, waits.1.3))

  pub none_with : (s : State) (app : LoadedApp) → NoneUnderWay s app → NoneUnderWay (we s) app
  none_with s app none n waits = none n (waits_own s app n waits)

  pub why_with : (s : State) (app : LoadedApp) (cause : UnloadErr) → IsWhyHere s app cause → IsWhyHere (we s) app cause
  why_with s app (Waiting packet) why = (waits_with s app packet why.0, λ other waits. why.1 other (waits_own s app other waits))
  why_with s app cause why = why

-- ---- a clean mesh

pub may_send : (xs : List Delivery) (s : State) → IsClean xs s → MaySend s
may_send xs s clean = record { kept = kept_without xs s clean.kept (mesh_own xs s clean.kept.mesh) clean.quiet clean.none_delivered clean.none_dumped; quiet = clean.quiet }

-- a packet was sent, and its deliveries are held apart
module _ (xs ys : List Delivery) (s t u : State) (clean : IsClean xs s) (reached : IsReachedDropless s t)
    (is : u ≡ record t { delivered = u.delivered }) (all : ys ++ u.delivered ≡ xs ++ t.delivered) where
  pub sent_reached : IsReachedDropless (with_earlier xs s) (with_earlier ys u)
  sent_reached = subst (IsReachedDropless (with_earlier xs s)) (sym (same_mesh xs ys t u is all)) (reached_with xs s t reached)

  pub sent_clean : NothingWaits t → u.delivered ≡ [] → IsClean ys u
  sent_clean quiet none = record {
    kept = kept_reached (with_earlier xs s) (with_earlier ys u) clean.kept sent_reached;
    quiet = quiet_still t u is quiet;
    none_delivered = none;
    none_dumped = ap (λ (v : State). v.dumped) is ∙ (dumped_reached s t reached ∙ clean.none_dumped);
  }

  -- what it brought came behind the earlier ones
  pub brought_more : (v key count : ℕ) → u.delivered ≡ [] → count ≡ length t.delivered → HasBrought s t v key → HasBroughtMore xs ys u.setup v key count
  brought_more v key count none counted has =
      let own : t.delivered ≡ has.come = has.is ∙ ap (λ l. l ++ has.come) clean.none_delivered in
      record {
        come = has.come;
        is = sym (append-nil ys) ∙ (ap (λ l. ys ++ l) (sym none) ∙ (all ∙ ap (λ l. xs ++ l) own));
        long = ap length (sym own) ∙ sym counted;
        always = subst (λ w. BringsAlways w v key has.come) (sym (ap (λ (x : State). x.setup) is ∙ setup_reached s t reached)) has.always;
      }

-- ---- a packet with a key of the same block

module _ (k copy : McCopy) where
  abbrev at : ℕ → Arrival → Delivery
  at n a = record { vertex = a.vertex; copy = record { packet = k.packet; key = n; payload = k.payload; hop = a.hop } }

  same_places : (arrivals : List Arrival) → map (of_packet copy.key k) (deliveries_at arrivals (sent_of copy)) ≡ deliveries_at arrivals (sent_of k)
  same_places [] = refl
  same_places (a ∷ more) = grind (arith, eq-eqb copy.key copy.key refl, same_places more)

-- lists that end with as many items end with the same
same_tail : {X : Type 0} (a b c d : List X) → a ++ b ≡ c ++ d → length b ≡ length d → b ≡ d
same_tail a b c d is long =
    let place : length a ≡ length c = omega (arith, ap length is, length-append a b, length-append c d, long) in
    sym (drop_at a b (length c) place) ∙ (ap (drop (length c)) is ∙ drop_at c d (length c) refl)

-- where what came is the last group's, it is known where others come
pub comes_again : (before after : List Delivery) (u : Setup) (v count : ℕ) (copy : McCopy) (arrivals : List Arrival) (block : Block) → HasBroughtMore before after u v copy.key count →
    EndsWith after arrivals (sent_of copy) count → ((other : ℕ) → IsKeyOf block other → AreRoutedAlike u copy.key other) → Comes u v arrivals block
comes_again before after u v count copy arrivals block has ends alike =
    let own : has.come ≡ deliveries_at arrivals (sent_of copy) = same_tail before has.come ends.before (deliveries_at arrivals (sent_of copy)) (sym has.is ∙ ends.is)
    (has.long ∙ sym (length-map arrivals (delivery_of (sent_of copy)) ∙ ends.long)) in
    grind (arith, own, same_places)

-- a list of unsent copies that has one has a first
pub some_there : (q : List McCopy) (unsent : List (List McCopy)) (v : ℕ) → slice_get unsent v ≢ Some [] → slice_get unsent v ≡ Some q → 0 < length q
some_there [] unsent v some is = absurd (some is)
some_there (k ∷ q) unsent v some is = omega arith

-- so a vertex that has packets unsent has a first one
pub first_sends : {xs : List Delivery} {s : State} {v : ℕ} (q : List McCopy) (d : McCopy) → HasSomeUnsent xs s v → slice_get s.unsent v ≡ Some q → HasFirstUnsent xs s v (get_or q 0 d)
first_sends [] d can at = absurd (can.some at)
first_sends (k ∷ q) d can at = record { clean = can.clean; there = can.there; first = (q, at) }

-- a vertex's first packet came, and the mesh is clean again
pub record IsSentAgain (xs ys : List Delivery) (s u : State) (v : ℕ) : Type 0 where
  pub reached : IsReachedDropless (with_earlier xs s) (with_earlier ys u)
  pub clean : IsClean ys u
  pub unsent : (first : McCopy) (rest : List McCopy) → slice_get s.unsent v ≡ Some (first ∷ rest) → u.unsent ≡ slice_set s.unsent v rest
  pub setup : u.setup ≡ s.setup

-- it comes where it is known that it comes
module _ {xs ys : List Delivery} {s u : State} {v : ℕ} {k : McCopy} {block : Block} (arrivals : List Arrival) (sends : HasFirstUnsent xs s v k) (key : IsKeyOf block k.key)
    (comes : Comes s.setup v arrivals block) (put : ys ≡ xs ++ deliveries_at arrivals (sent_of k)) (dropped : u ≡ record s { unsent = drop_front s.unsent v (slice_get s.unsent v) }) where
  abbrev own : List Delivery
  own = deliveries_at arrivals (sent_of k)

  clean : IsClean xs s
  clean = sends.clean

  is : u ≡ record s { unsent = slice_set s.unsent v sends.first.0 }
  is = dropped ∙ ap (λ q. record s { unsent = drop_front s.unsent v q }) sends.first.1

  again_reached : IsReachedDropless (with_earlier xs s) (with_earlier ys u)
  again_reached =
      let may : MaySend (with_earlier xs s) =
      record { kept = clean.kept; quiet = record { inputs_empty = clean.quiet.inputs_empty; hands_empty = clean.quiet.hands_empty; cores_empty = clean.quiet.cores_empty } } in
      let all : (xs ++ s.delivered) ++ own ≡ ys ++ s.delivered =
      ap (λ l. (xs ++ l) ++ own) clean.none_delivered ∙ (ap (λ l. l ++ own) (append-nil xs) ∙ (sym put ∙ (sym (append-nil ys) ∙ ap (λ l. ys ++ l) (sym clean.none_delivered)))) in
      subst (IsReachedDropless (with_earlier xs s))
      (ap (λ l. record s { unsent = slice_set s.unsent v sends.first.0; delivered = l }) all ∙ ap (with_earlier ys) (sym is))
      (comes (with_earlier xs s) k sends.first.0 may refl sends.first.1 key)

  pub sent_again : IsSentAgain xs ys s u v
  sent_again = grind (arith, again_reached, clean, kept_reached (with_earlier xs s) (with_earlier ys u) clean.kept again_reached, is)

-- a list of unsent copies with a first one is not empty
pub some_first : (q : Option (List McCopy)) (k : McCopy) (rest : List McCopy) → q ≡ Some (k ∷ rest) → q ≢ Some []
some_first q k rest is none = let long = ap length (same_Some (k ∷ rest) [] (sym is ∙ none)) in absurd (omega (arith, long))

-- ---- blocks of which it is known where their packets come

pub comes_there : (u w : Setup) (v : ℕ) (block : Block) (arrivals own : List Arrival) → w ≡ u → own ≡ arrivals → Comes u v arrivals block → Comes w v own block
comes_there u w v block arrivals own setup is comes = subst (λ x. Comes x v own block) (sym setup) (subst (λ l. Comes u v l block) (sym is) comes)

pub known_still : (u w : Setup) (v : ℕ) (apps : List LoadedApp) (known : BTreeMap ℕ KnownBlock) → w ≡ u → AreKnown u v apps known → AreKnown w v apps known
known_still u w v apps known setup all = subst (λ x. AreKnown x v apps known) (sym setup) all

pub none_known : (u : Setup) (v : ℕ) (apps : List LoadedApp) (known : BTreeMap ℕ KnownBlock) → AreAlikeInBlocks u apps → known.entries ≡ [] → AreKnown u v apps known
none_known u v apps known alike none = record { alike = alike; come = λ key it at. absurd (none-some it (sym (ap (lookup (is_at (nat_cmp key))) none) ∙ at)) }

-- one more
pub one_known : (u : Setup) (v : ℕ) (apps : List LoadedApp) (key : ℕ) (own : KnownBlock) (known new : BTreeMap ℕ KnownBlock) → Updates nat_cmp known new key (Some own) →
    AreKnown u v apps known → Comes u v own.arrivals own.block → AreKnown u v apps new
one_known u v apps key own known new updates all comes = grind (arith, nat_cmp, cases_Bool, same_Some)

-- those that pass are no more
pub few_own : (p : Delivery → Bool) (xs ys own late : List Delivery) → own ≡ filter p xs → late ≡ filter p ys → length xs + length ys < 2 ^ 64 → length own + length late < 2 ^ 64
few_own p xs ys own late own_is late_is fits = grind (arith, length-filter p xs, length-filter p ys, count_by-le-length p xs, count_by-le-length p ys)
