-- The spots that a board gives are those of the definition.
use Rattle.place_fit.proofs.Common.{All, All-at, All-cons, All-filter, All-nil, AllPairs, AllZip, AreFirstMemories, AreFirstSpots, AreFreeOn, AreGiven, ArePlaced, AreSettled, Board, Bool, Chip}
use Rattle.place_fit.proofs.Common.{Description, Dir, Edge, FindsNoRoom, HasDeviceRoom, HasNoPlace, HasNoRoom, HasNoRoomAt, HasNoSpot, HasRoom, HaveDifferentDevices, IsChipTold, IsCoreFor}
use Rattle.place_fit.proofs.Common.{IsCurveLevel, IsFilled, IsFirstChip, IsPlaceWithRoom, IsPut, IsPutAtLink, IsPutOnCore, IsSite, IsSpotFor, IsUsable, IsWholeBoard, IsWithout, List, MatchOption}
use Rattle.place_fit.proofs.Common.{None, Option, Placed, Some, Spot, Stands, Vertex, [], and-true, and_from, ap, ap₂, arith, below_six, bit_at, both_ways, cases_Bool, cases_lt, choices, cond}
use Rattle.place_fit.proofs.Common.{cond-false, cond-true, core_spot, curve_place, device_spot, dir_at, dir_at-dir_number, dir_number, filter, get_or, get_or-take, get_or_from_slice_get, hilbert, inl}
use Rattle.place_fit.proofs.Common.{inr, is_device_place, is_live_chip, is_live_link, is_usable, le-leb, leb, length, length-take, length_push, list_any, list_any_at, lt-ltb, ltb, memory_of, need_of}
use Rattle.place_fit.proofs.Common.{not, or_right, refl, same_dir, same_edge, slice_get, slice_get-append_left, slice_get-get_or, slice_get-push_cases, slice_get-pushed, slice_get_there}
use Rattle.place_fit.proofs.Common.{slice_get_within, spot_eq, spot_eq_same, subst, suc, sym, take, take-append-le, take_at, take_more, true, usable_site, used_on, zero, ℕ, ◌++◌, ◌+◌, ◌-◌, ◌<◌, ◌==◌}
use Rattle.place_fit.proofs.Common.{◌^◌, ◌∙◌, ◌∷◌, ◌≡◌, ◌≢◌, ◌≤◌}
use Rattle.place_fit.proofs.{CurveLaws.at_place, Giving.high_bit, Giving.same_curve, UsableSpots.any_usable, Standing.live_in, Standing.free_parts, Standing.free_at, Standing.bit_of_free}
use Rattle.place_fit.proofs.Standing.{has_room, cores_with_room, room_for, usable_parts, is_taken, need_of_core, need_of_device, stands_first, stands_device}
use Rattle.place_fit.proofs.Standing.{stands_more as one_stands_more}

-- the first item that passes is the first of those that pass a test, if it passes it
first_from_place : (P : Chip → Type 0) (test : Chip → Bool) (xs : List Chip) (q : ℕ) (c : Chip) → slice_get xs q ≡ Some c → P c → test c ≡ true
    → ((j : ℕ) (d : Chip) → j < q → slice_get xs j ≡ Some d → P d → ⊥) → IsFirstChip P (filter test xs) c
first_from_place P test [] q c at has passes none = cc
first_from_place P test (x ∷ xs) zero c at has passes none = grind (arith, cond-true (test x) (x ∷ filter test xs) (filter test xs) (ap test (cc) ∙ passes), has)
first_from_place P test (x ∷ xs) (suc q) c at has passes none =
    let rest = first_from_place P test xs q c at has passes (λ j d low is. none (suc j) d (omega (arith, low)) is) in
    let not_here : P x → ⊥ = none 0 x (omega arith) refl in
    elim (cases_Bool (test x)) [
      | inl here ↦ subst (λ l. IsFirstChip P l c) (sym (cond-true (test x) (x ∷ filter test xs) (filter test xs) here)) (inr (not_here, rest))
      | inr out ↦ subst (λ l. IsFirstChip P l c) (sym (cond-false (test x) (x ∷ filter test xs) (filter test xs) out)) rest
    ]

-- what is first has the property
pub first_has : (P : Chip → Type 0) (xs : List Chip) (c : Chip) → IsFirstChip P xs c → P c
first_has P [] c f = absurd f
first_has P (x ∷ xs) c f = elim f [ inl here ↦ subst P here.1 here.0 | inr later ↦ first_has P xs c later.1 ]

module _ (m : Description) (vs : List Vertex) (ss : List Spot) (b : Board) (stands : Stands m vs ss b) (v : Vertex) where
  on_board : (q : ℕ) (c : Chip) → slice_get (hilbert b.level) q ≡ Some c → slice_get b.chips q ≡ Some c
  on_board q c at = ap (λ l. slice_get l q) b.curve ∙ at

  -- a place has room exactly where its number says so
  told_at : (q : ℕ) (c : Chip) → slice_get b.chips q ≡ Some c → IsChipTold m vs ss c (get_or b.cores.items q 0) (get_or b.rooms q 0)
  told_at q c at = stands.told q c at

  lives : (c : Chip) → HasRoom m vs ss v c → is_live_chip m c ≡ true
  lives c has = (usable_parts m (core_spot c has.core) (free_parts m ss (core_spot c has.core) has.free).0).0

  module _ (place : ℕ) (found : IsPlaceWithRoom b v place) (new : Board) (r : Placed) (filled : IsFilled place v.sdram b new r) where
    here : IsChipTold m vs ss r.spot.chip (get_or b.cores.items place 0) (get_or b.rooms place 0)
    here = stands.told place r.spot.chip filled.chip

    has : HasRoom m vs ss v r.spot.chip
    has = has_room m vs ss r.spot.chip (get_or b.cores.items place 0) (get_or b.rooms place 0) here v (b.few place) found.enough

    by_choice : (at : Option Chip) → MatchOption at ((q : ℕ) → q < place → get_or b.rooms q 0 ≤ v.sdram) (λ c. slice_get b.chips place ≡ Some c)
        → IsFirstChip (HasRoom m vs ss v) (choices (filter (is_live_chip m) (hilbert b.level)) at) r.spot.chip
    by_choice None first =
        first_from_place (HasRoom m vs ss v) (is_live_chip m) (hilbert b.level) place r.spot.chip (ap (λ l. slice_get l place) (sym b.curve) ∙ filled.chip) has (lives r.spot.chip has)
        (λ j d low is room. let more = room_for m vs ss d (get_or b.cores.items j 0) (get_or b.rooms j 0) (told_at j d (on_board j d is)) v room in omega (arith, more, first j low))
    by_choice (Some c) is = grind (arith, has)

    pub spot_for : IsCoreFor m (filter (is_live_chip m) (hilbert b.level)) vs ss v r.spot
    spot_for = record {
      chip = by_choice v.at found.first;
      free = free_at m vs ss r.spot.chip (get_or b.cores.items place 0) (get_or b.rooms place 0) here r.spot.core (let low = filled.parted.low in omega (arith, low)) filled.parted.had;
      least = λ p may. elim (cases_lt p r.spot.core) [
        | inl before ↦ absurd (
            let one = bit_of_free m vs ss r.spot.chip (get_or b.cores.items place 0) (get_or b.rooms place 0) here p may in
            let none = filled.parted.none p before in
            omega (arith, one, none)
            )
        | inr from ↦ from
      ];
    }

    pub memory_is : need_of v ≡ v.sdram → r.memory ≡ memory_of vs ss v r.spot
    memory_is plain = grind (arith, cores_with_room, get_or, here)

  none_by : (at : Option Chip) → MatchOption at (All (λ room. room ≤ v.sdram) b.rooms) (HasNoRoomAt b v.sdram)
      → All (λ c. HasRoom m vs ss v c → ⊥) (choices (filter (is_live_chip m) (hilbert b.level)) at)
  none_by None none =
      All-filter (is_live_chip m) (λ c. HasRoom m vs ss v c → ⊥) (hilbert b.level) (λ q d inside room.
      let c = get_or (hilbert b.level) q d in
      let at = on_board q c (slice_get-get_or (hilbert b.level) q d inside) in
      let more = room_for m vs ss c (get_or b.cores.items q 0) (get_or b.rooms q 0) (told_at q c at) v room in
      let within = slice_get_within b.chips q c at in
      omega (arith, more, none q 0 (omega (arith, within, b.rooms_beside))))
  none_by (Some c) none =
      All-cons (λ z. HasRoom m vs ss v z → ⊥) c [] (λ room.
      let live = lives c room in
      let at = at_chip c live in
      let more = room_for m vs ss c (get_or b.cores.items at.0 0) (get_or b.rooms at.0 0) (told_at at.0 c at.1) v room in
      omega (arith, more, none at.0 at.1))
      (All-nil (λ z. HasRoom m vs ss v z → ⊥))
    where
      at_chip : (c : Chip) → is_live_chip m c ≡ true → (q : ℕ) × (slice_get b.chips q ≡ Some c)
      at_chip c live = (curve_place b.level c, on_board (curve_place b.level c) c (at_place b.level c (live_in m c (2 ^ b.level) live stands.level.wide stands.level.high)))

  pub none_for : HasNoPlace b v → All (λ c. HasRoom m vs ss v c → ⊥) (choices (filter (is_live_chip m) (hilbert b.level)) v.at)
  none_for none = none_by v.at none

  -- what holds of the vertex once it is put at its spot
  pub record HasStood (new : Board) (r : Placed) : Type 0 where
    pub spot : IsSpotFor m (filter (is_live_chip m) (hilbert b.level)) vs ss v r.spot
    pub memory : r.memory ≡ memory_of vs ss v r.spot
    pub stands_more : Stands m (vs ++ v ∷ []) (ss ++ r.spot ∷ []) new
    pub level : new.level ≡ b.level

  module _ (new : Board) (r : Placed) where
    pub stood_on_core : v.device ≡ None → IsPutOnCore b new v r → HasStood new r
    stood_on_core is put =
        let plain = need_of_core v is in
        let right = spot_for put.place put.found new r put.filled in
        record {
          spot = subst (λ o. MatchOption o (IsCoreFor m (filter (is_live_chip m) (hilbert b.level)) vs ss v r.spot) (λ device. HasDeviceRoom m device × (r.spot ≡ device_spot device))) (sym is) right;
          memory = memory_is put.place put.found new r put.filled plain;
          stands_more = one_stands_more m vs ss b new stands v put.place r plain put.found.within put.found.enough put.filled;
          level = put.filled.level;
        }

    stood_at_link : (device : Edge) → v.device ≡ Some device → IsPutAtLink m b new device r → HasStood new r
    stood_at_link device is put =
        let none = need_of_device v device is in
        let high : 18 ≤ r.spot.core = subst (λ (s : Spot). 18 ≤ s.core) (sym put.spot) (omega arith) in
        record {
          spot = subst (λ o. MatchOption o (IsCoreFor m (filter (is_live_chip m) (hilbert b.level)) vs ss v r.spot) (λ device. HasDeviceRoom m device × (r.spot ≡ device_spot device))) (sym is) (put.room, put.spot);
          memory = put.memory ∙ sym (ap (λ n. cond (n == 0) 0 (used_on r.spot.chip vs ss)) none);
          stands_more = subst (Stands m (vs ++ v ∷ []) (ss ++ r.spot ∷ [])) (sym put.same) (stands_device m vs ss b v r.spot stands high none);
          level = ap (λ (x : Board). x.level) put.same;
        }

    pub stood : IsPut m b new v r → HasStood new r
    stood = grind (arith, stood_on_core, stood_at_link)

  pub finds_none : HasNoSpot m b v → FindsNoRoom m (filter (is_live_chip m) (hilbert b.level)) vs ss v
  finds_none = by_device v.device
    where
      by_device : (o : Option Edge) → MatchOption o (HasNoPlace b v) (λ device. HasDeviceRoom m device → ⊥)
          → MatchOption o (All (λ c. HasRoom m vs ss v c → ⊥) (choices (filter (is_live_chip m) (hilbert b.level)) v.at)) (λ device. HasDeviceRoom m device → ⊥)
      by_device None none = none_for none
      by_device (Some device) none = none

  pub none_for_core : v.device ≡ None → HasNoPlace b v → FindsNoRoom m (filter (is_live_chip m) (hilbert b.level)) vs ss v
  none_for_core is none = grind (arith, none_for none)

-- ---- one more

pub none_yet : (m : Description) (order : List Chip) (vertices : List Vertex) → AreFirstSpots m order vertices []
none_yet m order vertices = record { few = omega arith; each = λ i v s is_v is_s. cc }

pub no_memory_yet : (vertices : List Vertex) → AreFirstMemories vertices [] []
no_memory_yet vertices = record { one_each = refl; each = λ i v s is_v is_s. cc }

module _ (vertices : List Vertex) (i : ℕ) (v : Vertex) (is : slice_get vertices i ≡ Some v) (spots : List Spot) (here : length spots ≡ i) (s : Spot) where
  pub spots_more : (m : Description) (order : List Chip) → AreFirstSpots m order vertices spots → IsSpotFor m order (take i vertices) spots v s → AreFirstSpots m order vertices (spots ++ s ∷ [])
  spots_more m order first right = record {
    few = omega (arith, length_push spots s, here, slice_get_within vertices i v is);
    each = λ j w t is_w is_t.
        elim (slice_get-push_cases spots s t j is_t) [
          | inl before ↦ subst (λ e. IsSpotFor m order (take j vertices) e w t) (sym (take-append-le j spots (s ∷ []) (omega (arith, before.0)))) (first.each j w t is_w before.1)
          | inr last ↦ (
              let at : j ≡ i = last.0 ∙ here in
              let same : Some v ≡ Some w = sym is ∙ (ap (slice_get vertices) (sym at) ∙ is_w) in
              let one : v ≡ w = cc in
              let all : take j (spots ++ s ∷ []) ≡ spots = take_at spots (s ∷ []) j (sym last.0) in
              subst (λ e. IsSpotFor m order (take j vertices) e w t) (sym all)
              (subst (λ n. IsSpotFor m order (take n vertices) spots w t) (sym at)
              (subst (λ z. IsSpotFor m order (take i vertices) spots w z) last.1 (subst (λ z. IsSpotFor m order (take i vertices) spots z s) one right)))
              )
        ];
  }

  pub memories_more : (memory : List ℕ) (n : ℕ) → AreFirstMemories vertices spots memory → n ≡ memory_of (take i vertices) spots v s → AreFirstMemories vertices (spots ++ s ∷ []) (memory ++ n ∷ [])
  memories_more memory n first right = record {
    one_each = length_push memory n ∙ (ap (λ k. k + 1) first.one_each ∙ sym (length_push spots s));
    each = λ j w t is_w is_t.
        elim (slice_get-push_cases spots s t j is_t) [
          | inl before ↦ grind (arith, slice_get-append_left, take-append-le)
          | inr last ↦ (
              let at : j ≡ i = last.0 ∙ here in
              let same : Some v ≡ Some w = sym is ∙ (ap (slice_get vertices) (sym at) ∙ is_w) in
              let one : v ≡ w = cc in
              let all : take j (spots ++ s ∷ []) ≡ spots = take_at spots (s ∷ []) j (sym last.0) in
              slice_get-pushed memory n j (last.0 ∙ sym first.one_each)
              ∙ ap Some (right
              ∙ (ap₂ (λ (z : Vertex) (u : Spot). memory_of (take i vertices) spots z u) one last.1
              ∙ (ap (λ k. memory_of (take k vertices) spots w t) (sym at) ∙ ap (λ e. memory_of (take j vertices) e w t) (sym all))))
              )
        ];
  }

-- ---- the vertices so far

pub placed_none : (m : Description) (vertices : List Vertex) (b : Board) → IsWholeBoard b → AreFreeOn m b → ArePlaced m vertices [] [] b
placed_none m vertices b whole free = grind (arith, stands_first m b whole free, none_yet m (filter (is_live_chip m) (hilbert b.level)) vertices, no_memory_yet vertices)

module _ (m : Description) (vertices : List Vertex) (i : ℕ) (v : Vertex) (is : slice_get vertices i ≡ Some v) (spots : List Spot) (here : length spots ≡ i) (memory : List ℕ)
    (b : Board) (placed : ArePlaced m vertices spots memory b) where
  pub stands_here : Stands m (take i vertices) spots b
  stands_here = subst (λ n. Stands m (take n vertices) spots b) here placed.stands

  pub placed_more : (new : Board) (r : Placed) → HasStood m (take i vertices) spots b stands_here v new r → ArePlaced m vertices (spots ++ r.spot ∷ []) (memory ++ r.memory ∷ []) new
  placed_more new r stood =
      let taken : take (i + 1) vertices ≡ take i vertices ++ v ∷ [] =
      take_more vertices i v (slice_get_within vertices i v is) ∙ ap (λ w. take i vertices ++ w ∷ []) (get_or_from_slice_get vertices i v v is) in
      let long : length (spots ++ r.spot ∷ []) ≡ i + 1 = length_push spots r.spot ∙ ap (λ n. n + 1) here in
      let all : take (length (spots ++ r.spot ∷ [])) vertices ≡ take i vertices ++ v ∷ [] = ap (λ n. take n vertices) long ∙ taken in
      record {
        stands = subst (λ vs. Stands m vs (spots ++ r.spot ∷ []) new) (sym all) stood.stands_more;
        first = grind (arith, spots_more, here);
        memories = memories_more vertices i v is spots here r.spot memory r.memory placed.memories stood.memory;
      }

  pub has_no_room : FindsNoRoom m (filter (is_live_chip m) (hilbert b.level)) (take i vertices) spots v → HasNoRoom m vertices i
  has_no_room none = grind (arith, here)

-- ---- what follows for the layers above

-- the place of a device that has room is a site
device_site : (m : Description) (e : Edge) → HasDeviceRoom m e → IsSite m (device_spot e)
device_site m e room =
    let number : 18 + dir_number e.dir - 18 ≡ dir_number e.dir = omega arith in
    let dir : dir_at (18 + dir_number e.dir - 18) ≡ e.dir = ap dir_at number ∙ dir_at-dir_number e.dir in
    let low : leb 18 (18 + dir_number e.dir) ≡ true = le-leb 18 (18 + dir_number e.dir) (omega arith) in
    let high : ltb (18 + dir_number e.dir) 24 ≡ true = lt-ltb (18 + dir_number e.dir) 24 (omega (arith, below_six e.dir)) in
    let link : not (is_live_link m e.chip (dir_at (18 + dir_number e.dir - 18))) ≡ true = ap (λ (d : Dir). not (is_live_link m e.chip d)) dir ∙ ap not room.1 in
    or_right (is_usable m (device_spot e)) (is_device_place m (device_spot e)) (and_from _ _ room.0 (and_from _ _ (and_from _ _ low high) link))

-- one device has one spot
same_device : (a b : Edge) → device_spot a ≡ device_spot b → a ≡ b
same_device a b same = grind (arith, same_edge, same_dir)

module _ (m : Description) (order : List Chip) (vertices : List Vertex) (spots : List Spot) (first : AreFirstSpots m order vertices spots) where
  -- the vertex of a spot
  record HasVertex (j : ℕ) (s : Spot) : Type 0 where
    vertex : Vertex
    is : slice_get vertices j ≡ Some vertex
    spot : IsSpotFor m order (take j vertices) (take j spots) vertex s

  vertex_at : (j : ℕ) (s : Spot) → slice_get spots j ≡ Some s → HasVertex j s
  vertex_at j s is = grind (arith, slice_get_there vertices j (omega (arith, first.few, slice_get_within spots j s is)), slice_get_within spots j s is)

  core_usable : (vs : List Vertex) (ss : List Spot) (v : Vertex) (s : Spot) → IsCoreFor m order vs ss v s → IsUsable m s
  core_usable vs ss v s at = (free_parts m ss s at.free).0

  site_of : (vs : List Vertex) (ss : List Spot) (v : Vertex) (s : Spot) (o : Option Edge) → MatchOption o (IsCoreFor m order vs ss v s) (λ device. HasDeviceRoom m device × (s ≡ device_spot device)) → IsSite m s
  site_of vs ss v s o its_5 = grind (arith, usable_site, core_usable, device_site)

  pub all_sites : All (IsSite m) spots
  all_sites j d inside =
      let at = vertex_at j (get_or spots j d) (slice_get-get_or spots j d inside) in
      site_of (take j vertices) (take j spots) at.vertex (get_or spots j d) at.vertex.device at.spot

  module _ (devices : AllPairs HaveDifferentDevices vertices) (i j : ℕ) (s : Spot) (ord : i < j) (at_i : slice_get spots i ≡ Some s) (at_j : slice_get spots j ≡ Some s) where
    one : HasVertex i s
    one = vertex_at i s at_i

    other : HasVertex j s
    other = vertex_at j s at_j

    -- the earlier spot is not free
    taken : is_taken (take j spots) s ≡ true
    taken =
        let within : i < length (take j spots) = omega (arith, length-take j spots, slice_get_within spots j s at_j) in
        let there : get_or (take j spots) i s ≡ s = get_or-take j spots i s ord ∙ get_or_from_slice_get spots i s s at_i in
        list_any_at (spot_eq s) (take j spots) i s within (ap (spot_eq s) there ∙ spot_eq_same s)

    two_devices : (d e : Edge) → one.vertex.device ≡ Some d → other.vertex.device ≡ Some e → d ≡ e → ⊥
    two_devices d e is_d is_e same =
        let pair = devices i j one.vertex ord (slice_get_within vertices j other.vertex other.is) in
        let apart : HaveDifferentDevices one.vertex other.vertex =
        subst (λ (x : Vertex). HaveDifferentDevices x other.vertex) (get_or_from_slice_get vertices i one.vertex one.vertex one.is)
        (subst (λ (y : Vertex). HaveDifferentDevices (get_or vertices i one.vertex) y) (get_or_from_slice_get vertices j other.vertex one.vertex other.is) pair) in
        apart d is_d (is_e ∙ ap Some (sym same))

    by_device : (o p : Option Edge) → one.vertex.device ≡ o → other.vertex.device ≡ p
        → MatchOption o (IsCoreFor m order (take i vertices) (take i spots) one.vertex s) (λ d. HasDeviceRoom m d × (s ≡ device_spot d))
        → MatchOption p (IsCoreFor m order (take j vertices) (take j spots) other.vertex s) (λ d. HasDeviceRoom m d × (s ≡ device_spot d)) → ⊥
    by_device o p is_o is_p mine its = grind (arith, both_ways, free_parts, taken, usable_parts, core_usable, two_devices, same_device)

    pub not_twice : ⊥
    not_twice = by_device one.vertex.device other.vertex.device refl refl one.spot other.spot

  pub cores_usable : All (λ (v : Vertex). v.device ≡ None) vertices → All (IsUsable m) spots
  cores_usable none j d inside =
      let at = vertex_at j (get_or spots j d) (slice_get-get_or spots j d inside) in
      let s = get_or spots j d in
      let core = subst (λ o. MatchOption o (IsCoreFor m order (take j vertices) (take j spots) at.vertex s) (λ device. HasDeviceRoom m device × (s ≡ device_spot device)))
      (All-at (λ (v : Vertex). v.device ≡ None) vertices j at.vertex none at.is) at.spot in
      (free_parts m (take j spots) (get_or spots j d) core.free).0

  pub all_differ : AllPairs HaveDifferentDevices vertices → AllPairs (λ a b. a ≢ b) spots
  all_differ devices i j d ord inside same = grind (arith, not_twice, get_or, slice_get-get_or)

-- a vertex that is no device stands on a usable core
abbrev StandsOnCore : Description → Vertex → Spot → Type 0
StandsOnCore m v s = v.device ≡ None → IsUsable m s

zip_from_places : (m : Description) (vertices : List Vertex) (spots : List Spot) → length vertices ≡ length spots
    → ((i : ℕ) (v : Vertex) (s : Spot) → slice_get vertices i ≡ Some v → slice_get spots i ≡ Some s → StandsOnCore m v s) → AllZip (StandsOnCore m) vertices spots
zip_from_places m [] [] same each = tt
zip_from_places m [] (s ∷ ss) same each = absurd (omega arith)
zip_from_places m (v ∷ vs) [] same each = absurd (omega arith)
zip_from_places m (v ∷ vs) (s ∷ ss) same each = (each 0 v s refl refl, zip_from_places m vs ss (omega arith) (λ i w t. each (suc i) w t))

pub all_on_cores : (m : Description) (order : List Chip) (vertices : List Vertex) (spots : List Spot) → AreFirstSpots m order vertices spots → length vertices ≡ length spots
    → AllZip (λ (v : Vertex) s. v.device ≡ None → IsUsable m s) vertices spots
all_on_cores m order vertices spots first all = zip_from_places m vertices spots all (λ i v s is_v is_s none.
    let at = first.each i v s is_v is_s in
    let core = subst (λ o. MatchOption o (IsCoreFor m order (take i vertices) (take i spots) v s) (λ device. HasDeviceRoom m device × (s ≡ device_spot device))) none at in
    (free_parts m (take i spots) s core.free).0)

-- ---- the cores that are free then

module _ (m : Description) (vertices : List Vertex) (spots : List Spot) (memory : List ℕ) (b new : Board) (placed : ArePlaced m vertices spots memory b) where
  pub free_without : (n : Description) → AreSettled spots b new → new.cores.items ≡ b.cores.items → IsWithout spots m n → AreFreeOn n new
  free_without n settled same less = record {
    level = same_curve m n b.level new.level less.grid settled.level placed.stands.level;
    sdram = settled.sdram ∙ (placed.stands.sdram ∙ sym less.grid.sdram);
    free = λ q c at_new p low.
        let at : slice_get b.chips q ≡ Some c = ap (λ l. slice_get l q) (sym settled.chips) ∙ at_new in
        let told = placed.stands.told q c at in
        ap (λ l. bit_at (get_or l q 0) p) same ∙ (told.free p low ∙ ap (λ (t : Bool). cond t 1 0) (sym (less.usable (core_spot c p))));
  }

  pub free_back : All (λ (v : Vertex). v.device ≡ None) vertices → AreGiven spots b new → AreFreeOn m new
  free_back cores given = record {
    level = subst (IsCurveLevel m) (sym given.settled.level) placed.stands.level;
    sdram = given.settled.sdram ∙ placed.stands.sdram;
    free = λ q c at_new p low.
        let at : slice_get b.chips q ≡ Some c = ap (λ l. slice_get l q) (sym given.settled.chips) ∙ at_new in
        let told = placed.stands.told q c at in
        let s : Spot = core_spot c p in
        let any : Bool = list_any (spot_eq s) spots in
        let old : ℕ = bit_at (get_or b.cores.items q 0) p in
        elim (cases_lt p 18) [
          | inl core ↦ given.free q c at p core
              ∙ elim (cases_Bool any) [
                | inl has ↦ cond-true any 1 old has
                    ∙ sym (cond-true (is_usable m s) 1 0 (any_usable m s spots (cores_usable m (filter (is_live_chip m) (hilbert b.level)) vertices spots placed.first cores) has))
                | inr none ↦ grind (arith, cond-false any 1 old none, and-true (is_usable m s))
              ]
          | inr high ↦ high_bit m c (get_or new.cores.items q 0) p (new.few q) high
        ];
  }
