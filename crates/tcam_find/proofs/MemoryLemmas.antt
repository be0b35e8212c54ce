-- The entries of a memory, which stand in groups of eight.
use Rattle.std.proofs.Common.{rules, ◌≡◌, ℕ, ◌+◌, ◌*◌, ◌/◌, ◌<◌, ◌≤◌, eqb, Bool, true, false, List, [], ◌∷◌, ◌++◌, length, get_or, set, replicate, bit_and, refl, sym, ap, ◌∙◌, arith, zero, suc, Some}
use Rattle.std.proofs.Common.{None, slice_get, ◌-◌}
use Rattle.std.proofs.lemmas.{Bool.cases_lt, Bool.eqb-false, Bool.eqb-true, List.length-replicate, List.length-append, List.length-set, List.set_past, List.length_push, List.append_assoc}
use Rattle.std.proofs.lemmas.{List.get_or-replicate, List.replicate-append-replicate, List.set-append_left, List.set-append_right, Grind.flat_map-append, Option.slice_get-get_or}
use Rattle.std.proofs.lemmas.{Option.slice_get_within, List.Elements.All-cons, List.Elements.All-head, List.Elements.All-nil, List.Elements.All-replicate, List.Elements.All-set}
use Rattle.std.proofs.lemmas.List.Elements.{All-tail}
use Rattle.std.specs.Int.Bits.{and_zero_r}
use Rattle.spin_base.proofs.Places.{set-slice_get, slice_get-append_left, slice_get-push_cases, slice_get-set_other, slice_get-set_same}
use Rattle.spin_base.specs.{declared.routes.Route.Route, declared.chips.Port.Port, declared.blocks.Entry.Entry, declared.sizes.TheConstants.ROUTER_ENTRIES, Lookup.default_route, Lookup.lookup}
use Rattle.spin_base.specs.{Lookup.matches, Outputs.nothing}
use Rattle.tcam_find.specs.{declared.groups.Group.Group, Lanes.first_route, Memory.AreLengthened, Memory.HaveInCommon, Memory.Misses, Memory.NoneMatches, Memory.entries_held, Memory.entries_in}
use Rattle.tcam_find.specs.Memory.{entries_of, entries_of_groups, empty_memory, unused}

pub length-entries_of : (keys masks : List ℕ) (routes : List Route) → length masks ≡ length keys → length routes ≡ length keys
    → length (entries_of keys masks routes) ≡ length keys
length-entries_of [] masks routes m r = refl
length-entries_of (k ∷ ks) [] routes m r = cc
length-entries_of (k ∷ ks) (m ∷ ms) [] e r = cc
length-entries_of (k ∷ ks) (m ∷ ms) (o ∷ os) e r = ap suc (length-entries_of ks ms os (omega arith) (omega arith))

-- one place of each row is one entry
pub get-entries_of : (keys masks : List ℕ) (routes : List Route) (i : ℕ) (d : Route)
    → i < length keys → length masks ≡ length keys → length routes ≡ length keys
    → slice_get (entries_of keys masks routes) i ≡ Some (record { key = get_or keys i 0; mask = get_or masks i 0; route = get_or routes i d })
get-entries_of [] masks routes i d inside m r = absurd (omega arith)
get-entries_of (k ∷ ks) [] routes i d inside m r = cc
get-entries_of (k ∷ ks) (m ∷ ms) [] i d inside e r = cc
get-entries_of (k ∷ ks) (m ∷ ms) (o ∷ os) zero d inside e r = refl
get-entries_of (k ∷ ks) (m ∷ ms) (o ∷ os) (suc i) d inside e r = grind (arith, get-entries_of ks ms os i d (omega arith) (omega arith) (omega arith))

pub set-entries_of : (keys masks : List ℕ) (routes : List Route) (i : ℕ) (e : Entry)
    → length masks ≡ length keys → length routes ≡ length keys
    → entries_of (set keys i e.key) (set masks i e.mask) (set routes i e.route) ≡ set (entries_of keys masks routes) i e
set-entries_of [] masks routes i e m r = refl
set-entries_of (k ∷ ks) [] routes i e m r = cc
set-entries_of (k ∷ ks) (m ∷ ms) [] i e p r = cc
set-entries_of (k ∷ ks) (m ∷ ms) (o ∷ os) zero e p r = refl
set-entries_of (k ∷ ks) (m ∷ ms) (o ∷ os) (suc i) e p r = grind (arith, set-entries_of ks ms os i e (omega arith) (omega arith))

entries_of-replicate : (n key mask : ℕ) (route : Route)
    → entries_of (replicate n key) (replicate n mask) (replicate n route) ≡ replicate n (record { key = key; mask = mask; route = route })
entries_of-replicate zero key mask route = refl
entries_of-replicate (suc n) key mask route = ap (λ es. record { key = key; mask = mask; route = route } ∷ es) (entries_of-replicate n key mask route)

pub length_empty : length empty_memory ≡ ROUTER_ENTRIES
unfolding empty_memory
length_empty = length-replicate ROUTER_ENTRIES unused

-- no bit of a key under the mask 0
pub unused_matches : (key : ℕ) → matches unused key ≡ false
unused_matches key = ap (λ n. eqb n 0xffff_ffff) (and_zero_r key)

-- ---- eight entries

pub length_in : (g : Group) → length (entries_in g) ≡ 8
length_in g = grind (arith, length-entries_of g.keys g.masks g.routes (omega (arith, g.eight, g.masked)) (omega (arith, g.eight, g.routed)))

-- the first place whose key and mask match decides
pub route_found : (keys masks : List ℕ) (routes : List Route) (key : ℕ) (i : ℕ) (d : Route)
    → i < length keys → length masks ≡ length keys → length routes ≡ length keys
    → ((k : ℕ) → k < i → eqb (bit_and key (get_or masks k 0)) (get_or keys k 0) ≡ false)
    → eqb (bit_and key (get_or masks i 0)) (get_or keys i 0) ≡ true
    → Some (get_or routes i d) ≡ first_route (entries_of keys masks routes) key
route_found [] masks routes key i d inside m r before found = absurd (omega arith)
route_found (k ∷ ks) [] routes key i d inside m r before found = cc
route_found (k ∷ ks) (m ∷ ms) [] key i d inside e r before found = cc
route_found (k ∷ ks) (m ∷ ms) (o ∷ os) key zero d inside e r before found = rw found refl
route_found (k ∷ ks) (m ∷ ms) (o ∷ os) key (suc i) d inside e r before found =
    let first : eqb (bit_and key m) k ≡ false = before 0 (omega arith) in
    rw first (route_found ks ms os key i d (omega arith) (omega arith) (omega arith) (λ j lt. before (suc j) (omega arith)) found)

-- where no place matches, no entry has a route
pub route_missed : (keys masks : List ℕ) (routes : List Route) (key : ℕ)
    → ((k : ℕ) → k < length keys → eqb (bit_and key (get_or masks k 0)) (get_or keys k 0) ≡ false)
    → None ≡ first_route (entries_of keys masks routes) key
route_missed [] masks routes key none = refl
route_missed (k ∷ ks) [] routes key none = refl
route_missed (k ∷ ks) (m ∷ ms) [] key none = refl
route_missed (k ∷ ks) (m ∷ ms) (o ∷ os) key none =
    let first : eqb (bit_and key m) k ≡ false = none 0 (omega arith) in
    rw first (route_missed ks ms os key (λ j lt. none (suc j) (omega arith)))

-- entries of which none has a route for the key match it nowhere
pub none_routed : (es : List Entry) (key : ℕ) → None ≡ first_route es key → NoneMatches key es
none_routed [] key no_route = All-nil (λ e. matches e key ≡ false)
none_routed (e ∷ es) key no_route = by_test (none_routed es key) (matches e key) refl
  where
    by_test : (None ≡ first_route es key → NoneMatches key es) → (b : Bool) → matches e key ≡ b → NoneMatches key (e ∷ es)
    by_test others b is = grind (arith, All-cons)

-- ---- groups of eight

pub length_groups : (gs : List Group) → length (entries_of_groups gs) ≡ 8 * length gs
length_groups [] = refl
length_groups (g ∷ gs) = length-append (entries_in g) (entries_of_groups gs) ∙ omega (arith, length_in g, length_groups gs)

get_behind : (xs ys : List Entry) (n j : ℕ) (e : Entry) → length xs ≡ n → slice_get ys j ≡ Some e → slice_get (xs ++ ys) (n + j) ≡ Some e
get_behind [] ys n j e long got = let at : n + j ≡ j = omega (arith, long) in rw at got
get_behind (x ∷ xs) ys zero j e long got = absurd (omega (arith, long))
get_behind (x ∷ xs) ys (suc n) j e long got = grind (arith, get_behind xs ys n j e (omega (arith, long)) got)

-- an entry of a group is one of all
pub get_in_groups : (gs : List Group) (i j : ℕ) (g : Group) (e : Entry)
    → slice_get gs i ≡ Some g → slice_get (entries_in g) j ≡ Some e → slice_get (entries_of_groups gs) (8 * i + j) ≡ Some e
get_in_groups [] i j g e got there = cc
get_in_groups (x ∷ xs) zero j g e got there = search (rules, slice_get-append_left)
get_in_groups (x ∷ xs) (suc i) j g e got there =
    let at : 8 * suc i + j ≡ 8 + (8 * i + j) = omega arith in
    rw at (get_behind (entries_in x) (entries_of_groups xs) 8 (8 * i + j) e (length_in x) (get_in_groups xs i j g e got there))

-- an entry that is put into a group is put among all
pub set_in_groups : (gs : List Group) (i j : ℕ) (g h : Group) (e : Entry)
    → slice_get gs i ≡ Some g → j < 8 → entries_in h ≡ set (entries_in g) j e
    → entries_of_groups (set gs i h) ≡ set (entries_of_groups gs) (8 * i + j) e
set_in_groups [] i j g h e got inside put = cc
set_in_groups (x ∷ xs) zero j g h e got inside put = grind (arith, set-append_left (entries_in x) (entries_of_groups xs) j e (omega (arith, inside, length_in x)), length_in x)
set_in_groups (x ∷ xs) (suc i) j g h e got inside put =
    grind (arith, set_in_groups xs i j g h e got inside put, set-append_right (entries_in x) (entries_of_groups xs) 8 (8 * suc i + j) e (length_in x) (omega arith), length_in x)

-- entries of which none matches are passed over
pass : (xs ys : List Entry) (key : ℕ) (port : Port) → NoneMatches key xs → lookup ys key port ≡ lookup (xs ++ ys) key port
pass [] ys key port none = refl
pass (x ∷ xs) ys key port none =
    rw (All-head (λ e. matches e key ≡ false) x xs none) (pass xs ys key port (All-tail (λ e. matches e key ≡ false) x xs none))

hit : (xs ys : List Entry) (key : ℕ) (port : Port) (r : Route) → Some r ≡ first_route xs key → r ≡ lookup (xs ++ ys) key port
hit [] ys key port r routed = cc
hit (x ∷ xs) ys key port r routed = by_test (hit xs ys key port r) (matches x key) refl
  where
    by_test : (Some r ≡ first_route xs key → r ≡ lookup (xs ++ ys) key port) → (b : Bool) → matches x key ≡ b
        → r ≡ lookup (x ∷ (xs ++ ys)) key port
    by_test others b is = grind arith

-- the first group that has a route for the key decides
pub lookup_found : (gs : List Group) (tail : List Entry) (i key : ℕ) (port : Port) (g : Group) (r : Route) → slice_get gs i ≡ Some g
    → ((k : ℕ) (x : Group) → k < i → slice_get gs k ≡ Some x → NoneMatches key (entries_in x))
    → Some r ≡ first_route (entries_in g) key → r ≡ lookup (entries_of_groups gs ++ tail) key port
lookup_found [] tail i key port g r got before routed = cc
lookup_found (x ∷ xs) tail zero key port g r got before routed = grind (arith, append_assoc (entries_in x) (entries_of_groups xs) tail, hit)
lookup_found (x ∷ xs) tail (suc i) key port g r got before routed =
    lookup_found xs tail i key port g r got (λ k y lt there. before (suc k) y (omega (arith, lt)) there) routed
    ∙ pass (entries_in x) (entries_of_groups xs ++ tail) key port (before 0 x (omega arith) refl)
    ∙ ap (λ es. lookup es key port) (sym (append_assoc (entries_in x) (entries_of_groups xs) tail))

none_found : (es : List Entry) (key : ℕ) (port : Port) → NoneMatches key es → default_route port ≡ lookup es key port
none_found [] key port none = refl
none_found (e ∷ es) key port none =
    rw (All-head (λ e. matches e key ≡ false) e es none) (none_found es key port (All-tail (λ e. matches e key ≡ false) e es none))

-- where no group has an entry that matches, the default route does
pub lookup_none : (gs : List Group) (n key : ℕ) (port : Port)
    → ((k : ℕ) (x : Group) → slice_get gs k ≡ Some x → NoneMatches key (entries_in x))
    → default_route port ≡ lookup (entries_of_groups gs ++ replicate n unused) key port
lookup_none [] n key port none = search (rules, none_found, All-replicate, unused_matches)
lookup_none (x ∷ xs) n key port none =
    lookup_none xs n key port (λ k y there. none (suc k) y there)
    ∙ pass (entries_in x) (entries_of_groups xs ++ replicate n unused) key port (none 0 x refl)
    ∙ ap (λ es. lookup es key port) (sym (append_assoc (entries_in x) (entries_of_groups xs) (replicate n unused)))

-- groups before the next that may have an entry that matches
pub passed_over : (gs : List Group) (group next key : ℕ)
    → ((i : ℕ) (x : Group) → i < group → slice_get gs i ≡ Some x → NoneMatches key (entries_in x))
    → ((x : Group) → slice_get gs group ≡ Some x → NoneMatches key (entries_in x))
    → ((i : ℕ) (x : Group) → 1 ≤ i → group + 1 ≤ i → i < next → slice_get gs i ≡ Some x → NoneMatches key (entries_in x))
    → (i : ℕ) (x : Group) → i < next → slice_get gs i ≡ Some x → NoneMatches key (entries_in x)
passed_over gs group next key before here others i x early got = search (rules, cases_lt, slice_get)

-- groups of which none has one
pub passed_all : (gs : List Group) (group key : ℕ) → length gs ≤ group
    → ((i : ℕ) (x : Group) → i < group → slice_get gs i ≡ Some x → NoneMatches key (entries_in x))
    → (i : ℕ) (x : Group) → slice_get gs i ≡ Some x → NoneMatches key (entries_in x)
passed_all gs group key past before i x got = before i x (omega (arith, past, slice_get_within gs i x got)) got

-- ---- the memory of these groups

pub length_held : (gs : List Group) → length gs ≤ 128 → length (entries_held gs) ≡ 1024
length_held gs few = grind (arith, length-append (entries_of_groups gs) (replicate (1024 - 8 * length gs) unused), length_groups gs, length-replicate (1024 - 8 * length gs) unused)

pub empty_is : (gs : List Group) → gs ≡ [] → entries_held gs ≡ empty_memory
unfolding empty_memory
empty_is gs is = search rules

-- an entry behind the groups
pub get_behind_groups : (gs : List Group) (k : ℕ) → length gs ≤ k / 8 → k < 1024 → slice_get (entries_held gs) k ≡ Some unused
get_behind_groups gs k behind below =
    let there : 8 * length gs + (k - 8 * length gs) ≡ k = omega (arith, behind) in
    let inside : k - 8 * length gs < 1024 - 8 * length gs = omega (arith, behind, below) in
    ap (slice_get (entries_held gs)) (sym there)
    ∙ get_behind (entries_of_groups gs) (replicate (1024 - 8 * length gs) unused) (8 * length gs) (k - 8 * length gs) unused (length_groups gs)
    (slice_get-get_or (replicate (1024 - 8 * length gs) unused) (k - 8 * length gs) unused (omega (arith, inside, length-replicate (1024 - 8 * length gs) unused))
    ∙ ap Some (get_or-replicate (1024 - 8 * length gs) (k - 8 * length gs) unused unused inside))

-- an entry that is put into a group is put into the memory
pub set_in_held : (gs : List Group) (i j : ℕ) (g h : Group) (e : Entry)
    → slice_get gs i ≡ Some g → j < 8 → entries_in h ≡ set (entries_in g) j e
    → entries_held (set gs i h) ≡ set (entries_held gs) (8 * i + j) e
set_in_held gs i j g h e got inside put = search (rules, length-set, set_in_groups, set-append_left, length_groups, slice_get_within)

-- ---- a group of unused entries more

pub held_more : (gs : List Group) (g : Group) → length gs < 128 → entries_in g ≡ replicate 8 unused → entries_held (gs ++ g ∷ []) ≡ entries_held gs
held_more gs g short is =
    let left : 8 + (1024 - 8 * length (gs ++ g ∷ [])) ≡ 1024 - 8 * length gs = omega (arith, short, length_push gs g) in
    ap (λ es. es ++ replicate n unused) (flat_map-append entries_in gs (g ∷ []))
    ∙ append_assoc (entries_of_groups gs) (entries_in g ++ []) (replicate n unused)
    ∙ ap (λ es. entries_of_groups gs ++ es)
    (append_assoc (entries_in g) [] (replicate n unused) ∙ ap (λ es. es ++ replicate n unused) is
    ∙ replicate-append-replicate 8 n unused ∙ ap (λ m. replicate m unused) left)
  where
    n : ℕ
    n = 1024 - 8 * length (gs ++ g ∷ [])

pub common_more : (gs : List Group) (g : Group) (common values : List ℕ) → entries_in g ≡ replicate 8 unused
    → HaveInCommon gs common values → HaveInCommon (gs ++ g ∷ []) common values
common_more gs g common values is others i key x behind got miss = grind (arith, slice_get-push_cases gs g x i got, unused_matches key, All-replicate)

pub group_of_unused : (route : Route) → route ≡ nothing
    → entries_of (replicate 8 0xffff_ffff) (replicate 8 0) (replicate 8 route) ≡ replicate 8 unused
group_of_unused route e = ap (λ o. entries_of (replicate 8 0xffff_ffff) (replicate 8 0) (replicate 8 o)) e ∙ entries_of-replicate 8 0xffff_ffff 0 nothing

-- ---- an entry is put into a group

pub common_after : (gs : List Group) (common values new_common new_values : List ℕ) (i j : ℕ) (g h : Group) (e : Entry)
    → slice_get gs i ≡ Some g → entries_in h ≡ set (entries_in g) j e → HaveInCommon gs common values
    → ((k key : ℕ) → Misses new_common new_values k key → Misses common values k key)
    → ((key : ℕ) → Misses new_common new_values i key → matches e key ≡ false)
    → HaveInCommon (set gs i h) new_common new_values
common_after gs common values new_common new_values i j g h e got put others before of_entry k key x behind got_x miss =
    search (rules, eqb-true, slice_get, slice_get-set_same, All-set, slice_get-set_other, eqb-false)

-- an unused entry is put into a group
pub common_cleared : (gs : List Group) (common values : List ℕ) (i j : ℕ) (g h : Group)
    → slice_get gs i ≡ Some g → entries_in h ≡ set (entries_in g) j unused → HaveInCommon gs common values → HaveInCommon (set gs i h) common values
common_cleared gs common values i j g h got put others = search (rules, common_after, unused_matches)

-- an entry behind the groups is unused as it is
pub clear_behind : (gs : List Group) (k : ℕ) → length gs ≤ 128 → length gs ≤ k / 8 → entries_held gs ≡ set (entries_held gs) k unused
clear_behind gs k few behind = search (rules, cases_lt, set-slice_get, get_behind_groups, set_past, length_held)

pub lengthened_none : (gs : List Group) → AreLengthened gs gs
lengthened_none gs = record { few = λ few. few; held = refl; others = λ common values knows. knows }

pub lengthened_more : (old gs : List Group) (g : Group) → length gs < 128 → entries_in g ≡ replicate 8 unused
    → AreLengthened old gs → AreLengthened old (gs ++ g ∷ [])
lengthened_more old gs g short is so_far = grind (arith, length_push gs g, held_more gs g short is, common_more)
