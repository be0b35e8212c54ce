-- Queues and unsent copies that move between a mesh and shares.
use Rattle.mesh_run.proofs.Common.{All, All-at, All-nil, All-push, All-replicate, AreSameButEnds, AreSameButUnsent, AreSameHolds, Away, End, FitHomes, HoldNothing, Home, IsEmptyHand, List, MayPutLane}
use Rattle.mesh_run.proofs.Common.{MayTakeLane, McCopy, MovesIn, MovesOut, None, Option, Own, PutsEnd, PutsUnsent, SameButCopies, SameButEnds, SameButUnsent, SameRun, SetsQueue, SetsUnsent, Share}
use Rattle.mesh_run.proofs.Common.{Some, State, WithRoom, [], ap, arith, cases_eq, cases_lt, end_at, end_in, get_or, get_or-append_right, get_or-replicate, get_or-set_other, get_or-set_same}
use Rattle.mesh_run.proofs.Common.{get_or_append_left, get_or_default, get_or_past, inl, inr, length, length-append, length-replicate, length-set, length_push, none-some, refl, replicate, rules}
use Rattle.mesh_run.proofs.Common.{run_start, same_Some, same_lists, set, set-append_left, set-append_right, slice_get, slice_get-get_or, slice_get-set_other, slice_get-set_same, slice_get_there}
use Rattle.mesh_run.proofs.Common.{slice_get_within, subst, sym, unsent_at, unsent_in, ℕ, ◌++◌, ◌+◌, ◌-◌, ◌<◌, ◌∙◌, ◌∷◌, ◌≡◌, ◌≢◌, ◌≤◌, ◌⊎◌}
use Rattle.mesh_run.proofs.CrossingLaws.{AreEach, each_on, each_weaker, each_self, each_set, same_on, same_self, stood, told_same}
use Rattle.mesh_run.proofs.{Going.pushed, HomeLaws.start_more}

-- ---- one queue of a mesh

pub same_state : (m : State) → SameButCopies m m
same_state m = record { setup = refl; hands = refl; inputs_long = refl; cores_long = refl; unsent_long = refl; delivered = refl; dumped = refl }

pub state_on : (a b c : State) → SameButCopies a b → SameButCopies b c → SameButCopies a c
state_on a b c p q = grind arith

pub sets_input : (m n : State) (place : ℕ) (q : List McCopy) → place < length m.inputs → n.inputs ≡ set m.inputs place q → n.cores ≡ m.cores → n.unsent ≡ m.unsent → n.setup ≡ m.setup →
    n.hands ≡ m.hands → n.delivered ≡ m.delivered → n.dumped ≡ m.dumped → SetsQueue place q m n
sets_input m n place q below inputs cores unsent setup hands delivered dumped = grind (arith, length-set m.inputs place q, set-append_left m.inputs m.cores place q below)

pub sets_core : (m n : State) (place : ℕ) (q : List McCopy) → length m.inputs ≤ place → n.cores ≡ set m.cores (place - length m.inputs) q → n.inputs ≡ m.inputs → n.unsent ≡ m.unsent →
    n.setup ≡ m.setup → n.hands ≡ m.hands → n.delivered ≡ m.delivered → n.dumped ≡ m.dumped → SetsQueue place q m n
sets_core m n place q past cores inputs unsent setup hands delivered dumped = grind (arith, length-set, set-append_right)

pub read_input : (m : State) (place : ℕ) (q : List McCopy) → place < length m.inputs → q ≡ get_or m.inputs place [] → q ≡ get_or (m.inputs ++ m.cores) place []
read_input m place q below read = read ∙ sym (get_or_append_left m.inputs m.cores [] place below)

pub read_core : (m : State) (place : ℕ) (q : List McCopy) → length m.inputs ≤ place → q ≡ get_or m.cores (place - length m.inputs) [] → q ≡ get_or (m.inputs ++ m.cores) place []
read_core m place q past read = read ∙ sym (get_or-append_right m.inputs m.cores (length m.inputs) place [] refl past)

pub sets_unsent : (m n : State) (vertex : ℕ) (q : List McCopy) → n.unsent ≡ set m.unsent vertex q → n.inputs ≡ m.inputs → n.cores ≡ m.cores → n.setup ≡ m.setup → n.hands ≡ m.hands →
    n.delivered ≡ m.delivered → n.dumped ≡ m.dumped → SetsUnsent vertex q m n
sets_unsent m n vertex q unsent inputs cores setup hands delivered dumped = grind (arith, length-set m.unsent vertex q)

-- ---- unsent copies of one vertex in a share

vertices_self : (s : Share) → SameButUnsent s s
vertices_self s = record { from = refl; to = refl; ends = refl; unsent_long = refl; dumps = refl; deliveries = refl }

vertices_on : (x y z : Share) → SameButUnsent x y → SameButUnsent y z → SameButUnsent x z
vertices_on x y z p q = grind arith

pub unsent_set : (before after : List Share) (share vertex : ℕ) (s t : Share) (copies : List McCopy) → slice_get before share ≡ Some s → vertex < length s.hold.unsent.items →
    after ≡ set before share t → t.from ≡ s.from → t.to ≡ s.to → t.hold.ends ≡ s.hold.ends → t.hold.dumps ≡ s.hold.dumps → t.hold.deliveries ≡ s.hold.deliveries →
    t.hold.unsent.items ≡ set s.hold.unsent.items vertex copies → PutsUnsent share vertex copies before after
unsent_set before after share vertex s t copies stands below is from to ends dumps deliveries unsent =
    grind (arith, each_set, vertices_self, length-set, slice_get-set_same, get_or, get_or-set_same, cases_eq, get_or-set_other, slice_get-set_other)

pub unsent_self : (shares : List Share) → AreSameButUnsent shares shares
unsent_self shares = each_self SameButUnsent vertices_self shares

pub unsent_on : (a b c : List Share) → AreSameButUnsent a b → AreSameButUnsent b c → AreSameButUnsent a c
unsent_on a b c first second = each_on SameButUnsent vertices_on a b c first second

abbrev SameHold : Share → Share → Type 0
SameHold s t = (t.from ≡ s.from) × (t.to ≡ s.to) × (t.hold ≡ s.hold)

hold_self : (s : Share) → SameHold s s
hold_self s = (refl, refl, refl)

pub holds_self : (shares : List Share) → AreSameHolds shares shares
holds_self shares = each_self SameHold hold_self shares

pub holds_on : (a b c : List Share) → AreSameHolds a b → AreSameHolds b c → AreSameHolds a c
holds_on a b c first second = each_on SameHold (λ x y z p q. (q.0 ∙ p.0, q.1 ∙ p.1, q.2 ∙ p.2)) a b c first second

pub holds_set : (shares : List Share) (share : ℕ) (s t : Share) → slice_get shares share ≡ Some s → t.from ≡ s.from → t.to ≡ s.to → t.hold ≡ s.hold → AreSameHolds shares (set shares share t)
holds_set shares share s t stands from to hold = each_set SameHold hold_self shares share s t stands (from, to, hold)

-- ---- moving in

-- the queues before a place moved in
pub record LanesTo (m : State) (homes : List Home) (start : List Share) (n : ℕ) (now : State) (shares : List Share) : Type 0 where
  pub same : SameButCopies m now
  pub unsent : now.unsent ≡ m.unsent
  pub left : (q : ℕ) → n ≤ q → get_or (now.inputs ++ now.cores) q [] ≡ get_or (m.inputs ++ m.cores) q []
  pub shares_same : AreSameButEnds start shares
  pub lanes : (q : ℕ) (h : Home) → q < n → slice_get homes q ≡ Some h → h.sender ≡ h.receiver →
      (a : WithRoom McCopy) × (end_at shares h.sender q ≡ Some (Own a)) × (a.items ≡ get_or (m.inputs ++ m.cores) q [])
  pub others : (s q : ℕ) → ((h : Home) → q < n → slice_get homes q ≡ Some h → h.sender ≡ h.receiver → s ≡ h.sender → ⊥) → end_at shares s q ≡ end_at start s q

pub lanes_none : (m : State) (homes : List Home) (start : List Share) → LanesTo m homes start 0 m start
lanes_none m homes start = grind (arith, same_state m, same_self start)

-- the queue at the next place
pub lanes_more : (m : State) (homes : List Home) (start : List Share) (n : ℕ) (now next : State) (shares new : List Share) (home : Home) (copies gone : List McCopy) →
    LanesTo m homes start n now shares → slice_get homes n ≡ Some home →
    copies ≡ get_or (now.inputs ++ now.cores) n [] → SetsQueue n gone now next → MayPutLane home n copies shares new → LanesTo m homes start (n + 1) next new
lanes_more m homes start n now next shares new home copies gone so_far at read sets (inl apart) = grind (arith, state_on, get_or, get_or-set_other, cases_eq, same_Some)
lanes_more m homes start n now next shares new home copies gone so_far at read sets (inr put) =
    grind (arith, state_on m now next so_far.same sets.same, same_on start shares new so_far.shares_same put.3.same, get_or, get_or-set_other, cases_eq, same_Some)

-- what the vertices before a place did not send moved in
pub record VerticesTo (ports : ℕ) (m : State) (homes : List Home) (start : List Share) (n : ℕ) (now : State) (shares : List Share) : Type 0 where
  pub same : SameButCopies m now
  pub left : (v : ℕ) → n ≤ v → get_or now.unsent v [] ≡ get_or m.unsent v []
  pub shares_same : AreSameButUnsent start shares
  pub here : (v : ℕ) (h : Home) → v < n → slice_get homes (ports + v) ≡ Some h → unsent_at shares h.receiver v ≡ get_or m.unsent v []
  pub others : (s v : ℕ) → ((h : Home) → v < n → slice_get homes (ports + v) ≡ Some h → s ≡ h.receiver → ⊥) → unsent_at shares s v ≡ unsent_at start s v

pub vertices_to_none : (ports : ℕ) (m now : State) (homes : List Home) (start : List Share) → SameButCopies m now → now.unsent ≡ m.unsent → VerticesTo ports m homes start 0 now start
vertices_to_none ports m now homes start same unsent = grind (arith, unsent_self start, get_or)

pub vertices_to_more : (ports : ℕ) (m : State) (homes : List Home) (start : List Share) (n : ℕ) (now next : State) (shares new : List Share) (home : Home) (copies gone : List McCopy) →
    VerticesTo ports m homes start n now shares →
    slice_get homes (ports + n) ≡ Some home → copies ≡ get_or now.unsent n [] → SameButCopies now next → next.unsent ≡ set now.unsent n gone → PutsUnsent home.receiver n copies shares new →
    VerticesTo ports m homes start (n + 1) next new
vertices_to_more ports m homes start n now next shares new home copies gone so_far at read same unsent put =
    grind (arith, state_on m now next so_far.same same, unsent_on start shares new so_far.shares_same put.same, get_or, get_or-set_other, cases_eq, same_Some)

-- ---- a share that holds nothing

pub no_unsent : (runs : List ℕ) (queues vertices : ℕ) (shares : List Share) (s v : ℕ) → HoldNothing runs queues vertices shares → unsent_at shares s v ≡ []
no_unsent runs queues vertices shares s v nothing = by (slice_get shares s) refl
  where
    all_empty : (n v : ℕ) → get_or (replicate {A = List McCopy} n []) v [] ≡ []
    all_empty n v = grind (arith, cases_lt, get_or-replicate, get_or_past, length-replicate)

    by : (o : Option Share) → slice_get shares s ≡ o → unsent_at shares s v ≡ []
    by None at = ap (λ (x : Option Share). unsent_in x v) at
    by (Some k) at =
        let hand = All-at (λ (x : Share). IsEmptyHand queues vertices x.hold) shares s k nothing.hands at in
        ap (λ (x : Option Share). unsent_in x v) at ∙ (ap (λ l. get_or l v []) hand.unsent ∙ all_empty vertices v)

-- each share has a place for each queue
pub place_there : (m : State) (homes : List Home) (shares : List Share) (s q : ℕ) → FitHomes m homes shares → s < length shares → q < length homes → (e : End) × (end_at shares s q ≡ Some e)
place_there m homes shares s q fits below inside =
    let x = slice_get_there shares s below in
    let long : length x.0.hold.ends.items ≡ length homes = All-at (λ (k : Share). length k.hold.ends.items ≡ length homes) shares s x.0 fits.ends_long x.1 in
    let e = slice_get_there x.0.hold.ends.items q (omega (arith, inside, long)) in
    (e.0, ap (λ (o : Option Share). end_in o q) x.1 ∙ e.1)

-- the home of a vertex's queue
home_inside : (m : State) (homes : List Home) (shares : List Share) (ports v : ℕ) → FitHomes m homes shares → ports ≡ length m.inputs → v < length m.unsent → ports + v < length homes
home_inside m homes shares ports v fits is below = let long = fits.long in let vertices = fits.vertices in omega (arith, long, vertices, is, below)

pub vertex_home : (m : State) (homes : List Home) (shares : List Share) (ports v : ℕ) → FitHomes m homes shares → ports ≡ length m.inputs → v < length m.unsent →
    slice_get homes (length m.inputs + v) ≡ Some (get_or homes (ports + v) (record { sender = 0; receiver = 0 }))
vertex_home m homes shares ports v fits is below = grind (arith, slice_get-get_or, home_inside)

-- the share of its receiver is there, with a place for the vertex
pub vertex_there : (m : State) (homes : List Home) (start second now : List Share) (ports v : ℕ) → FitHomes m homes start → AreSameButEnds start second → AreSameButUnsent second now →
    ports ≡ length m.inputs → v < length m.unsent →
    (t : Share) × (slice_get now (get_or homes (ports + v) (record { sender = 0; receiver = 0 })).receiver ≡ Some t) × (v < length t.hold.unsent.items)
vertex_there m homes start second now ports v fits ends unsent is below =
    let k = (get_or homes (ports + v) (record { sender = 0; receiver = 0 })).receiver in
    let s = slice_get_there start k (fits.receivers (ports + v) (record { sender = 0; receiver = 0 }) (home_inside m homes start ports v fits is below)) in
    let x = slice_get_there second k (omega (arith, slice_get_within start k s.0 s.1, ends.0)) in
    let t = slice_get_there now k (omega (arith, slice_get_within second k x.0 x.1, unsent.0)) in
    let wide = (unsent.1 k x.0 t.0 x.1 t.1).unsent_long ∙ (ap (λ e. length e.items) (ends.1 k s.0 x.0 s.1 x.1).unsent
    ∙ All-at (λ (y : Share). length y.hold.unsent.items ≡ length m.unsent) start k s.0 fits.unsent_long s.1) in
    (t.0, t.1, omega (arith, below, wide))

-- where all but ends is the same, the same is unsent
ends_unsent : (a b : List Share) (s v : ℕ) → AreSameButEnds a b → unsent_at b s v ≡ unsent_at a s v
ends_unsent a b s v same = told_same (λ (o : Option Share). unsent_in o v) a b s same.0 (λ x y at also. ap (λ l. get_or l.items v []) (same.1 s x y at also).unsent)

-- a share with the same actors, logs and places
record Parts (s t : Share) : Type 0 where
  from : t.from ≡ s.from
  to : t.to ≡ s.to
  ends_long : length t.hold.ends.items ≡ length s.hold.ends.items
  unsent_long : length t.hold.unsent.items ≡ length s.hold.unsent.items
  dumps : t.hold.dumps ≡ s.hold.dumps
  deliveries : t.hold.deliveries ≡ s.hold.deliveries

parts_on : (x y z : Share) → Parts x y → Parts y z → Parts x z
parts_on x y z p q = grind arith

parts_of_ends : (s t : Share) → SameButEnds s t → Parts s t
parts_of_ends s t p = grind arith

parts_of_unsent : (s t : Share) → SameButUnsent s t → Parts s t
parts_of_unsent s t p = grind arith

parts_of_hold : (s t : Share) → SameHold s t → Parts s t
parts_of_hold s t p = grind arith

-- all that moved in
pub moved_in : (m mid left : State) (homes : List Home) (runs : List ℕ) (queues vertices n k : ℕ) (start second third after : List Share) → HoldNothing runs queues vertices start →
    FitHomes m homes start → length homes ≤ n → length m.unsent ≤ k →
    LanesTo m homes start n mid second → VerticesTo (length m.inputs) m homes second k left third → AreSameHolds third after → MovesIn m homes start left after
moved_in m mid left homes runs queues vertices n k start second third after nothing fits past past_k lanes unsent same = record {
  same = unsent.same;
  runs = each_weaker Parts SameRun (λ s t p. record { from = p.from; to = p.to; ends_long = p.ends_long; unsent_long = p.unsent_long }) start after all;
  no_logs = λ j d below. no_logs j (get_or after j d) (slice_get-get_or after j d below);
  lanes = record {
    lanes = λ q h at one.
        let was = lanes.lanes q h (omega (arith, slice_get_within homes q h at, past)) at one in
        (was.0, ends_still h.sender q ∙ was.1, was.2);
    away = λ q h s at below other.
        let inside = slice_get_within homes q h at in
        let long = same.0 in
        let long_b = unsent.shares_same.0 in
        let long_c = lanes.shares_same.0 in
        ends_still s q ∙ (lanes.others s q (λ g less at_g one here. not_there q h g s at at_g one here other) ∙ nothing_there s q (omega (arith, below, long, long_b, long_c)) inside);
  };
  vertices = record {
    here = λ v h at. unsent_still h.receiver v ∙ elim (cases_lt v k) [
      | inl less ↦ unsent.here v h less at
      | inr more ↦
          unsent.others h.receiver v (λ g less. absurd (omega (arith, less, more)))
          ∙ (unsent_before h.receiver v ∙ (no_unsent runs queues vertices start h.receiver v nothing ∙ sym (get_or_past m.unsent v [] (omega (arith, more, past_k)))))
    ];
    nowhere_else = λ v h s at differs.
        unsent_still s v ∙ (unsent.others s v (λ g less at_g here. differs (here ∙ ap (λ (x : Home). x.receiver) (same_Some g h (sym at_g ∙ at))))
        ∙ (unsent_before s v ∙ no_unsent runs queues vertices start s v nothing));
  };
}
  where
    all : AreEach Parts start after
    all = each_on Parts parts_on start second after (each_weaker SameButEnds Parts parts_of_ends start second lanes.shares_same) (each_on Parts parts_on second third after
        (each_weaker SameButUnsent Parts parts_of_unsent second third unsent.shares_same) (each_weaker SameHold Parts parts_of_hold third after same))

    no_logs : (j : ℕ) (t : Share) → slice_get after j ≡ Some t → (t.hold.dumps.items ≡ []) × (t.hold.deliveries.items ≡ [])
    no_logs j t also =
        let s = slice_get_there start j (omega (arith, slice_get_within after j t also, same.0, unsent.shares_same.0, lanes.shares_same.0)) in
        let hand = All-at (λ (x : Share). IsEmptyHand queues vertices x.hold) start j s.0 nothing.hands s.1 in
        let p = all.1 j s.0 t s.1 also in
        (ap (λ l. l.items) p.dumps ∙ hand.dumps, ap (λ l. l.items) p.deliveries ∙ hand.deliveries)

    ends_still : (s q : ℕ) → end_at after s q ≡ end_at second s q
    ends_still s q =
        told_same (λ (o : Option Share). end_in o q) third after s same.0 (λ x y at also. ap (λ h. slice_get h.ends.items q) (same.1 s x y at also).2)
        ∙ told_same (λ (o : Option Share). end_in o q) second third s unsent.shares_same.0 (λ x y at also. ap (λ e. slice_get e.items q) (unsent.shares_same.1 s x y at also).ends)

    unsent_still : (s v : ℕ) → unsent_at after s v ≡ unsent_at third s v
    unsent_still s v = told_same (λ (o : Option Share). unsent_in o v) third after s same.0 (λ x y at also. ap (λ h. get_or h.unsent.items v []) (same.1 s x y at also).2)

    unsent_before : (s v : ℕ) → unsent_at second s v ≡ unsent_at start s v
    unsent_before s v = ends_unsent start second s v lanes.shares_same

    not_there : (q : ℕ) (h g : Home) (s : ℕ) → slice_get homes q ≡ Some h → slice_get homes q ≡ Some g → g.sender ≡ g.receiver → s ≡ g.sender → (s ≢ h.sender) ⊎ (h.sender ≢ h.receiver) → ⊥
    not_there q h g s at at_g one here its_8 = grind (arith, same_Some)

    nothing_there : (s q : ℕ) → s < length start → q < length homes → end_at start s q ≡ Some Away
    nothing_there s q below inside =
        let e = place_there m homes start s q fits below inside in
        let x = stood (slice_get start s) q e.0 e.1 in
        let hand = All-at (λ (k : Share). IsEmptyHand queues vertices k.hold) start s x.0 nothing.hands x.1 in
        let none = subst (All (λ (y : End). y ≡ Away)) (sym hand.ends) (All-replicate (λ (y : End). y ≡ Away) queues Away refl) in
        e.1 ∙ ap Some (All-at (λ (y : End). y ≡ Away) x.0.hold.ends.items q e.0 none x.2)

-- ---- moving out

pub record OutTo (left : State) (homes : List Home) (start : List Share) (n : ℕ) (now : State) (shares : List Share) : Type 0 where
  pub same : SameButCopies left now
  pub unsent : now.unsent ≡ left.unsent
  pub lanes : (q : ℕ) (h : Home) (a : WithRoom McCopy) → q < n → slice_get homes q ≡ Some h → h.sender ≡ h.receiver → end_at start h.sender q ≡ Some (Own a) →
      get_or (now.inputs ++ now.cores) q [] ≡ a.items
  pub others : (q : ℕ) (h : Home) → slice_get homes q ≡ Some h → h.sender ≢ h.receiver → get_or (now.inputs ++ now.cores) q [] ≡ get_or (left.inputs ++ left.cores) q []
  pub ends : (s q : ℕ) → n ≤ q → end_at shares s q ≡ end_at start s q
  pub shares_same : AreSameButEnds start shares

pub out_none : (left : State) (homes : List Home) (start : List Share) → OutTo left homes start 0 left start
out_none left homes start = grind (arith, same_state left, same_self start)

-- a lane moves out
pub out_lane : (left : State) (homes : List Home) (start : List Share) (n : ℕ) (now next : State) (shares new : List Share) (home : Home) (end : End) (copies : List McCopy) →
    OutTo left homes start n now shares → slice_get homes n ≡ Some home →
    home.sender ≡ home.receiver → n < length (now.inputs ++ now.cores) → end_at shares home.sender n ≡ Some end → PutsEnd home.sender n Away shares new →
    ((a : WithRoom McCopy) → end ≡ Own a → copies ≡ a.items) → SetsQueue n copies now next → OutTo left homes start (n + 1) next new
out_lane left homes start n now next shares new home end copies so_far at together below stood put is sets = record {
  same = state_on left now next so_far.same sets.same;
  unsent = sets.unsent ∙ so_far.unsent;
  lanes = λ q h a less at_q one stands. ap (λ l. get_or l q []) sets.queues ∙ elim (cases_eq q n) [
    | inl here ↦
        let is_h : home ≡ h = same_Some home h (sym at ∙ (ap (slice_get homes) (sym here) ∙ at_q)) in
        let own : end ≡ Own a = same_Some end (Own a)
        (sym stood ∙ (so_far.ends home.sender n (omega arith) ∙ (ap (λ (x : Home). end_at start x.sender n) is_h ∙ (ap (end_at start h.sender) (sym here) ∙ stands)))) in
        ap (λ (j : ℕ). get_or (set (now.inputs ++ now.cores) n copies) j []) here ∙ (get_or-set_same (now.inputs ++ now.cores) n copies [] below ∙ is a own)
    | inr other ↦ get_or-set_other (now.inputs ++ now.cores) n q copies [] other ∙ so_far.lanes q h a (omega (arith, less, other)) at_q one stands
  ];
  others = λ q h at_q apart. elim (cases_eq q n) [
    | inl here ↦ absurd (apart (subst (λ (x : Home). x.sender ≡ x.receiver) (same_Some home h (sym at ∙ (ap (slice_get homes) (sym here) ∙ at_q))) together))
    | inr other ↦ ap (λ l. get_or l q []) sets.queues ∙ (get_or-set_other (now.inputs ++ now.cores) n q copies [] other ∙ so_far.others q h at_q apart)
  ];
  ends = λ s q from. put.others s q (λ same. omega (arith, same.1, from)) ∙ so_far.ends s q (omega (arith, from));
  shares_same = same_on start shares new so_far.shares_same put.same;
}

-- a queue stays, or moves out
pub out_more : (left : State) (homes : List Home) (start : List Share) (n : ℕ) (now next : State) (shares new : List Share) (home : Home) → OutTo left homes start n now shares →
    slice_get homes n ≡ Some home → n < length now.inputs + length now.cores → MayTakeLane home n now shares next new → OutTo left homes start (n + 1) next new
out_more left homes start n now next shares new home so_far at below (inl apart) = grind (arith, cases_eq, same_Some)
out_more left homes start n now next shares new home so_far at below (inr lane) = search (rules, length-append, out_lane)

pub record UnsentOutTo (ports : ℕ) (mid : State) (homes : List Home) (start : List Share) (n : ℕ) (now : State) (shares : List Share) : Type 0 where
  pub same : SameButCopies mid now
  pub inputs : now.inputs ≡ mid.inputs
  pub cores : now.cores ≡ mid.cores
  pub done : (v : ℕ) (h : Home) → v < n → slice_get homes (ports + v) ≡ Some h → get_or now.unsent v [] ≡ unsent_at start h.receiver v
  pub left : (s v : ℕ) → n ≤ v → unsent_at shares s v ≡ unsent_at start s v
  pub shares_same : AreSameButUnsent start shares

pub unsent_out_none : (ports : ℕ) (mid : State) (homes : List Home) (start : List Share) → UnsentOutTo ports mid homes start 0 mid start
unsent_out_none ports mid homes start = grind (arith, same_state mid, unsent_self start)

pub unsent_out_more : (ports : ℕ) (mid : State) (homes : List Home) (start : List Share) (n : ℕ) (now next : State) (shares new : List Share) (home : Home) (copies gone : List McCopy) →
    UnsentOutTo ports mid homes start n now shares →
    slice_get homes (ports + n) ≡ Some home → n < length now.unsent → copies ≡ unsent_at shares home.receiver n → PutsUnsent home.receiver n gone shares new → SameButCopies now next →
    next.inputs ≡ now.inputs → next.cores ≡ now.cores → next.unsent ≡ set now.unsent n copies → UnsentOutTo ports mid homes start (n + 1) next new
unsent_out_more ports mid homes start n now next shares new home copies gone so_far at below read put same inputs cores unsent =
    grind (arith, state_on mid now next so_far.same same, get_or-set_same now.unsent n copies, unsent_on start shares new so_far.shares_same put.same, cases_eq, same_Some, get_or, get_or-set_other)

pub moved_out : (left mid m : State) (homes : List Home) (n k : ℕ) (start second third : List Share) → FitHomes left homes start → length homes ≤ n → length left.unsent ≤ k →
    OutTo left homes start n mid second → UnsentOutTo (length left.inputs) mid homes second k m third → MovesOut homes start left m
moved_out left mid m homes n k start second third fits past past_k lanes unsent = record {
  same = state_on left mid m lanes.same unsent.same;
  lanes = λ queues q h held at one.
      let lane = held.lanes q h at one in
      queues_still q ∙ (lanes.lanes q h lane.0 (omega (arith, slice_get_within homes q h at, past)) at one lane.1 ∙ lane.2);
  others = λ q h at apart. queues_still q ∙ lanes.others q h at apart;
  vertices = λ sent long held.
      let m_long = unsent.same.unsent_long ∙ lanes.same.unsent_long in
      same_lists m.unsent sent (m_long ∙ sym long) (λ v d below.
      let h = slice_get_there homes (length left.inputs + v) (omega (arith, below, m_long, fits.long, fits.vertices)) in
      get_or_default m.unsent v d [] below ∙ (unsent.done v h.0 (omega (arith, below, m_long, past_k)) h.1
      ∙ (unsent_before h.0.receiver v ∙ (held.here v h.0 h.1 ∙ get_or_default sent v [] d (omega (arith, below, m_long, long))))));
}
  where
    queues_still : (q : ℕ) → get_or (m.inputs ++ m.cores) q [] ≡ get_or (mid.inputs ++ mid.cores) q []
    queues_still q = ap (λ l. get_or (l ++ m.cores) q []) unsent.inputs ∙ ap (λ l. get_or (mid.inputs ++ l) q []) unsent.cores

    unsent_before : (s v : ℕ) → unsent_at second s v ≡ unsent_at start s v
    unsent_before s v = ends_unsent start second s v lanes.shares_same

-- ---- shares of the runs so far

pub record NothingTo (runs : List ℕ) (queues vertices n from : ℕ) (shares : List Share) : Type 0 where
  pub long : length shares ≡ n
  pub next : from ≡ run_start runs n
  pub from_are : (k : ℕ) (s : Share) → slice_get shares k ≡ Some s → s.from ≡ run_start runs k
  pub to_are : (k : ℕ) (s : Share) → slice_get shares k ≡ Some s → s.to ≡ get_or runs k 0
  pub hands : All (λ s. IsEmptyHand queues vertices s.hold) shares

pub nothing_none : (runs : List ℕ) (queues vertices : ℕ) (shares : List Share) → shares ≡ [] → NothingTo runs queues vertices 0 0 shares
nothing_none runs queues vertices shares none = grind (arith, none-some, All-nil)

pub nothing_more : (runs : List ℕ) (queues vertices n from to : ℕ) (share : Share) (shares new : List Share) → NothingTo runs queues vertices n from shares → to ≡ get_or runs n 0 →
    share.from ≡ from → share.to ≡ to → IsEmptyHand queues vertices share.hold → new ≡ shares ++ share ∷ [] → NothingTo runs queues vertices (n + 1) to new
nothing_more runs queues vertices n from to share shares new so_far at from_is to_is empty is = record {
  long = ap length is ∙ (length_push shares share ∙ ap (λ k. k + 1) so_far.long);
  next = at ∙ sym (start_more runs n);
  from_are = pushed (λ k s. s.from ≡ run_start runs k) shares share new is so_far.from_are (from_is ∙ (so_far.next ∙ ap (run_start runs) (sym so_far.long)));
  to_are = pushed (λ k s. s.to ≡ get_or runs k 0) shares share new is so_far.to_are (to_is ∙ (at ∙ ap (λ (j : ℕ). get_or runs j 0) (sym so_far.long)));
  hands = subst (All (λ s. IsEmptyHand queues vertices s.hold)) (sym is) (All-push (λ s. IsEmptyHand queues vertices s.hold) shares share so_far.hands empty);
}

pub nothing_all : (runs : List ℕ) (queues vertices n from : ℕ) (shares : List Share) → NothingTo runs queues vertices n from shares → n ≡ length runs → HoldNothing runs queues vertices shares
nothing_all runs queues vertices n from shares so_far all = record { long = so_far.long ∙ all; from = so_far.from_are; to = so_far.to_are; hands = so_far.hands }
