-- The ledger of copies is kept by every bag of moves, of which an event is one move.
use Rattle.mesh_core.proofs.Common.{All, All-contains, Among, AreNetsOn, AreRight, Bool, Contains, Exit, HaveDisjointBlocks, IsKeyOf, IsMesh, IsRoutingTree, IsWayOn, Label, List, Mark, MeetsLedger}
use Rattle.mesh_core.proofs.Common.{NetPlan, RoutesByTree, Setup, Spot, State, Station, [], among_contains, and_parts, ap, arith, cases_order, contains_among, count_by, count_by-cons, count_by-none}
use Rattle.mesh_core.proofs.Common.{count_put_in, count_taken_out, eqb-true, false, get_or_default, if◌then◌else◌, inl, inr, is_on_trail, is_packet_on_trail, last_hop, length, marks_of, on_trail}
use Rattle.mesh_core.proofs.Common.{refl, slice_get_within, subst, suc, sym, true, zero, ℕ, ◌+◌, ◌<◌, ◌==◌, ◌∙◌, ◌∷◌, ◌≡◌, ◌≤◌, ◌⊎◌}
use Rattle.mesh_core.proofs.{Counting.counts_one, Counting.count_some, Counting.counted, Counting.count_agree, Moves.Exchange, Moves.IsMove, MarkTests.mark_eq, MarkTests.mark_eq_same}
use Rattle.mesh_core.proofs.{MarkTests.mark_eq_true, MarkTests.rank, MarkTests.move_raises, Ways.Stands, Ways.short_branch, Ways.OnSomeTrail, Law.move_comes, Law.move_counts, Law.comes_parts}
use Rattle.mesh_core.proofs.Law.{leaves_parts}

-- ---- the net of a key

-- the net in whose block a key is, is one
pub one_net : (nets : List NetPlan) → HaveDisjointBlocks nets → (a b : NetPlan) → Contains nets a → Contains nets b → (key : ℕ) →
    IsKeyOf a.block key → IsKeyOf b.block key → a ≡ b
one_net nets disjoint a b in_a in_b key key_a key_b = grind (arith, cases_order in_a.0 in_b.0, get_or_default nets in_b.0 a b in_b.1)
  where
    never : (x y : NetPlan) (in_x : Contains nets x) (in_y : Contains nets y) → in_x.0 < in_y.0 → IsKeyOf x.block key → IsKeyOf y.block key → ⊥
    never x y in_x in_y before key_x key_y = grind (arith, get_or_default nets in_y.0 x y in_y.1)

-- ---- counts of one packet

-- marks that are all of one packet, counted by packet and trail
count_of_packet : (n m from to : ℕ) (branch : List Exit) (come : List Mark) → ((y : Mark) → Among y come → y.copy.packet ≡ m) →
    (same : Bool) → (m == n) ≡ same → (leaves : Mark) → leaves.copy.packet ≡ m →
    (same ≡ true → count_by (is_on_trail from to branch) come ≡ (if is_on_trail from to branch leaves then 1 else 0)) →
    count_by (is_packet_on_trail n from to branch) come ≡ (if is_packet_on_trail n from to branch leaves then 1 else 0)
count_of_packet n m from to branch come of_m true is leaves leaves_m counts = grind (arith, count_agree)
count_of_packet n m from to branch come of_m false is leaves leaves_m counts = grind (arith, count_by-none come, count_agree)

-- ---- bags of moves

-- a move that was made
pub record Moved (s : State) : Type 0 where
  pub leaves : Mark
  pub come : List Mark
  pub is_move : IsMove s leaves come
  pub small : leaves.copy.hop ≤ last_hop

-- how many of the marks that left pass a test, and of those that came
abbrev pub count_left : {s : State} → (Mark → Bool) → List (Moved s) → ℕ
count_left p [] = 0
count_left p (v ∷ moves) = (if p v.leaves then 1 else 0) + count_left p moves

abbrev pub count_come : {s : State} → (Mark → Bool) → List (Moved s) → ℕ
count_come p [] = 0
count_come p (v ∷ moves) = count_by p v.come + count_come p moves

-- A bag of moves leads from one mesh to another where, of every kind of marks, those afterwards and those that left are
-- as many as those before and those that came. No order of the moves is asked.
pub record Bag (s t : State) : Type 0 where
  pub moves : List (Moved s)
  pub balance : (p : Mark → Bool) → count_by p (marks_of t) + count_left p moves ≡ count_by p (marks_of s) + count_come p moves
  pub setup : t.setup ≡ s.setup

-- An event is a bag of one move.
pub bag_of_event : (s t : State) (e : Exchange s t) → e.leaves.copy.hop ≤ last_hop → Bag s t
bag_of_event s t e small = record {
  moves = record { leaves = e.leaves; come = e.come; is_move = e.move; small = small } ∷ [];
  balance = λ p.
      let before = count_taken_out p e.leaves (marks_of s) e.rest e.out in
      let after = count_put_in p e.come e.rest (marks_of t) e.put in
      omega arith;
  setup = e.setup;
}

-- ---- counts and members

among_of_count_by : (x y : Mark) (xs : List Mark) (b : Bool) → mark_eq x y ≡ b → (1 ≤ count_by (mark_eq x) xs → Among x xs) →
    1 ≤ (if b then 1 else 0) + count_by (mark_eq x) xs → Among x (y ∷ xs)
among_of_count_by x y xs b its_4 later some = grind (arith, mark_eq_true)

among_of_count : (x : Mark) (xs : List Mark) → 1 ≤ count_by (mark_eq x) xs → Among x xs
among_of_count x [] some = absurd (omega arith)
among_of_count x (y ∷ xs) some =
    among_of_count_by x y xs (mark_eq x y) refl (among_of_count x xs) (subst (λ n. 1 ≤ n) (count_by-cons (mark_eq x) y xs) some)

-- ---- the law

module _ (s t : State) (nets : List NetPlan) (labels : ℕ → Label)
    (mesh : IsMesh s) (right : AreRight s.setup.machine s.setup.tables nets) (ledger : MeetsLedger s nets labels) where
  -- a net of the list stands on the mesh
  pub stands : (net : NetPlan) → Contains nets net → Stands s net
  stands net has = record {
    mesh = mesh;
    tree = All-contains (λ n. IsRoutingTree s.setup.machine n.tree.root n.tree.edges n.targets) nets net ledger.nets_stand.trees has;
    root = All-contains (λ n. n.tree.root ≡ n.source.chip) nets net ledger.nets_stand.roots has;
    source = All-contains (λ n. Contains s.setup.spots n.source) nets net ledger.nets_stand.sources has;
    targets = All-contains (λ n. All (Contains s.setup.spots) n.targets) nets net ledger.nets_stand.targets has;
    right = All-contains (RoutesByTree s.setup.machine s.setup.tables) nets net right has;
  }

  -- What the ledger asks of one mark, and that its packet had a mark before.
  pub record IsRight (k : Mark) : Type 0 where
    pub key : k.copy.key ≡ (labels k.copy.packet).key
    pub payload : k.copy.payload ≡ (labels k.copy.packet).payload
    pub net : NetPlan
    pub in_nets : Contains nets net
    pub is_key : IsKeyOf net.block k.copy.key
    pub trail : OnSomeTrail s net k
    pub origin : Mark
    pub was_there : Contains (marks_of s) origin
    pub same_packet : origin.copy.packet ≡ k.copy.packet

  pub right_before : (k : Mark) → Contains (marks_of s) k → IsRight k
  right_before k has =
      let label = ledger.labelled k has in
      let on = ledger.on_a_trail k has in
      record {
        key = label.0;
        payload = label.1;
        net = on.0;
        in_nets = on.1;
        is_key = on.2;
        trail = record { target = on.3.0; branch = on.3.1; from = on.3.2; to = on.3.3; way = on.3.4; on = on.3.5 };
        origin = k;
        was_there = has;
        same_packet = refl;
      }

  -- what the ledger asks of a mark it asks of those that come of it by a move
  pub right_come : (x : Mark) → IsRight x → (come : List Mark) → IsMove s x come → (y : Mark) → Among y come → IsRight y
  right_come x r come move y a =
      let comes = move_comes s r.net (stands r.net r.in_nets) r.trail.target r.trail.branch r.trail.from r.trail.to r.trail.way x come move r.is_key r.trail.on y a in
      record {
        key = comes.key ∙ (r.key ∙ ap (λ n. (labels n).key) (sym comes.packet));
        payload = comes.payload ∙ (r.payload ∙ ap (λ n. (labels n).payload) (sym comes.packet));
        net = r.net;
        in_nets = r.in_nets;
        is_key = subst (λ n. IsKeyOf r.net.block n) (sym comes.key) r.is_key;
        trail = comes.trail;
        origin = r.origin;
        was_there = r.was_there;
        same_packet = r.same_packet ∙ sym comes.packet;
      }

  -- a mark on a trail has a small hop number
  pub right_small : (k : Mark) → IsRight k → k.copy.hop ≤ last_hop
  right_small k r =
      let w = r.trail in
      let short : length w.branch ≤ 4096 = short_branch s r.net (stands r.net r.in_nets) w.target w.branch w.way.is_branch in
      let hop : k.copy.hop ≤ length w.branch = hop_on_trail w.from w.to w.branch k.copy.hop k.station w.on in
      omega arith
    where
      hop_on_trail : (from to : ℕ) (branch : List Exit) (hop : ℕ) (at : Station) → on_trail from to branch hop at ≡ true → hop ≤ length branch
      hop_on_trail from to branch hop at on = grind (arith, eqb-true, and_parts, comes_parts, slice_get_within, leaves_parts)

  module _ (bag : Bag s t) where
    -- a mark that was there, or came
    abbrev Occurs : Mark → Type 0
    Occurs k = Among k (marks_of s) ⊎ ((v : Moved s) × Among v bag.moves × Among k v.come)

    left_counts : (p : Mark → Bool) (v : Moved s) (moves : List (Moved s)) → Among v moves → p v.leaves ≡ true → 1 ≤ count_left p moves
    left_counts p v [] a passes = absurd a
    left_counts p v (w ∷ moves) (inl here) passes = grind (arith, counts_one)
    left_counts p v (w ∷ moves) (inr later) passes = let rest = left_counts p v moves later passes in omega arith

    come_counts : (k : Mark) (moves : List (Moved s)) → 1 ≤ count_come (mark_eq k) moves → (v : Moved s) × Among v moves × Among k v.come
    come_counts k [] some = absurd (omega arith)
    come_counts k (w ∷ moves) some = elim (cases_order (count_by (mark_eq k) w.come) 0) [
      | inl none ↦ let rest = come_counts k moves (omega arith) in (rest.0, inr rest.1, rest.2)
      | inr (inl below) ↦ absurd (omega arith)
      | inr (inr more) ↦ (w, inl refl, among_of_count k w.come (omega arith))
    ]

    leaves_occurs : (v : Moved s) → Among v bag.moves → Occurs v.leaves
    leaves_occurs v a = grind (arith, left_counts, mark_eq, mark_eq_same, cases_order, count_by, come_counts, among_of_count)

    now_occurs : (k : Mark) → Among k (marks_of t) → Occurs k
    now_occurs k a = grind (arith, count_some, mark_eq, mark_eq_same, cases_order, count_by, come_counts, among_of_count)

    -- every mark that was there or came is right: by induction on how far it is on
    right_below : (n : ℕ) (k : Mark) → rank k < n → Occurs k → IsRight k
    right_below zero k far o = absurd (omega arith)
    right_below (suc n) k far (inl was) = right_before k (among_contains k (marks_of s) was)
    right_below (suc n) k far (inr came) =
        let v : Moved s = came.0 in
        let further = move_raises s v.leaves v.come v.small v.is_move k came.2 in
        right_come v.leaves (right_below n v.leaves (omega arith) (leaves_occurs v came.1)) v.come v.is_move k came.2

    all_right : (k : Mark) → Occurs k → IsRight k
    all_right k o = right_below (rank k + 1) k (omega arith) o

    -- one move keeps the count of a packet on a trail
    one_move : (n : ℕ) (net : NetPlan) → Contains nets net → IsKeyOf net.block (labels n).key →
        (target : Spot) (branch : List Exit) (from to : ℕ) → IsWayOn s.setup.machine s.setup.spots net target branch from to → (v : Moved s) → Among v bag.moves →
        count_by (is_packet_on_trail n from to branch) v.come ≡ (if is_packet_on_trail n from to branch v.leaves then 1 else 0)
    one_move n net has key target branch from to w v a = grind (arith, count_of_packet n v.leaves.copy.packet from to branch v.come packets (v.leaves.copy.packet == n) refl v.leaves refl counted)
      where
        r : IsRight v.leaves
        r = all_right v.leaves (leaves_occurs v a)

        packets : (y : Mark) → Among y v.come → y.copy.packet ≡ v.leaves.copy.packet
        packets y b =
            (move_comes s r.net (stands r.net r.in_nets) r.trail.target r.trail.branch r.trail.from r.trail.to r.trail.way v.leaves v.come v.is_move r.is_key r.trail.on y b).packet

        counted : (v.leaves.copy.packet == n) ≡ true →
            count_by (is_on_trail from to branch) v.come ≡ (if is_on_trail from to branch v.leaves then 1 else 0)
        counted same =
            let number : v.leaves.copy.packet ≡ n = eqb-true v.leaves.copy.packet n same in
            let its_key : v.leaves.copy.key ≡ (labels n).key = r.key ∙ ap (λ i. (labels i).key) number in
            let one : r.net ≡ net =
            one_net nets ledger.nets_stand.disjoint r.net net r.in_nets has v.leaves.copy.key r.is_key (subst (λ i. IsKeyOf net.block i) (sym its_key) key) in
            move_counts s r.net (stands r.net r.in_nets) r.trail.target target r.trail.branch branch r.trail.from from r.trail.to to r.trail.way
            (subst (λ (m : NetPlan). IsWayOn s.setup.machine s.setup.spots m target branch from to) (sym one) w) v.leaves v.come v.is_move r.is_key r.trail.on

    all_moves : (n : ℕ) (net : NetPlan) → Contains nets net → IsKeyOf net.block (labels n).key →
        (target : Spot) (branch : List Exit) (from to : ℕ) → IsWayOn s.setup.machine s.setup.spots net target branch from to →
        (moves : List (Moved s)) → ((v : Moved s) → Among v moves → Among v bag.moves) →
        count_come (is_packet_on_trail n from to branch) moves ≡ count_left (is_packet_on_trail n from to branch) moves
    all_moves n net has key target branch from to w [] within = refl
    all_moves n net has key target branch from to w (v ∷ moves) within =
        let first = one_move n net has key target branch from to w v (within v (inl refl)) in
        let rest = all_moves n net has key target branch from to w moves (λ u a. within u (inr a)) in
        omega arith

    -- The ledger is kept by a bag of moves.
    pub bag_keeps_ledger : MeetsLedger t nets labels
    bag_keeps_ledger = record {
      nets_stand = subst (λ (u : Setup). AreNetsOn u.machine u.spots nets) (sym bag.setup) ledger.nets_stand;
      labelled = λ k has. let r = now_right k has in (r.key, r.payload);
      on_a_trail = λ k has.
          let r = now_right k has in (
            r.net,
            r.in_nets,
            r.is_key,
            (
              r.trail.target,
              r.trail.branch,
              r.trail.from,
              r.trail.to,
              subst (λ (u : Setup). IsWayOn u.machine u.spots r.net r.trail.target r.trail.branch r.trail.from r.trail.to) (sym bag.setup) r.trail.way,
              r.trail.on,
            ),
          );
      once_on_each = once_now;
    }
      where
        now_right : (k : Mark) → Contains (marks_of t) k → IsRight k
        now_right k has = all_right k (now_occurs k (contains_among k (marks_of t) has))

        once_now : (k : Mark) → Contains (marks_of t) k → (net : NetPlan) → Contains nets net → IsKeyOf net.block k.copy.key →
            (target : Spot) (branch : List Exit) (from to : ℕ) → IsWayOn t.setup.machine t.setup.spots net target branch from to →
            count_by (is_packet_on_trail k.copy.packet from to branch) (marks_of t) ≡ 1
        once_now k has net in_list key target branch from to w =
            let r = now_right k has in
            let n : ℕ = k.copy.packet in
            let p : Mark → Bool = is_packet_on_trail n from to branch in
            let w_s : IsWayOn s.setup.machine s.setup.spots net target branch from to = subst (λ (u : Setup). IsWayOn u.machine u.spots net target branch from to) bag.setup w in
            let label_key : IsKeyOf net.block (labels n).key = subst (λ i. IsKeyOf net.block i) r.key key in
            let moved = all_moves n net in_list label_key target branch from to w_s bag.moves (λ v a. a) in
            let old = right_before r.origin r.was_there in
            let origin_key : IsKeyOf net.block r.origin.copy.key =
            subst (λ i. IsKeyOf net.block i) (sym (old.key ∙ ap (λ i. (labels i).key) r.same_packet)) label_key in
            let before : count_by p (marks_of s) ≡ 1 =
            ap (λ i. count_by (is_packet_on_trail i from to branch) (marks_of s)) (sym r.same_packet)
            ∙ ledger.once_on_each r.origin r.was_there net in_list origin_key target branch from to w_s in
            omega arith

    -- A packet that has a mark had one before.
    pub bag_adds_no_packet : (k : Mark) → Contains (marks_of t) k → (m : Mark) × Contains (marks_of s) m × (m.copy.packet ≡ k.copy.packet)
    bag_adds_no_packet k has = let r = all_right k (now_occurs k (contains_among k (marks_of t) has)) in (r.origin, r.was_there, r.same_packet)

    -- A packet that had a mark has one afterwards: its marks on a trail stay as many.
    pub bag_keeps_packets : (k : Mark) → Contains (marks_of s) k → (m : Mark) × Contains (marks_of t) m × (m.copy.packet ≡ k.copy.packet)
    bag_keeps_packets k has =
        let r = right_before k has in
        let n : ℕ = k.copy.packet in
        let p : Mark → Bool = is_packet_on_trail n r.trail.from r.trail.to r.trail.branch in
        let label_key : IsKeyOf r.net.block (labels n).key = subst (λ i. IsKeyOf r.net.block i) r.key r.is_key in
        let moved = all_moves n r.net r.in_nets label_key r.trail.target r.trail.branch r.trail.from r.trail.to r.trail.way bag.moves (λ v a. a) in
        let before = ledger.once_on_each k has r.net r.in_nets r.is_key r.trail.target r.trail.branch r.trail.from r.trail.to r.trail.way in
        let found = counted p (marks_of t) (omega arith) in (
          found.0,
          among_contains found.0 (marks_of t) found.1,
          eqb-true found.0.copy.packet n ((and_parts (found.0.copy.packet == n) (is_on_trail r.trail.from r.trail.to r.trail.branch found.0) found.2).0),
        )
