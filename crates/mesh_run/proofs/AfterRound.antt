-- What a whole round logged is what its items tell, and the mesh to which it leads is split as it was.
use Rattle.mesh_run.proofs.Common.{Bool, Goes, IsNoted, IsRaisedFrom, Item, List, MeshLogs, PlaysTo, RaisedMesh, Share, Vec, [], ap, ap₂, arith, deliveries, dumped_of, false, flat_map, get_or}
use Rattle.mesh_run.proofs.Common.{get_or_default, length, list_any, records, refl, slice_get-get_or, subst, sym, ℕ, ◌++◌, ◌<◌, ◌||◌, ◌∙◌, ◌≡◌}
use Rattle.mesh_run.proofs.{AfterLinks.whole_no_logs, AfterLinks.whole_up, GatheringLaws.Gathered, Going.each_two, AfterMesh.mesh, AfterMesh.whole_played, AfterRuns.whole_shared}
use Rattle.mesh_run.proofs.{AfterSplit.whole_lanes, AfterSplit.whole_unsent, Together.flat_map_joined, Together.joined, WholeRound.Whole, WholeRound.dealt_long, WholeRound.parts}
use Rattle.mesh_run.proofs.WholeRound.{played_parts, whole_noted}

-- a test that is the same at each place has the same answer
any_same : {X Y : Type 0} (f : X → Bool) (g : Y → Bool) (xs : List X) (ys : List Y) → length xs ≡ length ys →
    ((i : ℕ) (x : X) (y : Y) → i < length xs → f (get_or xs i x) ≡ g (get_or ys i y)) → list_any f xs ≡ list_any g ys
any_same f g xs ys long each =
    each_two (λ x y. f x ≡ g y) (λ xs ys. list_any f xs ≡ list_any g ys) refl (λ x y xs ys first rest. ap₂ (λ a b. a || b) first rest) xs ys long each

-- lists with the same at each place make the same list
flat_same : {X Z Y : Type 0} (f : X → List Y) (g : Z → List Y) (xs : List X) (zs : List Z) → length xs ≡ length zs →
    ((i : ℕ) (x : X) (z : Z) → i < length xs → f (get_or xs i x) ≡ g (get_or zs i z)) → flat_map f xs ≡ flat_map g zs
flat_same f g xs zs long each =
    each_two (λ x z. f x ≡ g z) (λ xs zs. flat_map f xs ≡ flat_map g zs) refl (λ x z xs zs first rest. ap₂ (λ a b. a ++ b) first rest) xs zs long each

-- what one share logged
share_logged : (cap patience : ℕ) (s d p c : Share) (items : List Item) → (d.hold.deliveries ≡ s.hold.deliveries) × (d.hold.dumps ≡ s.hold.dumps) →
    (s.hold.dumps.items ≡ []) × (s.hold.deliveries.items ≡ []) → Goes cap patience d.hold items p.hold →
    (c.hold.deliveries ≡ p.hold.deliveries) × (c.hold.dumps ≡ p.hold.dumps) → (c.hold.deliveries.items ≡ deliveries items) × (c.hold.dumps.items ≡ records items)
share_logged cap patience s d p c items first empty goes last = grind arith

module _ (w : Whole) where
  collected_long : length w.collected ≡ length w.dealt
  collected_long = w.collects.collects.same.0 ∙ w.played_long

  parts_many : length (parts w) ≡ length w.dealt
  parts_many = (played_parts w).parts_long

  logged : (i : ℕ) (x : Share) (z : List Item) → i < length w.collected →
      ((get_or w.collected i x).hold.deliveries.items ≡ deliveries (get_or (parts w) i z))
      × ((get_or w.collected i x).hold.dumps.items ≡ records (get_or (parts w) i z))
  logged i x z below =
      let as_dealt = dealt_long w in
      let as_collected = collected_long in
      let s = slice_get-get_or w.r.shares.items i x (omega (arith, below, as_collected, as_dealt)) in
      let d = slice_get-get_or w.dealt i x (omega (arith, below, as_collected)) in
      let p = slice_get-get_or w.played i x (omega (arith, below, as_collected, w.played_long)) in
      let first = w.deals.same.1 i (get_or w.r.shares.items i x) (get_or w.dealt i x) s d in
      let last = w.collects.collects.same.1 i (get_or w.played i x) (get_or w.collected i x) p (slice_get-get_or w.collected i x below) in
      let one = share_logged w.m.setup.capacity w.patience
      (get_or w.r.shares.items i x) (get_or w.dealt i x) (get_or w.played i x) (get_or w.collected i x) (get_or (parts w) i [])
      (first.deliveries, first.dumps) (w.roomy.raised.no_logs i x (omega (arith, below, as_collected, as_dealt)))
      ((played_parts w).goes i x (omega (arith, below, as_collected))) (last.deliveries, last.dumps) in
      let same : get_or (parts w) i [] ≡ get_or (parts w) i z = get_or_default (parts w) i [] z (omega (arith, below, as_collected, parts_many)) in
      (one.0 ∙ ap (λ (l : List Item). deliveries l) same, one.1 ∙ ap (λ (l : List Item). records l) same)

  -- what all shares logged
  pub whole_dumped : flat_map (λ (s : Share). s.hold.dumps.items) w.collected ≡ records (joined (parts w))
  whole_dumped = grind (arith, flat_map_joined dumped_of (parts w), parts w, parts_many, collected_long, flat_same, logged)

  -- whether a copy moved is noted after ends are collected as it was before
  moved_same : list_any (λ (s : Share). s.moved) w.played ≡ list_any (λ (s : Share). s.moved) w.collected
  moved_same = any_same (λ (s : Share). s.moved) (λ (s : Share). s.moved) w.played w.collected (sym w.collects.collects.same.0) (λ i x y below.
      let same = w.collects.collects.same in
      let p = slice_get-get_or w.played i x below in
      sym (same.1 i (get_or w.played i x) (get_or w.collected i y) p (slice_get-get_or w.collected i y (omega (arith, below, same.0)))).moved)

  -- the mesh after a round: its shares, its links and its logs are those that the round left, and the rest is as it was
  module _ (shares : Vec Share) (logs : MeshLogs) (left : shares.items ≡ w.cleared) where
    abbrev pub stands : RaisedMesh
    stands = record w.r { standing = w.standing; shares = shares; logs = logs }

    whole_raised : (moved : Bool) → Gathered w.collected w.cleared w.r.logs logs moved → IsRaisedFrom (mesh w) 0 stands
    whole_raised moved gathered =
        grind (arith, whole_played, whole_shared, mesh, whole_lanes, whole_unsent, whole_up, whole_no_logs, whole_dumped, flat_map_joined, parts, parts_many, collected_long, flat_same, logged)

    pub whole_plays : (moved : Bool) → Gathered w.collected w.cleared w.r.logs logs moved → PlaysTo w.patience w.turns w.m moved stands
    whole_plays moved gathered = record {
      mesh = mesh w;
      items = joined (parts w);
      raised = whole_raised moved gathered;
      played = whole_played w;
      noted = subst (λ (b : Bool). IsNoted false (joined (parts w)) b) (moved_same ∙ sym gathered.moved_are) (whole_noted w);
    }
