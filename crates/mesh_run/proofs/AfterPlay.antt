-- The shares after the turns of a round: the ends that they hold can be collected, and there is room for what they logged.
use Rattle.mesh_run.proofs.Common.{All, All-at, AreLaid, Deals, End, FitsLogs, Goes, HasRoomForLogs, HoldsCollected, InEnd, IsEndOf, IsRaisedFrom, IsRx, IsTx, Item, Link, LinkEnds, List, MeshLogs}
use Rattle.mesh_run.proofs.Common.{OutEnd, PlaysAndStays, RaisedMesh, Sends, Share, Some, Standing, State, Takes, WasUp, [], ap, arith, cap_of, end_at, get_or, get_or_default, get_or_from_slice_get}
use Rattle.mesh_run.proofs.Common.{length, map, same_Some, slice_get, slice_get-get_or, slice_get_there, slice_get_within, subst, sum_by, sum_by-cons, sym, ℕ, ◌<◌, ◌∙◌, ◌≡◌, ◌≤◌}
use Rattle.mesh_run.proofs.{AfterDeal.link_at, AfterDeal.link_up_at, AfterDeal.links_many, CrossingLaws.stood, Going.each_two, Slots.same_mapped, Together.PlayedParts, Together.listed}
use Rattle.mesh_run.proofs.Together.{sender_passes, taker_passes}

-- a sum of terms each of which is at most another one is at most the sum of these
sum_within : {X Y : Type 0} (f : X → ℕ) (g : Y → ℕ) (xs : List X) (ys : List Y) → length xs ≡ length ys →
    ((i : ℕ) (x : X) (y : Y) → i < length xs → f (get_or xs i x) ≤ g (get_or ys i y)) → sum_by f xs ≤ sum_by g ys
sum_within {X} {Y} f g xs ys long each =
    each_two (λ x y. f x ≤ g y) (λ xs ys. sum_by f xs ≤ sum_by g ys) (omega arith) (λ x y xs ys first rest. omega (arith, first, rest, sum_by-cons f x xs, sum_by-cons g y ys)) xs ys long each

-- an end with the link of its place
out_is : (a : OutEnd) (l : ℕ) → a.link ≡ l → Some (Sends a) ≡ Some (Sends (record { link = l; tx = a.tx }))
out_is a l same = ap (λ n. Some (Sends (record { link = n; tx = a.tx }))) same

in_is : (a : InEnd) (l : ℕ) → a.link ≡ l → Some (Takes a) ≡ Some (Takes (record { link = l; rx = a.rx }))
in_is a l same = ap (λ n. Some (Takes (record { link = n; rx = a.rx }))) same

-- an end that stands in a share of a mesh is one of the link at its place
end_of : (shares : List Share) (links : List Link) (k q : ℕ) (e : End) → ((s : Share) → slice_get shares k ≡ Some s → All (IsEndOf links) s.hold.ends.items) →
    end_at shares k q ≡ Some e → IsEndOf links e
end_of shares links k q e all at =
    let s = stood (slice_get shares k) q e at in
    All-at (IsEndOf links) s.0.hold.ends.items q e (all s.0 s.1) s.2

module _ {m : State} {more : ℕ} {r : RaisedMesh} (raised : IsRaisedFrom m more r) {dealt : List Share} (deals : Deals raised.ends r.layout.now.cuts.items r.shares.items dealt)
    {links : List Link} (same_links : map (λ (e : LinkEnds). e.link) raised.ends ≡ links) {patience turns : ℕ} (played : List Share) (long : length played ≡ length dealt)
    (plays : (k : ℕ) (s : Share) → k < length dealt → PlaysAndStays m.setup links patience turns (get_or dealt k s) (get_or played k s)) where
  -- what one share did
  abbrev Did : ℕ → List Item → Type 0
  Did k items = (s : Share) → Goes m.setup.capacity patience (get_or dealt k s).hold items (get_or played k s).hold

  -- what each share did
  some_parts : (parts : List (List Item)) × (length parts ≡ length dealt) × ((k : ℕ) (d : List Item) → k < length dealt → Did k (get_or parts k d))
  some_parts = listed (length dealt) Did one
    where
      one : (k : ℕ) → k < length dealt → (items : List Item) × Did k items
      one k below =
          let s = slice_get_there dealt k below in
          let did = (plays k s.0 below).0 in
          let before : (d : Share) → get_or dealt k s.0 ≡ get_or dealt k d = λ d. get_or_default dealt k s.0 d below in
          let after : (d : Share) → get_or played k s.0 ≡ get_or played k d = λ d. get_or_default played k s.0 d (omega (arith, long, below)) in (
            did.items,
            λ d.
                subst (λ (x : Share). Goes m.setup.capacity patience x.hold did.items (get_or played k d).hold) (before d)
                (subst (λ (x : Share). Goes m.setup.capacity patience (get_or dealt k s.0).hold did.items x.hold) (after d) did.plays.goes),
          )

  some_played : PlayedParts m.setup.capacity patience dealt played some_parts.0
  some_played = record { long = long; parts_long = some_parts.1; goes = λ k s below. some_parts.2 k [] below s }

  -- both ends of each link are where its cut says
  pub ends_laid : AreLaid links played r.layout.now.cuts.items
  ends_laid = λ l c at.
      let e = slice_get_there raised.ends l (omega (arith, slice_get_within r.layout.now.cuts.items l c at, links_many raised)) in
      let is = deals.dealt l c e.0 at e.1 in
      let sends = sender_passes some_played c.sender c.queue (record { link = l; tx = e.0.tx }) is.0 in
      let takes = taker_passes some_played c.receiver c.queue (record { link = l; rx = e.0.rx }) is.1 in
      record {
        tx = sends.sender.tx;
        rx = takes.taker.rx;
        sends = sends.stays ∙ out_is sends.sender l sends.goes.link;
        takes = takes.stays ∙ in_is takes.taker l takes.goes.link;
      }

  -- the ends that a played share holds are ends of the links at their places
  played_ends : (k : ℕ) (t : Share) → slice_get played k ≡ Some t → All (IsEndOf links) t.hold.ends.items
  played_ends k t at = grind (arith, slice_get_within played k t at, get_or_from_slice_get played k t t at)

  -- the links that were collected can rest
  pub links_were_up : (brought : Standing) (collected : List Share) (collects : HoldsCollected raised.ends r.layout.now.cuts.items played brought collected) →
      All (WasUp m.setup.capacity) collects.ends
  links_were_up brought collected collects = λ l d below.
      let e = get_or collects.ends l d in
      let at = slice_get-get_or collects.ends l d below in
      let as_long = collects.long in
      let old = slice_get_there raised.ends l (omega (arith, below, as_long)) in
      let c = slice_get_there r.layout.now.cuts.items l (omega (arith, below, as_long, links_many raised)) in
      let is = collects.collects.dealt l c.0 e c.1 at in
      let up = link_up_at raised l old.0 old.1 in
      let link = same_mapped (λ (x : LinkEnds). x.link) collects.ends raised.ends l e old.0 collects.links at old.1 in
      let room = same_mapped (λ (x : LinkEnds). x.room) collects.ends raised.ends l e old.0 collects.rooms at old.1 in
      let here : slice_get links l ≡ Some e.link = link_at raised deals same_links l old.0 old.1 ∙ ap Some (sym link) in
      let sends = end_of played links c.0.sender c.0.queue (Sends (record { link = l; tx = e.tx })) (played_ends c.0.sender) is.0 in
      let takes = end_of played links c.0.receiver c.0.queue (Takes (record { link = l; rx = e.rx })) (played_ends c.0.receiver) is.1 in
      record {
        ends = record {
          tx = subst (λ (x : Link). IsTx x e.tx) (same_Some sends.of e.link (sym sends.stands ∙ here)) sends.is_end;
          rx = subst (λ (x : Link). IsRx x e.rx) (same_Some takes.of e.link (sym takes.stands ∙ here)) takes.is_end;
          empty = ap (λ x. x.items) room ∙ up.ends.empty;
          spare = spare_on old.0 e link room up.ends.spare;
        };
        few = subst (λ (x : Link). cap_of x ≤ m.setup.capacity) (sym link) up.few;
      }
    where
      spare_on : (old e : LinkEnds) → e.link ≡ old.link → e.room ≡ old.room → cap_of old.link ≤ old.room.spare → cap_of e.link ≤ e.room.spare
      spare_on old e link room spare =
          let has = ap (λ x. x.spare) room in
          omega (arith, ap cap_of link, has, spare)

  -- there is room for what the shares logged
  pub logs_fit : (brought : Standing) (collected : List Share) (logs : MeshLogs) (collects : HoldsCollected raised.ends r.layout.now.cuts.items played brought collected) →
      HasRoomForLogs r.shares.items logs → FitsLogs collected logs
  logs_fit brought collected logs collects room =
      let deliveries = sum_within (λ (s : Share). length s.hold.deliveries.items) (λ (s : Share). s.hold.deliveries.spare) collected r.shares.items all_long
      (λ i x y below. (within i x y below).0) in
      let dumps = sum_within (λ (s : Share). length s.hold.dumps.items) (λ (s : Share). s.hold.dumps.spare) collected r.shares.items all_long
      (λ i x y below. (within i x y below).1) in
      record { delivered = omega (arith, deliveries, room.delivered); dumped = omega (arith, dumps, room.dumped) }
    where
      all_long : length collected ≡ length r.shares.items
      all_long = collects.collects.same.0 ∙ (long ∙ deals.same.0)

      share_within : (s d p c : Share) (items : List Item) → (d.hold.deliveries ≡ s.hold.deliveries) × (d.hold.dumps ≡ s.hold.dumps) →
          (s.hold.dumps.items ≡ []) × (s.hold.deliveries.items ≡ []) → Goes m.setup.capacity patience d.hold items p.hold →
          (c.hold.deliveries ≡ p.hold.deliveries) × (c.hold.dumps ≡ p.hold.dumps) →
          (length c.hold.deliveries.items ≤ s.hold.deliveries.spare) × (length c.hold.dumps.items ≤ s.hold.dumps.spare)
      share_within s d p c items first empty goes last =
          let a = ap (λ v. v.spare) first.0 in
          let b = ap (λ v. v.spare) first.1 in
          let e = ap (λ v. length v.items) first.0 ∙ ap length empty.1 in
          let f = ap (λ v. length v.items) first.1 ∙ ap length empty.0 in
          let g = ap (λ v. length v.items) last.0 in
          let h = ap (λ v. length v.items) last.1 in
          (omega (arith, goes.deliveries_room, a, e, g), omega (arith, goes.dumps_room, b, f, h))

      within : (i : ℕ) (x y : Share) → i < length collected →
          (length (get_or collected i x).hold.deliveries.items ≤ (get_or r.shares.items i y).hold.deliveries.spare)
          × (length (get_or collected i x).hold.dumps.items ≤ (get_or r.shares.items i y).hold.dumps.spare)
      within i x y below =
          let as_collected = collects.collects.same.0 in
          let as_dealt = deals.same.0 in
          let s = slice_get-get_or r.shares.items i y (omega (arith, below, as_collected, long, as_dealt)) in
          let d = slice_get-get_or dealt i x (omega (arith, below, as_collected, long)) in
          let p = slice_get-get_or played i x (omega (arith, below, as_collected)) in
          let first = deals.same.1 i (get_or r.shares.items i y) (get_or dealt i x) s d in
          let last = collects.collects.same.1 i (get_or played i x) (get_or collected i x) p (slice_get-get_or collected i x below) in
          share_within (get_or r.shares.items i y) (get_or dealt i x) (get_or played i x) (get_or collected i x) (get_or some_parts.0 i [])
          (first.deliveries, first.dumps) (raised.no_logs i y (omega (arith, below, as_collected, long, as_dealt)))
          (some_parts.2 i [] (omega (arith, below, as_collected, long)) x) (last.deliveries, last.dumps)
