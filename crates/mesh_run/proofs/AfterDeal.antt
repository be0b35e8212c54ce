-- The shares of a split mesh, with the ends of the links between them dealt: each share holds what its actors need.
use Rattle.mesh_run.proofs.Common.{All, AreCuts, AreShareRuns, Away, Cut, Deals, End, HoldsSender, Home, IsEndOf, IsInRun, IsRaisedFrom, IsShareOf, IsUncut, Link, LinkEnds, List, McCopy, Option, Own}
use Rattle.mesh_run.proofs.Common.{RaisedMesh, Sends, Setup, Share, Some, State, Takes, WasUp, WithRoom, [], ap, arith, bank_place, cases_eq, chip_of, cut_queues, end_at, end_in, get_or}
use Rattle.mesh_run.proofs.Common.{get_or_from_slice_get, grid_size, injection_place, inl, inr, length, length-map, live_inside, map, one_item_at, refl, router_place, run_start, same_Some, slice_get}
use Rattle.mesh_run.proofs.Common.{slice_get-get_or, slice_get-mapped, slice_get_there, slice_get_within, slice_index_or, subst, suc, sym, zero, ℕ, ◌*◌, ◌++◌, ◌<◌, ◌∙◌, ◌≡◌, ◌≢◌, ◌≤◌}
use Rattle.mesh_run.proofs.{Apart.leads_bit, Apart.place_below, FloorLaws.live_below}

-- no run ends past the last place
run_within : (count : ℕ) (ends : List ℕ) (k : ℕ) → AreShareRuns count ends → k < length ends → slice_index_or ends k 0 ≤ count
run_within count ends k runs below = by_last (length ends) refl below
  where
    by_last : (n : ℕ) → length ends ≡ n → k < n → slice_index_or ends k 0 ≤ count
    by_last zero long low = absurd (omega (arith, low))
    by_last (suc n) long low =
        let last = runs.last n (omega (arith, long)) in
        elim (cases_eq k n) [
          | inl same ↦ let is = ap (λ j. slice_index_or ends j 0) same in omega (arith, is, last)
          | inr other ↦ let less = runs.rising k n (omega (arith, low, other)) (omega (arith, long)) in omega (arith, less, last)
        ]

-- where the sender and the receiver of a cut stand
abbrev home_of : Cut → Home
home_of c = record { sender = c.sender; receiver = c.receiver }

-- What the share of a number holds of a queue, once ends are dealt: the queue, an end of a link, or nothing.
data Holds (ends : List LinkEnds) (dealt : List Share) (k q sender : ℕ) : Type 0 where
  lane : (a : WithRoom McCopy) → end_at dealt k q ≡ Some (Own a) → Holds ends dealt k q sender
  sends : (l : ℕ) (e : LinkEnds) → slice_get ends l ≡ Some e → end_at dealt k q ≡ Some (Sends (record { link = l; tx = e.tx })) →
      Holds ends dealt k q sender
  takes : k ≢ sender → (l : ℕ) (e : LinkEnds) → slice_get ends l ≡ Some e → end_at dealt k q ≡ Some (Takes (record { link = l; rx = e.rx })) →
      Holds ends dealt k q sender
  none : k ≢ sender → end_at dealt k q ≡ Some Away → Holds ends dealt k q sender

-- an end that stands in a share, seen in the share
in_share : (dealt : List Share) (k q : ℕ) (s : Share) (e : End) → slice_get dealt k ≡ Some s → end_at dealt k q ≡ Some e →
    slice_get s.hold.ends.items q ≡ Some e
in_share dealt k q s e at stands = ap (λ (x : Option Share). end_in x q) (sym at) ∙ stands

-- the sender of a queue holds an end by which it sends
by_sender : (ends : List LinkEnds) (dealt : List Share) (k q sender : ℕ) (s : Share) → slice_get dealt k ≡ Some s → k ≡ sender →
    Holds ends dealt k q sender → HoldsSender s.hold.ends.items q
by_sender ends dealt k q sender s at same (lane a stands) = record { end = Own a; stands = in_share dealt k q s (Own a) at stands; sends = tt }
by_sender ends dealt k q sender s at same (sends l e of stands) = grind (arith, in_share dealt k q s (Sends (record { link = l; tx = e.tx })) at stands)
by_sender ends dealt k q sender s at same (takes other l e of stands) = absurd (other same)
by_sender ends dealt k q sender s at same (none other stands) = absurd (other same)

module _ {m : State} {more : ℕ} {r : RaisedMesh} (raised : IsRaisedFrom m more r) where
  abbrev u : Setup
  u = m.setup

  -- the homes of a queue are shares that are there
  pub homes_below : (q : ℕ) (h : Home) → slice_get r.layout.now.homes.items q ≡ Some h → (h.sender < length r.shares.items) × (h.receiver < length r.shares.items)
  homes_below q h at =
      let below = raised.laid.homes.below q h (length r.layout.now.runs.items) at raised.laid.numbers.below in
      let many = raised.shared.long in
      (omega (arith, below.0, many), omega (arith, below.1, many))

  -- where a cut has neither its sender nor its receiver, no end of a link of its queue is held
  pub no_end_of_cut : (l : ℕ) (c : Cut) → slice_get r.layout.now.cuts.items l ≡ Some c → (k : ℕ) → k ≢ c.sender → k ≢ c.receiver → IsUncut r.layout.now.cuts.items k c.queue
  no_end_of_cut l c at k no_sender no_receiver j d also of = grind (arith, one_item_at)

  -- no cut is of a queue that has both homes in one share
  pub lane_uncut : (q : ℕ) (h : Home) → slice_get r.layout.now.homes.items q ≡ Some h → h.sender ≡ h.receiver → (s : ℕ) → IsUncut r.layout.now.cuts.items s q
  lane_uncut q h at same s l c stands of = grind (arith, same_Some)

  -- the cuts are of different queues, each between two shares that are there
  pub cuts_apart : AreCuts r.layout.now.cuts.items r.shares.items
  cuts_apart = record {
    two = λ l c at. (raised.laid.cuts.cut l c at).1;
    senders = λ l c at. let cut = raised.laid.cuts.cut l c at in
        (Away, raised.lanes.away c.queue (home_of c) c.sender cut.0 (homes_below c.queue (home_of c) cut.0).0 (inr cut.1));
    receivers = λ l c at. let cut = raised.laid.cuts.cut l c at in
        (Away, raised.lanes.away c.queue (home_of c) c.receiver cut.0 (homes_below c.queue (home_of c) cut.0).1 (inr cut.1));
    apart = raised.laid.cuts.apart;
    few = raised.laid.cuts.few;
  }

  -- each cut has a link
  pub links_many : length raised.ends ≡ length r.layout.now.cuts.items
  links_many = raised.up.long ∙ length-map r.layout.now.cuts.items (λ (c : Cut). slice_index_or (m.inputs ++ m.cores) c.queue [])

  -- a link that is up, at its place
  pub link_up_at : (l : ℕ) (e : LinkEnds) → slice_get raised.ends l ≡ Some e → WasUp u.capacity e
  link_up_at l e at =
      let queues : List (List McCopy) = cut_queues (m.inputs ++ m.cores) r.layout.now.cuts.items in
      let q = slice_get_there queues l (omega (arith, slice_get_within raised.ends l e at, raised.up.long)) in
      let up = raised.up.each l q.0 e q.1 at in
      record { ends = up.ends; few = up.holds.few }

  module _ {dealt : List Share} (deals : Deals raised.ends r.layout.now.cuts.items r.shares.items dealt) where
    many_dealt : length dealt ≡ length r.shares.items
    many_dealt = deals.same.0

    -- a queue between two shares
    of_cut : (l : ℕ) (c : Cut) (k : ℕ) → slice_get r.layout.now.cuts.items l ≡ Some c → k < length r.shares.items → Holds raised.ends dealt k c.queue c.sender
    of_cut l c k at below =
        let cut = raised.laid.cuts.cut l c at in
        let e = slice_get_there raised.ends l (omega (arith, slice_get_within r.layout.now.cuts.items l c at, links_many)) in
        let is = deals.dealt l c e.0 at e.1 in
        elim (cases_eq k c.sender) [
          | inl same ↦ sends l e.0 e.1 (ap (λ n. end_at dealt n c.queue) same ∙ is.0)
          | inr no_sender ↦ elim (cases_eq k c.receiver) [
            | inl same ↦ takes no_sender l e.0 e.1 (ap (λ n. end_at dealt n c.queue) same ∙ is.1)
            | inr no_receiver ↦ none no_sender (deals.others k c.queue (no_end_of_cut l c at k no_sender no_receiver)
                ∙ raised.lanes.away c.queue (home_of c) k cut.0 below (inr cut.1))
          ]
        ]

    -- a queue that has both homes in one share
    of_lane : (q : ℕ) (h : Home) (k : ℕ) → slice_get r.layout.now.homes.items q ≡ Some h → h.sender ≡ h.receiver → k < length r.shares.items →
        Holds raised.ends dealt k q h.sender
    of_lane q h k at same below = elim (cases_eq k h.sender) [
      | inl here ↦
          let own = raised.lanes.lanes q h at same in
          lane own.0 (ap (λ n. end_at dealt n q) here ∙ (deals.others h.sender q (lane_uncut q h at same h.sender) ∙ own.1))
      | inr other ↦ none other (deals.others k q (lane_uncut q h at same k) ∙ raised.lanes.away q h k at below (inl other))
    ]

    -- any queue
    of_queue : (q : ℕ) (h : Home) (k : ℕ) → slice_get r.layout.now.homes.items q ≡ Some h → k < length r.shares.items → Holds raised.ends dealt k q h.sender
    of_queue q h k at below = elim (cases_eq h.sender h.receiver) [
      | inl same ↦ of_lane q h k at same below
      | inr two ↦
          let cut = raised.laid.cuts.all_cut q h at two in
          let c = cut.1 in
          let is = (raised.laid.cuts.cut cut.0 c cut.2).0 in
          let home : home_of c ≡ h = same_Some (home_of c) h (sym is ∙ (ap (slice_get r.layout.now.homes.items) cut.3 ∙ at)) in
          subst (λ n. Holds raised.ends dealt k n h.sender) cut.3
          (subst (λ (x : Home). Holds raised.ends dealt k c.queue x.sender) home (of_cut cut.0 c k cut.2 below))
    ]

    module _ {links : List Link} (same_links : map (λ (e : LinkEnds). e.link) raised.ends ≡ links) where
      pub link_at : (l : ℕ) (e : LinkEnds) → slice_get raised.ends l ≡ Some e → slice_get links l ≡ Some e.link
      link_at l e at = ap (λ (x : List Link). slice_get x l) (sym same_links) ∙ slice_get-mapped (λ (x : LinkEnds). x.link) raised.ends l e at

      -- each end is one of the link at its place
      is_end : (k q sender : ℕ) → Holds raised.ends dealt k q sender → (e : End) × (end_at dealt k q ≡ Some e) × IsEndOf links e
      is_end k q sender (lane a stands) = (Own a, stands, tt)
      is_end k q sender (sends l e of stands) =
          (Sends (record { link = l; tx = e.tx }), stands, record { of = e.link; stands = link_at l e of; is_end = (link_up_at l e of).ends.tx })
      is_end k q sender (takes other l e of stands) =
          (Takes (record { link = l; rx = e.rx }), stands, record { of = e.link; stands = link_at l e of; is_end = (link_up_at l e of).ends.rx })
      is_end k q sender (none other stands) = (Away, stands, tt)

      module _ (k : ℕ) (t : Share) (at : slice_get dealt k ≡ Some t) where
        below_dealt : k < length r.shares.items
        below_dealt = let inside = slice_get_within dealt k t at in let many = many_dealt in omega (arith, inside, many)

        was : (s : Share) × (slice_get r.shares.items k ≡ Some s)
        was = slice_get_there r.shares.items k below_dealt

        has_run : k < length r.layout.now.runs.items
        has_run = let below = below_dealt in let many = raised.shared.long in omega (arith, below, many)

        run_from : t.from ≡ run_start r.layout.now.runs.items k
        run_from = (deals.same.1 k was.0 t was.1 at).from ∙ raised.shared.from k was.0 was.1

        run_to : t.to ≡ slice_index_or r.layout.now.runs.items k 0
        run_to = (deals.same.1 k was.0 t was.1 at).to ∙ raised.shared.to k was.0 was.1

        -- its actors have its number
        numbered : (a : ℕ) → IsInRun t.from t.to a → slice_get raised.laid.table a ≡ Some k
        numbered a in_run = grind (arith, has_run, run_from, run_to)

        ends_many : length t.hold.ends.items ≡ length r.layout.now.homes.items
        ends_many = (deals.same.1 k was.0 t was.1 at).ends_long ∙ (raised.shared.ends_long k was.0 was.1 ∙ sym raised.laid.homes.long)

        sender_of : (q : ℕ) (h : Home) → slice_get r.layout.now.homes.items q ≡ Some h → h.sender ≡ k → HoldsSender t.hold.ends.items q
        sender_of q h home is = by_sender raised.ends dealt k q h.sender t at (sym is) (of_queue q h k home below_dealt)

        pub dealt_share : IsShareOf u links t
        dealt_share = record {
          ends_long = ends_many ∙ raised.laid.homes.long;
          unsent_long = ap (λ v. length v.items) (deals.same.1 k was.0 t was.1 at).unsent ∙ raised.shared.unsent_long k was.0 was.1;
          within = let to = run_to in let most = run_within (2 * grid_size u) r.layout.now.runs.items k raised.laid.runs has_run in omega (arith, to, most);
          routers = λ i o q live in_run behind.
              let inside = live_inside u.machine (chip_of u.machine i) live.live in
              let place = place_below u (chip_of u.machine i) o q inside behind in
              let h = slice_get_there r.layout.now.homes.items q (omega (arith, place, raised.laid.homes.long)) in
              sender_of q h.0 h.1 (raised.laid.homes.routers i o q k h.0 live (leads_bit u (chip_of u.machine i) o q inside behind) behind (numbered (router_place i) in_run) h.1);
          banks = λ i live in_run.
              let h = slice_get_there r.layout.now.homes.items (injection_place i) (omega (arith, live_below u i live, raised.laid.homes.long)) in
              sender_of (injection_place i) h.0 h.1 (raised.laid.homes.banks i k h.0 live (numbered (bank_place i) in_run) h.1);
          ends = λ q d inside.
              let h = slice_get_there r.layout.now.homes.items q (omega (arith, inside, ends_many)) in
              let e = is_end k q h.0.sender (of_queue q h.0 k h.1 below_dealt) in
              subst (IsEndOf links) (sym (get_or_from_slice_get t.hold.ends.items q e.0 d (in_share dealt k q t e.0 at e.1))) e.2;
        }

      -- all shares are shares of the mesh
      pub dealt_shares : All (IsShareOf u links) dealt
      dealt_shares = λ k d below. dealt_share k (get_or dealt k d) (slice_get-get_or dealt k d below)
