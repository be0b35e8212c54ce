-- What a whole round makes of each queue: a lane goes on in its share, and a link rests with what is left of its queue.
use Rattle.mesh_run.proofs.Common.{All-append, Cut, End, FitsQueue, Home, InEnd, IsDown, IsUncut, IsUp, Link, LinkEnds, List, McCopy, Option, OutEnd, Own, QueueGoes, Sends, Share, Some, Takes}
use Rattle.mesh_run.proofs.Common.{WithRoom, [], ap, arith, cap_of, cases_eq, end_at, end_in, get_or, held_at, inl, inr, length, map, min, queue_of_link, refl, same_Some, slice_get, slice_get-mapped}
use Rattle.mesh_run.proofs.Common.{slice_get_there, slice_get_within, subst, sym, ℕ, ◌++◌, ◌+◌, ◌<◌, ◌∙◌, ◌≡◌, ◌≢◌, ◌≤◌}
use Rattle.mesh_run.proofs.{AfterDeal.homes_below, AfterDeal.links_many, AfterDeal.no_end_of_cut, Slots.same_mapped, CrossingLaws.told_same, Filling.few_entered, Passing.lane_queue}
use Rattle.mesh_run.proofs.{Passing.link_queue, PlanLaws.fits_at, Together.joined, Together.lane_passes, Together.sender_passes, Together.taker_passes, WholeRound.Whole, WholeRound.collected_same}
use Rattle.mesh_run.proofs.WholeRound.{dealt_long, dealt_same, parts, played_parts, uncut, whole_turns}

same_sends : (a b : OutEnd) → Some (Sends a) ≡ Some (Sends b) → a ≡ b
same_sends a b same = cc

same_takes : (a b : InEnd) → Some (Takes a) ≡ Some (Takes b) → a ≡ b
same_takes a b same = cc

module _ (w : Whole) where
  -- what holds of the queue at a place after a round, with what it holds then
  pub record AfterRound (q : ℕ) (after : List McCopy) : Type 0 where
    pub goes : QueueGoes w.m.setup.capacity w.patience (joined (parts w)) q (held_at w.m q) after
    pub lane : (h : Home) → slice_get w.r.layout.now.homes.items q ≡ Some h → h.sender ≡ h.receiver → (a : WithRoom McCopy) × (end_at w.cleared h.sender q ≡ Some (Own a)) × (a.items ≡ after)
    pub link : (l : ℕ) (c : Cut) → slice_get w.r.layout.now.cuts.items l ≡ Some c → c.queue ≡ q → get_or (map queue_of_link w.rests.now) l [] ≡ after

  pub home_below : (q : ℕ) (h : Home) → slice_get w.r.layout.now.homes.items q ≡ Some h → (h.sender < length w.dealt) × (h.receiver < length w.dealt)
  home_below q h at = grind (arith, homes_below w.roomy.raised q h at, dealt_long w)

  held_fits : (q : ℕ) → length (held_at w.m q) ≤ w.m.setup.capacity
  held_fits q = fits_at w.m.setup.capacity (w.m.inputs ++ w.m.cores) q (All-append (FitsQueue w.m.setup.capacity) w.m.inputs w.m.cores w.is_mesh.inputs_within w.is_mesh.cores_within)

  -- clearing of logs leaves all ends
  pub cleared_end : (s q : ℕ) (b : End) → end_at w.collected s q ≡ Some b → end_at w.cleared s q ≡ Some b
  cleared_end s q b at =
      told_same (λ (o : Option Share). end_in o q) w.collected w.cleared s w.clears.0 (λ x y before after. ap (λ e. slice_get e.items q) (w.clears.1 s x y before after).ends) ∙ at

  -- a queue that is a lane of one share
  lane_after : (q : ℕ) (h : Home) → slice_get w.r.layout.now.homes.items q ≡ Some h → h.sender ≡ h.receiver → (after : List McCopy) × AfterRound q after
  lane_after q h at same =
      let lanes = w.roomy.raised.lanes in
      let was = lanes.lanes q h at same in
      let dealt = dealt_same w q h at same h.sender ∙ was.1 in
      let p = lane_passes (played_parts w) h.sender q was.0 dealt in
      let now : end_at w.cleared h.sender q ≡ Some (Own p.lane) = cleared_end h.sender q (Own p.lane) (collected_same w q h at same h.sender ∙ p.stays) in (
        p.lane.items,
        record {
          goes = lane_queue (played_parts w) q h.sender was.0 (held_at w.m q) (home_below q h at).0 was.2 (held_fits q)
              (λ k below other. dealt_same w q h at same k ∙ lanes.away q h k at (omega (arith, below, dealt_long w)) (inl other)) p;
          lane = λ g stands one. (p.lane, subst (λ (x : Home). end_at w.cleared x.sender q ≡ Some (Own p.lane)) (same_Some h g (sym at ∙ stands)) now, refl);
          link = λ l c stands is. absurd (uncut w q h at same c.sender l c stands (sym is, inl refl));
        },
      )

  -- a queue that is a link between two shares
  module _ (l : ℕ) (c : Cut) (stands : slice_get w.r.layout.now.cuts.items l ≡ Some c) where
    home : Home
    home = record { sender = c.sender; receiver = c.receiver }

    between : slice_get w.r.layout.now.homes.items c.queue ≡ Some (record { sender = c.sender; receiver = c.receiver })
    between = (w.roomy.raised.laid.cuts.cut l c stands).0

    two : c.sender ≢ c.receiver
    two = (w.roomy.raised.laid.cuts.cut l c stands).1

    pub elsewhere : (k : ℕ) → k ≢ c.sender → k ≢ c.receiver → IsUncut w.r.layout.now.cuts.items k c.queue
    elsewhere = no_end_of_cut w.roomy.raised l c stands

    -- the link as it was dealt
    old : (e : LinkEnds) × (slice_get w.roomy.raised.ends l ≡ Some e) × IsUp w.m.setup.capacity (w.turns + 1) (held_at w.m c.queue) e
    old =
        let is = slice_get_there w.roomy.raised.ends l (omega (arith, slice_get_within w.r.layout.now.cuts.items l c stands, links_many w.roomy.raised)) in
        (is.0, is.1, w.roomy.raised.up.each l (held_at w.m c.queue) is.0 (slice_get-mapped (λ (d : Cut). held_at w.m d.queue) w.r.layout.now.cuts.items l c stands) is.1)

    -- the link as it was collected
    now : (e : LinkEnds) × (slice_get w.collects.ends l ≡ Some e) × (e.link ≡ old.0.link) × IsDown e (get_or (map queue_of_link w.rests.now) l [])
    now =
        let is = slice_get_there w.collects.ends l (omega (arith, slice_get_within w.roomy.raised.ends l old.0 old.1, w.collects.long)) in
        (is.0, is.1, same_mapped (λ (x : LinkEnds). x.link) w.collects.ends w.roomy.raised.ends l is.0 old.0 w.collects.links is.1 old.1, w.rests.down l is.0 [] is.1)

    pub link_after : AfterRound c.queue (get_or (map queue_of_link w.rests.now) l [])
    link_after =
        let cap = w.m.setup.capacity in
        let before = old.0 in
        let after = now.0 in
        let dealt = w.deals.dealt l c before stands old.1 in
        let collected = w.collects.collects.dealt l c after stands now.1 in
        let a : OutEnd = record { link = l; tx = before.tx } in
        let b : InEnd = record { link = l; rx = before.rx } in
        let sends = sender_passes (played_parts w) c.sender c.queue a dealt.0 in
        let takes = taker_passes (played_parts w) c.receiver c.queue b dealt.1 in
        let below = home_below c.queue (record { sender = c.sender; receiver = c.receiver }) between in
        let as_dealt = dealt_long w in
        record {
          goes = link_queue (played_parts w) c.queue c.sender c.receiver a b (held_at w.m c.queue) after
              (get_or (map queue_of_link w.rests.now) l []) w.turns (record {
                sender_in = below.0;
                receiver_in = below.1;
                two = two;
                others = λ k inside no_sender no_receiver. w.deals.others k c.queue (elsewhere k no_sender no_receiver)
                    ∙ w.roomy.raised.lanes.away c.queue (record { sender = c.sender; receiver = c.receiver }) k between (omega (arith, inside, as_dealt)) (inr two);
                sender_new = old.2.tx_new;
                receiver_new = old.2.rx_new;
                sends = sends;
                takes = takes;
                tx = ap (λ (x : OutEnd). x.tx) (same_sends sends.sender (record { link = l; tx = after.tx }) (sym sends.stays ∙ collected.0));
                rx = ap (λ (x : InEnd). x.rx) (same_takes takes.taker (record { link = l; rx = after.rx }) (sym takes.stays ∙ collected.1));
                down = now.3;
                fits = held_fits c.queue;
                few = subst (λ (x : Link). cap_of x ≤ cap) (sym now.2) old.2.holds.few;
                enough = subst (λ (x : Link). min cap (length (held_at w.m c.queue) + (w.turns + 1)) ≤ cap_of x) (sym now.2) old.2.holds.enough;
                filled = few_entered w.m.setup w.turns c.queue (joined (parts w)) (whole_turns w);
              });
          lane = λ h at same. absurd (two (both_ends h at same));
          link = λ j d at is. ap (λ i. get_or (map queue_of_link w.rests.now) i []) (w.roomy.raised.laid.cuts.apart j l d c at stands is);
        }
      where
        both_ends : (h : Home) → slice_get w.r.layout.now.homes.items c.queue ≡ Some h → h.sender ≡ h.receiver → c.sender ≡ c.receiver
        both_ends h at same = grind (arith, same_Some h (record { sender = c.sender; receiver = c.receiver }) (sym at ∙ between))

  -- any queue
  pub queue_after : (q : ℕ) → q < length w.r.layout.now.homes.items → (after : List McCopy) × AfterRound q after
  queue_after q below =
      let home = slice_get_there w.r.layout.now.homes.items q below in
      elim (cases_eq home.0.sender home.0.receiver) [
        | inl same ↦ lane_after q home.0 home.1 same
        | inr other ↦
            let cut = w.roomy.raised.laid.cuts.all_cut q home.0 home.1 other in (
              get_or (map queue_of_link w.rests.now) cut.0 [],
              subst (λ (n : ℕ). AfterRound n (get_or (map queue_of_link w.rests.now) cut.0 [])) cut.3 (link_after cut.0 cut.1 cut.2),
            )
      ]
