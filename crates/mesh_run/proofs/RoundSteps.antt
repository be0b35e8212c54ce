-- The steps of a round, each as far as what its call promises: ends dealt, turns played, ends collected, links at rest, logs gathered.
use Rattle.mesh_run.proofs.Common.{All, AreCuts, AreLaid, Bool, Cut, Deals, FitsLogs, HoldsAll, HoldsCollected, HoldsNoEnds, IsMesh, IsRoomyFrom, IsShareOf, Link, LinkEnds, List, MeshLogs}
use Rattle.mesh_run.proofs.Common.{PlaysAndStays, PlaysTo, RaisedMesh, RestAll, Rested, Setup, Share, Standing, State, Vec, WasUp, ap, arith, get_or, length, refl, subst, sym, ℕ, ◌+◌, ◌<◌, ◌∙◌, ◌≡◌}
use Rattle.mesh_run.proofs.{WholeRound.Whole, AfterDeal.cuts_apart, AfterDeal.dealt_shares, AfterDeal.links_many, AfterPlay.ends_laid, AfterPlay.links_were_up, AfterPlay.logs_fit}
use Rattle.mesh_run.proofs.{AfterRound.whole_plays, GatheringLaws.Gathered}

-- ends were dealt to the shares of a mesh with room for a round
pub record IsDealt (m : State) (r : RaisedMesh) (lent : Standing) (dealt : List Share) : Type 0 where
  pub is_mesh : IsMesh m
  pub roomy : IsRoomyFrom m (r.pace.turns + 1) r
  pub deals : Deals roomy.raised.ends r.layout.now.cuts.items r.shares.items dealt
  pub none_left : HoldsNoEnds roomy.raised.ends lent

-- each share plays the turns of a round, and is a share of the mesh afterwards
abbrev pub PlayAndStay : RaisedMesh → List Link → List Share → List Share → Type 0
PlayAndStay r links before after =
    (k : ℕ) (s : Share) → k < length before → PlaysAndStays r.parts.setup links r.pace.patience r.pace.turns (get_or before k s) (get_or after k s)

-- they played the turns of a round
pub record IsTurned (m : State) (r : RaisedMesh) (lent : Standing) (dealt played : List Share) : Type 0 where
  pub before : IsDealt m r lent dealt
  pub long : length played ≡ length dealt
  pub plays : (k : ℕ) (s : Share) → k < length dealt
      → PlaysAndStays m.setup lent.links.items r.pace.patience r.pace.turns (get_or dealt k s) (get_or played k s)

-- and the ends were collected
pub record IsCollected (m : State) (r : RaisedMesh) (lent : Standing) (dealt played : List Share) (brought : Standing) (collected : List Share) : Type 0 where
  pub turned : IsTurned m r lent dealt played
  pub collects : HoldsCollected turned.before.roomy.raised.ends r.layout.now.cuts.items played brought collected

module _ {m : State} {r : RaisedMesh} {lent : Standing} {dealt : List Share} where
  -- what dealing promises for any ends, for those of the mesh
  pub is_dealt : {cuts : List Cut} → IsMesh m → IsRoomyFrom m (r.pace.turns + 1) r → cuts ≡ r.layout.now.cuts.items →
      ((ends : List LinkEnds) → HoldsAll ends r.standing → Deals ends cuts r.shares.items dealt) →
      ((ends : List LinkEnds) → HoldsAll ends r.standing → HoldsNoEnds ends lent) → IsDealt m r lent dealt
  is_dealt is_mesh roomy same deals none = record {
    is_mesh = is_mesh;
    roomy = roomy;
    deals = subst (λ (l : List Cut). Deals roomy.raised.ends l r.shares.items dealt) same (deals roomy.raised.ends roomy.raised.holds);
    none_left = none roomy.raised.ends roomy.raised.holds;
  }

  -- all are shares of the mesh
  pub shares_of_mesh : IsDealt m r lent dealt → All (IsShareOf r.parts.setup lent.links.items) dealt
  shares_of_mesh d = grind (arith, dealt_shares d.roomy.raised d.deals d.none_left.links)

  module _ {played : List Share} where
    -- what the turns of all shares promise
    pub is_turned : IsDealt m r lent dealt → length played ≡ length dealt → PlayAndStay r lent.links.items dealt played → IsTurned m r lent dealt played
    is_turned d long plays = grind (arith, get_or)

    -- each end of a link is where its cut says
    pub cuts_laid : IsTurned m r lent dealt played → AreLaid lent.links.items played r.layout.now.cuts.items
    cuts_laid t = grind (arith, ends_laid (t.before).roomy.raised (t.before).deals (t.before).none_left.links played t.long t.plays)

    -- so the cuts lie between the shares that played
    pub still_cuts : IsTurned m r lent dealt played → AreCuts r.layout.now.cuts.items played
    still_cuts t =
        let laid = cuts_laid t in
        let apart = cuts_apart t.before.roomy.raised in
        record {
          two = apart.two;
          senders = λ l c at. (_, (laid l c at).sends);
          receivers = λ l c at. (_, (laid l c at).takes);
          apart = apart.apart;
          few = apart.few;
        }

    -- no end stands with the links
    abbrev pub no_ends : IsTurned m r lent dealt played → (ends : List LinkEnds) × HoldsNoEnds ends lent × (length ends ≡ length r.layout.now.cuts.items)
    no_ends t =
        let d = t.before in
        (d.roomy.raised.ends, d.none_left, links_many d.roomy.raised)

    module _ {brought : Standing} {collected : List Share} where
      -- what collecting promises for any ends, for those of the mesh
      pub is_collected : {cuts : List Cut} → IsTurned m r lent dealt played → cuts ≡ r.layout.now.cuts.items →
          ((ends : List LinkEnds) → HoldsNoEnds ends lent → length ends ≡ length cuts → HoldsCollected ends cuts played brought collected) →
          IsCollected m r lent dealt played brought collected
      is_collected t same collects =
          let none = no_ends t in
          record {
            turned = t;
            collects = subst (λ (l : List Cut). HoldsCollected none.0 l played brought collected) same
                (collects none.0 none.1 (none.2 ∙ ap length (sym same)));
          }

      -- the links can rest
      pub can_rest : IsCollected m r lent dealt played brought collected → (ends : List LinkEnds) × HoldsAll ends brought × All (WasUp r.parts.setup.capacity) ends
      can_rest h =
          let t = h.turned in
          let d = t.before in
          let up = links_were_up d.roomy.raised d.deals d.none_left.links played t.long t.plays brought collected h.collects in
          (h.collects.ends, h.collects.holds, subst (λ (u : Setup). All (WasUp u.capacity) h.collects.ends) (sym d.roomy.raised.setup) up)

      -- there is room for what was logged
      pub room_for_logs : IsCollected m r lent dealt played brought collected → FitsLogs collected r.logs
      room_for_logs h =
          let t = h.turned in
          let d = t.before in
          logs_fit d.roomy.raised d.deals d.none_left.links played t.long t.plays brought collected r.logs h.collects d.roomy.room

      -- The whole round, with links at rest and logs gathered.
      pub round_plays : {rested : Rested} (standing : Standing) (shares : Vec Share) (logs : MeshLogs) (moved : Bool) →
          IsCollected m r lent dealt played brought collected →
          ((ends : List LinkEnds) → HoldsAll ends brought → RestAll r.parts.setup.capacity ends standing rested) → Gathered collected shares.items r.logs logs moved →
          PlaysTo r.pace.patience r.pace.turns m moved (record r { standing = standing; shares = shares; logs = logs })
      round_plays {rested} standing shares logs moved h rests gathered =
          let t = h.turned in
          let d = t.before in
          let w : Whole = record {
            m = m;
            is_mesh = d.is_mesh;
            patience = r.pace.patience;
            turns = r.pace.turns;
            r = r;
            roomy = d.roomy;
            dealt = dealt;
            deals = d.deals;
            played = played;
            played_long = t.long;
            plays = λ k s below. (t.plays k s below).0;
            brought = brought;
            collected = collected;
            collects = h.collects;
            standing = standing;
            rested = rested;
            rests = subst (λ (u : Setup). RestAll u.capacity h.collects.ends standing rested) d.roomy.raised.setup (rests h.collects.ends h.collects.holds);
            cleared = shares.items;
            clears = gathered.cleared;
          } in
          whole_plays w shares logs refl moved gathered
