-- A whole round of all shares: the ends of links dealt, turns played, ends collected, links at rest and logs gathered.
use Rattle.mesh_run.proofs.Common.{AreEmptied, AreOf, AreTurns, Deals, HoldsCollected, Home, IsMesh, IsNoted, IsRoomyFrom, IsUncut, Item, List, PlaysRound, RaisedMesh, RestAll, Rested, Setup, Share}
use Rattle.mesh_run.proofs.Common.{SharePlays, Some, Standing, State, arith, end_at, false, get_or, get_or_default, length, list_any, run_start, slice_get, slice_get-get_or, slice_get_there}
use Rattle.mesh_run.proofs.Common.{slice_index_or, subst, ℕ, ◌*◌, ◌+◌, ◌<◌, ◌∙◌, ◌≡◌}
use Rattle.mesh_run.proofs.{AfterDeal.lane_uncut, Together.PlayedParts, Together.joined, Together.listed, Together.noted_joined, Together.turns_joined}

-- a round, with all that its calls promise
pub record Whole : Type 0 where
  pub m : State
  pub is_mesh : IsMesh m
  pub patience : ℕ
  pub turns : ℕ
  pub r : RaisedMesh
  pub roomy : IsRoomyFrom m (turns + 1) r
  pub dealt : List Share
  pub deals : Deals roomy.raised.ends r.layout.now.cuts.items r.shares.items dealt
  pub played : List Share
  pub played_long : length played ≡ length dealt
  pub plays : (k : ℕ) (s : Share) → k < length dealt → PlaysRound m.setup patience turns (get_or dealt k s) (get_or played k s)
  pub brought : Standing
  pub collected : List Share
  pub collects : HoldsCollected roomy.raised.ends r.layout.now.cuts.items played brought collected
  pub standing : Standing
  pub rested : Rested
  pub rests : RestAll m.setup.capacity collects.ends standing rested
  pub cleared : List Share
  pub clears : AreEmptied collected cleared

module _ (w : Whole) where
  abbrev u : Setup
  u = w.m.setup

  -- what one share did
  pub record Part (k : ℕ) (items : List Item) : Type 0 where
    pub plays : (s : Share) → SharePlays u w.patience w.turns (get_or w.dealt k s) items (get_or w.played k s)
    pub noted : (s : Share) → IsNoted false items (get_or w.played k s).moved

  part_at : (k : ℕ) → k < length w.dealt → (items : List Item) × Part k items
  part_at k below = grind (arith, slice_get_there w.dealt k below, get_or w.dealt k ((slice_get_there w.dealt k below).0), get_or_default)

  -- what all shares did
  pub all_parts : (parts : List (List Item)) × (length parts ≡ length w.dealt) × ((k : ℕ) (d : List Item) → k < length w.dealt → Part k (get_or parts k d))
  all_parts = listed (length w.dealt) Part part_at

  abbrev pub parts : List (List Item)
  parts = all_parts.0

  pub played_parts : PlayedParts u.capacity w.patience w.dealt w.played parts
  played_parts = grind arith

  pub dealt_long : length w.dealt ≡ length w.r.shares.items
  dealt_long = w.deals.same.0

  -- the turns of all shares are turns of a round
  pub whole_turns : AreTurns u w.turns (joined parts)
  whole_turns =
      let shared = w.roomy.raised.shared in
      let listed_long = all_parts.1 in
      turns_joined u w.turns (2 * (u.machine.width * u.machine.height)) w.r.layout.now.runs.items parts w.roomy.raised.laid.runs (omega (arith, shared.long, dealt_long, listed_long))
      (λ k d below. ((all_parts.2 k d (omega (arith, below, listed_long))).plays (first_share k (omega (arith, below, listed_long)))).turns_are)
      (λ k d below. own k d (omega (arith, below, listed_long)))
    where
      first_share : (k : ℕ) → k < length w.dealt → Share
      first_share k below = (slice_get_there w.dealt k below).0

      own : (k : ℕ) (d : List Item) → k < length w.dealt → AreOf (run_start w.r.layout.now.runs.items k) (slice_index_or w.r.layout.now.runs.items k 0) (get_or parts k d)
      own k d below =
          let was = slice_get_there w.r.shares.items k (let as_dealt = dealt_long in omega (arith, as_dealt, below)) in
          let s = first_share k below in
          let same = w.deals.same.1 k was.0 (get_or w.dealt k s) was.1 (slice_get-get_or w.dealt k s below) in
          let mine = ((all_parts.2 k d below).plays s).own in
          subst (λ n. AreOf n (slice_index_or w.r.layout.now.runs.items k 0) (get_or parts k d)) (same.from ∙ w.roomy.raised.shared.from k was.0 was.1)
          (subst (λ n. AreOf (get_or w.dealt k s).from n (get_or parts k d)) (same.to ∙ w.roomy.raised.shared.to k was.0 was.1) mine)

  -- whether a copy moved is noted
  pub whole_noted : IsNoted false (joined parts) (list_any (λ s. s.moved) w.played)
  whole_noted = grind (arith, noted_joined)

  -- ---- a queue that is a lane of one share

  module _ (q : ℕ) (h : Home) (at : slice_get w.r.layout.now.homes.items q ≡ Some h) (same : h.sender ≡ h.receiver) where
    pub uncut : (s : ℕ) → IsUncut w.r.layout.now.cuts.items s q
    uncut = lane_uncut w.roomy.raised q h at same

    pub dealt_same : (s : ℕ) → end_at w.dealt s q ≡ end_at w.r.shares.items s q
    dealt_same s = w.deals.others s q (uncut s)

    pub collected_same : (s : ℕ) → end_at w.collected s q ≡ end_at w.played s q
    collected_same s = w.collects.collects.others s q (uncut s)
