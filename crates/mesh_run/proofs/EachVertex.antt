-- What a whole round makes of what is unsent: what a vertex sent was unsent before, where its queue is received.
use Rattle.mesh_run.proofs.Common.{Home, List, McCopy, Option, Share, Some, [], ap, arith, both_none, get_or, length, same_Some, sent_by, sent_in, slice_get, slice_get-get_or, slice_get_there}
use Rattle.mesh_run.proofs.Common.{slice_index_or, sym, unsent_at, unsent_in, vertex_place, ℕ, ◌++◌, ◌<◌, ◌∙◌, ◌≡◌, ◌≢◌}
use Rattle.mesh_run.proofs.{CrossingLaws.told_same, EachQueue.home_below, Together.joined, Together.told_by_one, WholeRound.Whole, WholeRound.dealt_long, WholeRound.parts, WholeRound.played_parts}

module _ (w : Whole) where
  abbrev at_vertex : ℕ → Option Share → List McCopy
  at_vertex v o = unsent_in o v

  dealt_unsent : (k v : ℕ) → unsent_at w.dealt k v ≡ unsent_at w.r.shares.items k v
  dealt_unsent k v = told_same (at_vertex v) w.r.shares.items w.dealt k (dealt_long w) (λ s t at there. ap (λ l. slice_index_or l.items v []) (w.deals.same.1 k s t at there).unsent)

  -- the lists after the round are those that the turns left
  cleared_unsent : (k v : ℕ) → unsent_at w.cleared k v ≡ unsent_at w.played k v
  cleared_unsent k v =
      told_same (at_vertex v) w.collected w.cleared k w.clears.0 (λ s t at there. ap (λ l. slice_index_or l.items v []) (w.clears.1 k s t at there).unsent)
      ∙ told_same (at_vertex v) w.played w.collected k w.collects.collects.same.0 (λ s t at there. ap (λ l. slice_index_or l.items v []) (w.collects.collects.same.1 k s t at there).unsent)

  played_unsent : (k v : ℕ) → k < length w.dealt → unsent_at w.r.shares.items k v ≡ sent_by v (get_or (parts w) k []) ++ unsent_at w.cleared k v
  played_unsent k v below =
      let s = slice_get_there w.dealt k below in
      let goes = (played_parts w).goes k s.0 below in
      let there = slice_get-get_or w.played k s.0 (let long = w.played_long in omega (arith, long, below)) in
      sym (dealt_unsent k v) ∙ (ap (λ (x : Option Share). unsent_in x v) (slice_get-get_or w.dealt k s.0 below) ∙ (goes.unsent v
      ∙ ap (λ (l : List McCopy). sent_by v (get_or (parts w) k []) ++ l) (ap (λ (x : Option Share). unsent_in x v) (sym there) ∙ sym (cleared_unsent k v))))

  -- where nothing is unsent, nothing is sent
  none_unsent : (k v : ℕ) → k < length w.dealt → unsent_at w.r.shares.items k v ≡ [] → (sent_by v (get_or (parts w) k []) ≡ []) × (unsent_at w.cleared k v ≡ [])
  none_unsent k v below none = both_none (sent_by v (get_or (parts w) k [])) (unsent_at w.cleared k v) (sym (played_unsent k v below) ∙ none)

  -- what holds of a vertex after a round
  pub record VertexAfter (v : ℕ) (after : List McCopy) : Type 0 where
    pub here : (h : Home) → slice_get w.r.layout.now.homes.items (vertex_place w.m.setup v) ≡ Some h → unsent_at w.cleared h.receiver v ≡ after
    pub nowhere_else : (h : Home) (s : ℕ) → slice_get w.r.layout.now.homes.items (vertex_place w.m.setup v) ≡ Some h → s < length w.dealt → s ≢ h.receiver → unsent_at w.cleared s v ≡ []
    pub sent : slice_index_or w.m.unsent v [] ≡ sent_by v (joined (parts w)) ++ after

  pub vertex_after : (v : ℕ) → v < length w.m.setup.spots → (after : List McCopy) × VertexAfter v after
  vertex_after v inside =
      let unsent = w.roomy.raised.unsent in
      let home = slice_get_there w.r.layout.now.homes.items (vertex_place w.m.setup v) (omega (arith, inside, w.roomy.raised.laid.homes.long)) in
      let at = home.1 in
      let below = (home_below w (vertex_place w.m.setup v) home.0 at).1 in
      let k = home.0.receiver in
      let all : sent_by v (joined (parts w)) ≡ sent_by v (get_or (parts w) k []) =
      told_by_one (played_parts w) (sent_in v) k below
      (λ j within other. (none_unsent j v within (unsent.nowhere_else v home.0 j at other)).0) in (
        unsent_at w.cleared k v,
        record {
          here = λ h stands. ap (λ (x : Home). unsent_at w.cleared x.receiver v) (same_Some h home.0 (sym stands ∙ at));
          nowhere_else = λ h s stands within other. (none_unsent s v within (unsent.nowhere_else v h s stands other)).1;
          sent = sym (unsent.here v home.0 at) ∙ (played_unsent k v below ∙ ap (λ (l : List McCopy). l ++ unsent_at w.cleared k v) (sym all));
        },
      )
