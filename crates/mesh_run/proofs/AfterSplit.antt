-- The mesh to which a whole round leads is split as it was: lanes, and what is unsent, stand in the shares of their homes.
use Rattle.mesh_run.proofs.Common.{Away, Cut, HoldLanes, HoldUnsent, Home, IsUncut, Option, Share, Some, [], ap, arith, cases_eq, cases_lt, end_at, inl, inr, length, port_count, slice_get}
use Rattle.mesh_run.proofs.Common.{slice_get_past, slice_get_within, subst, sym, unsent_in, vertex_place, ℕ, ◌++◌, ◌<◌, ◌∙◌, ◌≡◌, ◌≢◌, ◌⊎◌}
use Rattle.mesh_run.proofs.{AfterMesh.after_unsent, AfterMesh.mesh, AfterMesh.queue_there, EachQueue.cleared_end, EachQueue.elsewhere, Together.none_passes, WholeRound.Whole, WholeRound.dealt_long}
use Rattle.mesh_run.proofs.WholeRound.{played_parts, uncut}

module _ (w : Whole) where
  cleared_long : length w.cleared ≡ length w.dealt
  cleared_long = w.clears.0 ∙ (w.collects.collects.same.0 ∙ w.played_long)

  -- what is not held of a queue, and is no end of a cut, is not held afterwards
  stays_away : (s q : ℕ) → IsUncut w.r.layout.now.cuts.items s q → end_at w.r.shares.items s q ≡ Some Away → end_at w.cleared s q ≡ Some Away
  stays_away s q uncut_here away =
      let dealt = w.deals.others s q uncut_here ∙ away in
      let none = none_passes (played_parts w) s q dealt in
      cleared_end w s q Away (w.collects.collects.others s q uncut_here ∙ none.stays)

  away_after : (q : ℕ) (h : Home) (s : ℕ) → slice_get w.r.layout.now.homes.items q ≡ Some h → s < length w.cleared → (s ≢ h.sender) ⊎ (h.sender ≢ h.receiver) → end_at w.cleared s q ≡ Some Away
  away_after q h s at inside other =
      let was = w.roomy.raised.lanes.away q h s at (omega (arith, inside, cleared_long, dealt_long w)) other in
      elim (cases_eq h.sender h.receiver) [
        | inl same ↦ stays_away s q (uncut w q h at same s) was
        | inr two ↦
            let cut = w.roomy.raised.laid.cuts.all_cut q h at two in
            subst (λ n. end_at w.cleared s n ≡ Some Away) cut.3 (gone cut.0 cut.1 cut.2 (subst (λ n. end_at w.r.shares.items s n ≡ Some Away) (sym cut.3) was))
      ]
    where
      gone : (l : ℕ) (c : Cut) → slice_get w.r.layout.now.cuts.items l ≡ Some c → end_at w.r.shares.items s c.queue ≡ Some Away → end_at w.cleared s c.queue ≡ Some Away
      gone l c stands was = elim (cases_eq s c.sender) [
        | inl is ↦ subst (λ n. end_at w.cleared n c.queue ≡ Some Away) (sym is) (cleared_end w c.sender c.queue Away (w.collects.collects.gone l c stands).0)
        | inr no_sender ↦ elim (cases_eq s c.receiver) [
          | inl is ↦ subst (λ n. end_at w.cleared n c.queue ≡ Some Away) (sym is) (cleared_end w c.receiver c.queue Away (w.collects.collects.gone l c stands).1)
          | inr no_receiver ↦ stays_away s c.queue (elsewhere w l c stands s no_sender no_receiver) was
        ]
      ]

  pub whole_lanes : HoldLanes ((mesh w).inputs ++ (mesh w).cores) w.r.layout.now.homes.items w.cleared
  whole_lanes = record {
    lanes = λ q h at same.
        (queue_there w q (let below = slice_get_within w.r.layout.now.homes.items q h at in let long = w.roomy.raised.laid.homes.long in omega (arith, below, long))).lane h at same;
    away = away_after;
  }

  pub whole_unsent : HoldUnsent (port_count w.m.setup) (mesh w).unsent w.r.layout.now.homes.items w.cleared
  whole_unsent = record {
    here = λ v h at. ((after_unsent w).2 v [] (there v h at)).here h at;
    nowhere_else = λ v h s at other. elim (cases_lt s (length w.dealt)) [
      | inl less ↦ ((after_unsent w).2 v [] (there v h at)).nowhere_else h s at less other
      | inr more ↦ ap (λ (x : Option Share). unsent_in x v) (slice_get_past w.cleared s (let long = cleared_long in omega (arith, more, long)))
    ];
  }
    where
      there : (v : ℕ) (h : Home) → slice_get w.r.layout.now.homes.items (vertex_place w.m.setup v) ≡ Some h → v < length w.m.setup.spots
      there v h at = let below = slice_get_within w.r.layout.now.homes.items (vertex_place w.m.setup v) h at in let long = w.roomy.raised.laid.homes.long in omega (arith, below, long)
