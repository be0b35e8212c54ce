-- After a whole round the shares have the runs that they had, and lists as long.
use Rattle.mesh_run.proofs.Common.{AreSameRuns, AreShared, IsEmptied, SameButEnds, SameRun, Share, ap, arith, get_or, get_or_from_slice_get, length, slice_get_within, subst}
use Rattle.mesh_run.proofs.{CrossingLaws.each_on, CrossingLaws.each_weaker, Raising.shared_still, WholeRound.Whole}

run_on : (x y z : Share) → SameRun x y → SameRun y z → SameRun x z
run_on x y z p q = grind arith

-- where all but ends is the same, runs are
run_of_ends : (s t : Share) → SameButEnds s t → SameRun s t
run_of_ends s t p = record { from = p.from; to = p.to; ends_long = p.ends_long; unsent_long = ap (λ l. length l.items) p.unsent }

module _ (w : Whole) where
  played_runs : AreSameRuns w.dealt w.played
  played_runs = (
    w.played_long,
    λ k s t at also.
        let p = (w.plays k s (slice_get_within w.dealt k s at)).plays in
        subst (λ (x : Share). SameRun x t) (get_or_from_slice_get w.dealt k s s at)
        (subst (SameRun (get_or w.dealt k s)) (get_or_from_slice_get w.played k t s also) (record { from = p.from; to = p.to; ends_long = p.goes.ends_long; unsent_long = p.goes.unsent_long })),
  )

  cleared_runs : AreSameRuns w.collected w.cleared
  cleared_runs = each_weaker IsEmptied SameRun (λ s t p. record { from = p.from; to = p.to; ends_long = ap (λ l. length l.items) p.ends; unsent_long = ap (λ l. length l.items) p.unsent })
      w.collected w.cleared w.clears

  pub whole_shared : AreShared w.m.setup w.r.layout.now.runs.items w.cleared
  whole_shared =
      let dealt = each_weaker SameButEnds SameRun run_of_ends w.r.shares.items w.dealt w.deals.same in
      let collected = each_weaker SameButEnds SameRun run_of_ends w.played w.collected w.collects.collects.same in
      shared_still w.m.setup w.r.layout.now.runs.items w.r.shares.items w.cleared (each_on SameRun run_on w.r.shares.items w.dealt w.cleared dealt
      (each_on SameRun run_on w.dealt w.played w.cleared played_runs (each_on SameRun run_on w.played w.collected w.cleared collected cleared_runs))) w.roomy.raised.shared
