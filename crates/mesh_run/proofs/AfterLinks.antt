-- After a whole round the links are up for the queues of the cuts, and nothing is logged in the shares.
use Rattle.mesh_run.proofs.Common.{AreUp, Cut, HaveNoLogs, IsUp, List, McCopy, [], arith, cut_queues, get_or, get_or_from_slice_get, length, length-map, map, queue_of_link, refl, same_Some}
use Rattle.mesh_run.proofs.Common.{slice_get-get_or, slice_get-mapped, slice_get_there, slice_get_within, subst, sym, ◌++◌, ◌∙◌, ◌≡◌}
use Rattle.mesh_run.proofs.{AfterMesh.mesh, AfterMesh.queue_there, Resting.fewer, WholeRound.Whole}

module _ (w : Whole) where
  pub whole_no_logs : HaveNoLogs w.cleared
  whole_no_logs = λ i d below.
      let was = slice_get_there w.collected i (let long = w.clears.0 in omega (arith, below, long)) in
      let same = w.clears.1 i was.0 (get_or w.cleared i d) was.1 (slice_get-get_or w.cleared i d below) in
      (same.dumps, same.deliveries)

  after_long : length w.rests.now ≡ length w.r.layout.now.cuts.items
  after_long = grind (arith, length-map, get_or)

  pub whole_up : AreUp w.m.setup.capacity 0 (cut_queues ((mesh w).inputs ++ (mesh w).cores) w.r.layout.now.cuts.items) w.rests.now
  whole_up = record {
    long = after_long ∙ sym (length-map w.r.layout.now.cuts.items (λ (d : Cut). get_or ((mesh w).inputs ++ (mesh w).cores) d.queue []));
    each = λ l q e at_q at_e.
        let cut = slice_get_there w.r.layout.now.cuts.items l (omega (arith, slice_get_within w.rests.now l e at_e, after_long)) in
        let place = slice_get_within w.r.layout.now.homes.items cut.0.queue (record { sender = cut.0.sender; receiver = cut.0.receiver }) (w.roomy.raised.laid.cuts.cut l cut.0 cut.1).0 in
        let held = slice_get-mapped queue_of_link w.rests.now l e at_e in
        let queue : queue_of_link e ≡ q = sym (get_or_from_slice_get (map queue_of_link w.rests.now) l (queue_of_link e) [] held)
        ∙ ((queue_there w cut.0.queue (omega (arith, place, w.roomy.raised.laid.homes.long))).link l cut.0 cut.1 refl
        ∙ same_Some _ q (sym (slice_get-mapped (λ (d : Cut). get_or ((mesh w).inputs ++ (mesh w).cores) d.queue []) w.r.layout.now.cuts.items l cut.0 cut.1) ∙ at_q)) in
        subst (λ (x : List McCopy). IsUp w.m.setup.capacity 0 x e) queue (fewer w.m.setup.capacity w.rested.free (queue_of_link e) e (w.rests.up.each l (queue_of_link e) e held at_e));
  }
