use Rattle.mesh_run.proofs.Common.{Bool, Flags, IsShareOf, Link, List, MovesAt, PlaysOne, Setup, Share, arith, refl, subst, sym, true, ◌+◌, ◌≡◌, ◌≤◌}
use Rattle.mesh_run.proofs.{Acting.each_more, Acting.each_past, Acting.one_moves, Acting.one_stays, Acting.OneEach, shares.Share.turn_each.Goals.then-not-all+in-Some}
use Rattle.mesh_run.proofs.shares.Share.turn_each.Goals.{else-not-all, else-at-self, then-at-self+in-Moved, then-at-self+in-Waits, then-at-self+in-Nothing+then-not-has}
use Rattle.mesh_run.proofs.shares.Share.turn_each.Goals.{then-at-self+in-Nothing+else-not-has}
use Rattle.mesh_run.proofs.shares.Share.turn_each.Goals as goal

-- a share with other flags is a share of the same mesh
flagged : (u : Setup) (links : List Link) (s : Share) (awake short : Flags) (moved : Bool) →
    IsShareOf u links s → IsShareOf u links (record s { awake = awake; short = short; moved = moved })
flagged u links s awake short moved h = grind arith

pub actors-preserved : goal.actors-preserved
actors-preserved g c =
    let u = c.args.ground.footing.setup.now in
    let patience = c.args.ground.around.patience in
    let links = c.args.ground.around.links.now in
    let start = c.args.self.now in
    let before = c.actors.self in
    let at = c.if-not-all.at in
    let h = c.actors.invariant in
    let past : c.actors.at ≤ c.if-not-all.at = elim c.if-not-all.branch [
      | then-not-all+in-Some w ↦ let is = w.at-is in let from = w.in-Some.ensures.from in omega (arith, is, from)
      | else-not-all w ↦ let is = w.at-is in omega (arith, is)
    ] in
    let so_far = each_past u patience start before c.actors.at at past h.2 in
    let above : before.from ≤ at = let same = h.2.plays.from in omega (arith, h.1, past, same) in
    let on : (s : Share) → c.if-at-self.self ≡ s → IsShareOf u links s → PlaysOne u patience at before s →
    IsShareOf u links c.if-at-self.self × OneEach u patience start (at + 1) c.if-at-self.self =
    λ s is share plays. subst (λ (x : Share). IsShareOf u links x × OneEach u patience start (at + 1) x) (sym is) (share, each_more u patience start before s at so_far plays) in
    let after : IsShareOf u links c.if-at-self.self × OneEach u patience start (at + 1) c.if-at-self.self = elim c.if-at-self.branch [
      | then-at-self+in-Moved w ↦
          let a = w.in-Moved.ensures.acts in
          let m = a.does in
          let moves : MovesAt u patience at before (record w.act.new.self { moved = true }) =
          record { items = m.items; goes = m.goes; of_it = m.of_it; turns_are = m.turns_are; some = m.some } in
          on _ w.self-is (flagged u links w.act.new.self _ _ _ w.act.ensures.share) (one_moves u patience at before _ a.from a.to refl (record { above = above; below = w.if-at-self.true }) moves)
      | then-at-self+in-Waits w ↦
          let a = w.in-Waits.ensures.acts in
          on _ w.self-is (flagged u links w.act.new.self _ _ _ w.act.ensures.share) (one_stays u patience at before _ a.from a.to a.moved a.does)
      | then-at-self+in-Nothing+then-not-has w ↦
          let a = w.in-Nothing.ensures.acts in
          on _ w.self-is (flagged u links w.act.new.self _ _ _ w.act.ensures.share) (one_stays u patience at before _ a.from a.to a.moved a.does)
      | then-at-self+in-Nothing+else-not-has w ↦
          let a = w.in-Nothing.ensures.acts in
          on _ w.self-is w.act.ensures.share (one_stays u patience at before _ a.from a.to a.moved a.does)
      | else-at-self w ↦
          subst (λ (s : Share). IsShareOf u links s × OneEach u patience start (at + 1) s) (sym w.self-is)
          (h.0, each_past u patience start before at (at + 1) (omega arith) so_far)
    ] in
    (after.0, omega (arith, h.1, past), after.1)
