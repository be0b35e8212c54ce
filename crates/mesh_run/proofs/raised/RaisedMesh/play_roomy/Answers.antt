use Rattle.mesh_run.proofs.Common.{All, AreCuts, AreLaid, Cut, Deals, FitsLogs, HoldsAll, HoldsNoEnds, IsMesh, IsRoomyFrom, IsShareOf, Link, LinkEnds, List, PlaysTo, RaisedMesh, RestAll, Share, State}
use Rattle.mesh_run.proofs.Common.{WasUp, ap, arith, length, subst, sym, with_items, with_items_is, ℕ, ◌+◌, ◌∙◌}
use Rattle.mesh_run.proofs.{AfterDeal.cuts_apart, GatheringLaws.Gathered, RoundSteps.IsCollected, RoundSteps.IsDealt, RoundSteps.IsTurned, RoundSteps.PlayAndStay, RoundSteps.can_rest}
use Rattle.mesh_run.proofs.RoundSteps.{cuts_laid, is_collected, is_dealt, is_turned, no_ends, room_for_logs, round_plays, shares_of_mesh, still_cuts}
use Rattle.mesh_run.proofs.raised.RaisedMesh.play_roomy.{Given.Over, Goals.After-collect, Goals.After-deal, Goals.After-play_all}
use Rattle.mesh_run.proofs.raised.RaisedMesh.play_roomy.Goals as goal

pub deal-requires-clause-cuts : goal.deal-requires-clause-cuts
deal-requires-clause-cuts g c = grind (arith, cuts_apart (c.requires).2.raised)

-- what was dealt to the shares
dealt : (g : Over) (c : After-deal g) (m : State) → IsMesh m → IsRoomyFrom m (c.args.self.now.pace.turns + 1) c.args.self.now →
    IsDealt m c.args.self.now c.deal.new.standing c.deal.new.shares.items
dealt g c m is_mesh roomy =
    is_dealt is_mesh roomy (c.deref.ensures.value ∙ ap (λ (x : RaisedMesh). x.layout.now.cuts.items) c.self.view_is)
    (subst (λ (x : RaisedMesh). (ends : List LinkEnds) → HoldsAll ends x.standing → Deals ends c.deref.result.now x.shares.items c.deal.new.shares.items)
    c.self.view_is c.deal.ensures.deals)
    (subst (λ (x : RaisedMesh). (ends : List LinkEnds) → HoldsAll ends x.standing → HoldsNoEnds ends c.deal.new.standing)
    c.self.view_is c.deal.ensures.none_left)

-- what turns made of them
turned : (g : Over) (c : After-play_all g) (m : State) → IsDealt m c.args.self.now c.deal.new.standing c.deal.new.shares.items →
    IsTurned m c.args.self.now c.deal.new.standing c.deal.new.shares.items c.play_all.new.shares.items
turned g c m before = grind (arith, is_turned, PlayAndStay)

-- the ends that were collected
collected : (g : Over) (c : After-collect g) (m : State) → IsTurned m c.args.self.now c.deal.new.standing c.deal.new.shares.items c.play_all.new.shares.items →
    IsCollected m c.args.self.now c.deal.new.standing c.deal.new.shares.items c.play_all.new.shares.items c.collect.new.standing c.collect.new.shares.items
collected g c m before = is_collected before (c.deref-3.ensures.value ∙ ap (λ (x : RaisedMesh). x.layout.now.cuts.items) c.self.view_is) c.collect.ensures

pub play_all-requires-after_bounds : goal.play_all-requires-after_bounds
play_all-requires-after_bounds g c κs within =
    let q = c.requires in
    subst (λ (x : RaisedMesh). All (IsShareOf x.parts.setup c.deref-2.result.now) c.deal.new.shares.items) (sym c.self.view_is)
    (subst (λ (l : List Link). All (IsShareOf c.args.self.now.parts.setup l) c.deal.new.shares.items) (sym c.deref-2.ensures.value)
    (shares_of_mesh (dealt g (goal.at.play_all-requires-after_bounds g c).After-deal q.0 q.1 q.2)))

pub collect-requires : goal.collect-requires
collect-requires g c =
    let q = c.requires in
    let turn = turned g (goal.at.collect-requires g c).After-play_all q.0 (dealt g (goal.at.collect-requires g c).After-deal q.0 q.1 q.2) in
    let is = sym (c.deref-3.ensures.value ∙ ap (λ (x : RaisedMesh). x.layout.now.cuts.items) c.self.view_is) in
    let none = no_ends turn in
    record {
      cuts = subst (λ (l : List Cut). AreCuts l c.play_all.new.shares.items) is (still_cuts turn);
      laid = subst (AreLaid c.deal.new.standing.links.items c.play_all.new.shares.items) is (cuts_laid turn);
      none = (none.0, none.1, none.2 ∙ ap length is);
    }

pub rest_all-requires : goal.rest_all-requires
rest_all-requires g c =
    let q = c.requires in
    let turn = turned g (goal.at.rest_all-requires g c).After-play_all q.0 (dealt g (goal.at.rest_all-requires g c).After-deal q.0 q.1 q.2) in
    let rest = can_rest (collected g (goal.at.rest_all-requires g c).After-collect q.0 turn) in
    (rest.0, rest.1, subst (λ (n : ℕ). All (WasUp n) rest.0) (sym (c.capacity-2.ensures ∙ ap (λ (x : RaisedMesh). x.parts.setup.capacity) c.self.view_is)) rest.2)

pub gather-requires : goal.gather-requires
gather-requires g c =
    let q = c.requires in
    let turn = turned g (goal.at.gather-requires g c).After-play_all q.0 (dealt g (goal.at.gather-requires g c).After-deal q.0 q.1 q.2) in
    subst (λ (x : RaisedMesh). FitsLogs c.deref_mut.result.now x.logs) (sym c.self.view_is)
    (subst (λ (l : List Share). FitsLogs l c.args.self.now.logs) (sym c.deref_mut.ensures.value)
    (room_for_logs (collected g (goal.at.gather-requires g c).After-collect q.0 turn)))

pub returns-clause-played : goal.returns-clause-played
returns-clause-played g c = λ m is_mesh roomy.
    let r = c.args.self.now in
    let standing = c.rest_all.new.standing in
    let shares = with_items c.collect.new.shares c.gather.new.shares in
    let logs = c.gather.new.self in
    let turn = turned g (goal.at.returns-clause-played g c).After-play_all m (dealt g (goal.at.returns-clause-played g c).After-deal m is_mesh roomy) in
    let all = collected g (goal.at.returns-clause-played g c).After-collect m turn in
    subst (λ (x : RaisedMesh). PlaysTo r.pace.patience r.pace.turns m c.gather.result (record x { standing = standing; shares = shares; logs = logs }))
    (sym c.self.view_is)
    (round_plays standing shares logs c.gather.result all
    (subst (λ (n : ℕ). (ends : List LinkEnds) → HoldsAll ends c.collect.new.standing → RestAll n ends standing c.rest_all.result)
    (c.capacity-2.ensures ∙ ap (λ (x : RaisedMesh). x.parts.setup.capacity) c.self.view_is) c.rest_all.ensures)
    (subst (λ (l : List Share). Gathered c.collect.new.shares.items l r.logs logs c.gather.result)
    (sym (with_items_is c.collect.new.shares c.gather.new.shares (c.gather.ensures.cleared.0 ∙ c.deref_mut.ensures.len)))
    (subst (λ (l : List Share). Gathered l c.gather.new.shares r.logs logs c.gather.result) c.deref_mut.ensures.value
    (subst (λ (x : RaisedMesh). Gathered c.deref_mut.result.now c.gather.new.shares x.logs logs c.gather.result) c.self.view_is
    (record { delivered = c.gather.ensures.delivered; dumped = c.gather.ensures.dumped; cleared = c.gather.ensures.cleared; moved_are = c.gather.ensures.moved })))))
