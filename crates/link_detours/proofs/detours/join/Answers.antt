use Rattle.link_detours.proofs.Common.{Chip, IsIn, IsTreeChip, LeadsTo, Steps, [], append-nil, arith, inl, refl, subst, sym}
use Rattle.link_detours.proofs.{Putting.bit_of, Stepping.IsLevel-same, Walks.walk_steps, Waving.AreWaves-same}
use Rattle.link_detours.proofs.detours.join.Goals as goal

pub has-requires : goal.has-requires
has-requires c = grind (arith, bit_of c.args.aim.ground.machine.now c.args.aim.ground.roads.now c.args.tree.now c.args.aim.target c.args.aim.ground.roads_are c.requires.long c.args.aim.inside)

pub returns-then-has-clause-joined : goal.returns-then-has-clause-joined
returns-then-has-clause-joined c = λ _. ([], sym (append-nil c.args.whole.now.items), (c.requires.told c.args.aim.target).0 (c.has.ensures.0 c.if-has.true))

pub walk_back-requires-clause-waves : goal.walk_back-requires-clause-waves
walk_back-requires-clause-waves c =
    let found = rw (c.in-Some.is, ← c.deref.ensures.value) at c.in_ok-found.ensures.waves in (
      found.0,
      AreWaves-same c.args.aim.ground.machine.now (IsIn c.args.tree.now) (IsTreeChip c.args.aim.ground.machine.now c.args.aim.root c.args.whole.now.items)
          (λ x. (c.requires.told x).0) (λ x. (c.requires.told x).1) found.0 c.deref.result.now found.1,
      IsLevel-same (LeadsTo c.args.aim.ground.machine.now) (LeadsTo c.args.aim.ground.machine.now) (IsIn c.args.tree.now)
          (IsTreeChip c.args.aim.ground.machine.now c.args.aim.root c.args.whole.now.items) (λ a b step. step) (λ a b step. step)
          (λ x. (c.requires.told x).0) (λ x. (c.requires.told x).1) c.args.aim.target found.0 found.2,
    )

pub returns-in-None-clause-cut_off : goal.returns-in-None-clause-cut_off
returns-in-None-clause-cut_off c = λ _ walk along.
    let way = walk_steps c.args.aim.ground.machine.now walk c.args.aim.root along.0 in
    (rw c.in-None.is at c.in_ok-found.ensures.cut_off) way.0 (
      c.args.aim.root,
      (c.requires.told c.args.aim.root).1 (inl refl),
      subst (λ (x : Chip). Steps (LeadsTo c.args.aim.ground.machine.now) way.0 c.args.aim.root x) along.1 way.1,
    )
