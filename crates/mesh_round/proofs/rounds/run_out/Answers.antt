-- Where nothing waits, or no layout is made, there was no round.
use Rattle.mesh_round.proofs.Common.{HasMovingRounds, HasRounds, State, arith, none, subst, sym, ℕ, ◌∙◌}
use Rattle.mesh_round.proofs.Resting.{rests}
use Rattle.mesh_round.proofs.rounds.run_out.Goals as goal

no_rounds : (patience turns : ℕ) (m : State) → HasMovingRounds patience turns m m
no_rounds patience turns m = record { rounds = none; each = tt }

pub returns-then-is_at_rest-clause-rounds : goal.returns-then-is_at_rest-clause-rounds
returns-then-is_at_rest-clause-rounds g c =
    let p = c.args.pace in
    subst (HasRounds p.patience p.turns c.args.mesh) (sym (c.put_together.ensures ∙ c.take_apart-parts.ensures.parts)) none

pub returns-then-is_at_rest-clause-soon : goal.returns-then-is_at_rest-clause-soon
returns-then-is_at_rest-clause-soon g c = grind (arith, no_rounds (c.args.pace).patience (c.args.pace).turns (c.args.mesh))

pub returns-then-is_at_rest-clause-at_rest : goal.returns-then-is_at_rest-clause-at_rest
returns-then-is_at_rest-clause-at_rest g c = grind (arith, rests)

pub returns-in-Err-clause-refused : goal.returns-in-Err-clause-refused
returns-in-Err-clause-refused g c =
    let p = c.args.pace in
    subst (HasRounds p.patience p.turns c.args.mesh) (sym (c.put_together-in-Err.ensures ∙ c.take_apart-parts.ensures.parts)) none

pub returns-in-Ok-run_on-clause-soon : goal.returns-in-Ok-run_on-clause-soon
returns-in-Ok-run_on-clause-soon g c = grind arith
