use Rattle.spin_apps.proofs.Common.{HasFreeCores, HasNumbersFor, Host, IfOk, IsLoadAnswer, false, is_loaded, subst, sym, ◌∙◌, ◌≡◌}
use Rattle.spin_apps.proofs.{Planning.may_load, Planning.taken_answers, hosts.Hosted.load.Goals.After-plan_of}
use Rattle.spin_apps.proofs.hosts.Hosted.load.Goals as goal

on : (c : After-plan_of) → HasFreeCores c.self.inside.apps c.self.inside.machine c.self.inside.free
on c = record { machine = c.self.invariant.machine; free = c.self.invariant.free }

pub plan_of-requires : goal.plan_of-requires
plan_of-requires c = record {
  valid = c.requires.valid;
  roads = c.self.invariant.roads;
  host = c.self.inside.apps;
  on = record { machine = c.self.invariant.machine; free = c.self.invariant.free };
}

pub take-requires : goal.take-requires
take-requires c =
    let h : Host = c.self.inside.apps in
    let numbers = subst (λ (g : Host). HasNumbersFor g c.args.job.now) (sym c.self.view_is) c.requires in
    let p = c.in-Ok.ensures.plan h (on (goal.at.take-requires c).After-plan_of) in
    record {
      may = may_load h c.args.job.now c.in-Ok.plan p.is p.valid p.untaken numbers.numbers;
      usable = p.usable;
      taken = p.taken;
    }

pub invariant_of-self : goal.invariant_of-self
invariant_of-self c = record {
  apps = c.take.ensures.apps;
  machine = c.take.ensures.machine ∙ c.self.invariant.machine;
  roads = c.self.invariant.roads;
  free = c.take.ensures.free;
}

pub invariant_of-self-in-Err : goal.invariant_of-self-in-Err
invariant_of-self-in-Err c = record {
  apps = c.self.invariant.apps;
  machine = c.self.invariant.machine;
  roads = c.self.invariant.roads;
  free = (c.in-Err.ensures.none c.self.inside.apps (on (goal.at.invariant_of-self-in-Err c).After-plan_of)).free;
}

pub returns-in-Ok-clause-answer : goal.returns-in-Ok-clause-answer
returns-in-Ok-clause-answer c =
    let p = c.in-Ok.ensures.plan c.self.inside.apps (on (goal.at.returns-in-Ok-clause-answer c).After-plan_of) in
    subst (λ (g : Host). IfOk c.take.result (λ a. IsLoadAnswer g c.args.number c.args.job.now a c.take.new.apps)) c.self.view_is
    (taken_answers c.take.result c.self.inside.apps c.args.number c.args.job.now c.in-Ok.plan c.take.new.apps p.is c.take.ensures.taken)

pub returns-in-Err-clause-answer : goal.returns-in-Err-clause-answer
returns-in-Err-clause-answer c =
    let h : Host = c.self.inside.apps in
    let none = c.in-Err.ensures.none h (on (goal.at.returns-in-Err-clause-answer c).After-plan_of) in
    let out : is_loaded h.apps c.args.number ≡ false = sym c.loaded.ensures ∙ c.if-loaded.false in
    subst (λ (g : Host). IfOk c.unplanned.result (λ a. IsLoadAnswer g c.args.number c.args.job.now a h)) c.self.view_is (c.unplanned.ensures h c.args.number c.args.job.now out none.why)
