use Rattle.spin_apps.proofs.Common.{All-at, FindHosts, Host, IsValidStep, Option, Some, ap, arith, packet_count_of, refl, slice_get, slice_get_read, string_bytes, subst, sym, ◌≡◌}
use Rattle.spin_apps.proofs.Chain.{find_after, finds_host, goes_first, goes_more, packets_more}
use Rattle.spin_apps.proofs.answers.take_all.Goals as goal

pub loop-step-init : goal.loop-step-init
loop-step-init c = record {
  goes = goes_first c.args.steps.now c.args.hosted.now (string_bytes c.args.text.now) c.requires.none c.requires.no_text;
  find = subst (λ (o : Option Host). FindHosts o c.args.steps.now) (sym c.requires.none) c.requires.machine;
  few = (let none = ap packet_count_of c.requires.none in omega (arith, none));
}

pub take-requires : goal.take-requires
take-requires c = record {
  host = let steps = c.args.steps.now in
      let i = c.loop-step.step-index in
      let at : slice_get steps i ≡ Some c.step-item.result = slice_get_read steps _ i c.step-item.result refl c.loop-step-test.true c.step-item.is in
      finds_host steps i c.step-item.result c.loop-step.hosted at c.loop-step.invariant.find;
  numbers = let few = c.loop-step.invariant.few in
      omega (arith, few, c.loop-step-test.true, c.requires.few);
  valid = All-at IsValidStep c.args.steps.now c.loop-step.step-index c.step-item.result c.requires.valid
      (slice_get_read c.args.steps.now _ c.loop-step.step-index c.step-item.result refl c.loop-step-test.true c.step-item.is);
}

pub loop-step-preserved : goal.loop-step-preserved
loop-step-preserved c =
    let steps = c.args.steps.now in
    let i = c.loop-step.step-index in
    let step = c.step-item.result in
    let at : slice_get steps i ≡ Some step = slice_get_read steps _ i step refl c.loop-step-test.true c.step-item.is in
    let valid = All-at IsValidStep steps i step c.requires.valid at in
    let told = c.in_ok-take.ensures in
    let more = packets_more step c.loop-step.hosted (string_bytes c.loop-step.text) (string_bytes c.take.new.text) c.take.new.hosted valid told in
    record {
      goes = goes_more steps i step c.loop-step.hosted c.take.new.hosted (string_bytes c.loop-step.text) (string_bytes c.take.new.text) at told c.loop-step.invariant.goes;
      find = find_after steps i step c.loop-step.hosted (string_bytes c.loop-step.text) (string_bytes c.take.new.text) c.take.new.hosted at told c.loop-step.invariant.find;
      few = omega (arith, more, c.loop-step.invariant.few);
    }
