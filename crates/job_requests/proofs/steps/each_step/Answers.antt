use Rattle.job_requests.proofs.Common.{All-push, HasFirstMachine, IsValidStep, ap, arith, err_from_is_err_and, item_at, items-fail, items-more, items-none, items_faults, kept_step, length-append, map}
use Rattle.job_requests.proofs.Common.{path_text, refl, step_faults, step_value, subst, sym, take_all, view, ◌∙◌, ◌≡◌}
use Rattle.job_requests.proofs.FirstMachine.{has_first_machine, kept_next, loaded_next}
use Rattle.job_requests.proofs.steps.each_step.Goals as goal

pub returns-in_err-step_in-clause-read : goal.returns-in_err-step_in-clause-read
returns-in_err-step_in-clause-read c = grind (arith, err_from_is_err_and, items-fail)

pub loop-i-preserved : goal.loop-i-preserved
loop-i-preserved c =
    let xs = c.args.items.now in
    let i = c.loop-i.i in
    let item = c.index-items-i.result in
    let loaded = c.loop-i.loaded in
    let step = c.kept-step.result in
    let here : step ≡ kept_step loaded (step_value (view item)) = c.kept-step.ensures.kept ∙ ap (kept_step loaded) c.in_ok-step_in.ensures.read.1 in
    let pushed = c.in_ok-push.ensures.ok in
    record {
      left = items-more view xs i item (omega arith) c.index-items-i.is step_faults (path_text c.args.path.now) (item_at (path_text c.args.path.now) i) (items_faults step_faults (path_text c.args.path.now) 0 (map view xs)) refl c.in_ok-step_in.ensures.read.0 c.loop-i.invariant.left;
      read = kept_next view xs i item (omega arith) c.index-items-i.is c.loop-i.steps c.push.new.self loaded step c.loop-i.invariant.read c.loop-i.invariant.loaded here pushed;
      loaded = loaded_next view xs i item (omega arith) c.index-items-i.is loaded step c.is_load.result c.loop-i.invariant.loaded here c.is_load.ensures;
      counted = (let so_far = c.loop-i.invariant.counted in rw (pushed, length-append) (omega (arith, so_far)));
      valid = rw pushed (All-push IsValidStep c.loop-i.steps step c.loop-i.invariant.valid (c.kept-step.ensures.valid c.in_ok-step_in.ensures.valid));
    }

pub returns-clause-read : goal.returns-clause-read
returns-clause-read c = grind (arith, items-none, take_all)

pub returns-clause-count : goal.returns-clause-count
returns-clause-count c = let counted = c.loop-i.invariant.counted in omega (arith, counted)

pub returns-clause-machine : goal.returns-clause-machine
returns-clause-machine c = subst HasFirstMachine (sym c.loop-i.invariant.read) (has_first_machine _)
