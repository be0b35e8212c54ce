use Rattle.job_readers.proofs.Common.{All-push, ap, arith, err_from_is_err_and, item_at, items_faults, length, length-map, map, path_text, refl, view, ◌∙◌}
use Rattle.job_readers.proofs.ItemSteps.{items-more, items-fail, values-more, items-none, values-all}
use Rattle.job_readers.proofs.items.each_item.Goals as goal

pub returns-in_err-next-clause-read : goal.returns-in_err-next-clause-read
returns-in_err-next-clause-read g c =
    let p = err_from_is_err_and c.from_residual.result c.from_residual.ensures.1 in
    let xs = c.args.items.now in
    let f = g.R.ItemReader.faults c.args.reader.now in
    let all = items_faults f (path_text c.args.path.now) 0 (map view xs) in
    rw (p.1, p.2) (items-fail view xs c.loop-i.i c.index-items-i.result (omega arith) c.index-items-i.is f (path_text c.args.path.now) (item_at (path_text c.args.path.now) c.loop-i.i) all c.in_err-next.field-0.0 refl c.in_err-next.ensures.read c.loop-i.invariant.left)

pub loop-i-preserved : goal.loop-i-preserved
loop-i-preserved g c =
    let xs = c.args.items.now in
    let f = g.R.ItemReader.faults c.args.reader.now in
    record {
      left = items-more view xs c.loop-i.i c.index-items-i.result (omega arith) c.index-items-i.is f (path_text c.args.path.now) (item_at (path_text c.args.path.now) c.loop-i.i) (items_faults f (path_text c.args.path.now) 0 (map view xs)) refl c.in_ok-next.ensures.read.0 c.loop-i.invariant.left;
      read = values-more view xs c.loop-i.i c.index-items-i.result (omega arith) c.index-items-i.is (g.R.ItemReader.value c.args.reader.now) c.loop-i.found c.push.new.self c.loop-i.invariant.read (rw (← c.in_ok-next.ensures.read.1) c.in_ok-push.ensures.ok);
      holds = rw c.in_ok-push.ensures.ok (All-push (g.R.ItemReader.Holds c.args.reader.now) c.loop-i.found c.in_ok-next.next c.loop-i.invariant.holds c.in_ok-next.ensures.holds);
    }

pub returns-clause-read : goal.returns-clause-read
returns-clause-read g c =
    let xs = c.args.items.now in
    let f = g.R.ItemReader.faults c.args.reader.now in
    (items-none view xs c.loop-i.i f (path_text c.args.path.now) (items_faults f (path_text c.args.path.now) 0 (map view xs)) (omega arith) c.loop-i.invariant.left, values-all view xs c.loop-i.i (g.R.ItemReader.value c.args.reader.now) c.loop-i.found (omega arith) c.loop-i.invariant.read)

pub returns-clause-count : goal.returns-clause-count
returns-clause-count g c =
    let xs = c.args.items.now in
    let value = g.R.ItemReader.value c.args.reader.now in
    ap length (values-all view xs c.loop-i.i value c.loop-i.found (omega arith) c.loop-i.invariant.read) ∙ (length-map (map view xs) value ∙ length-map xs view)
