use Rattle.job_readers.proofs.Common.{All-push, HasSendingSource, IsFirstFault, IsValidNet, Net, [], ap, arith, err_from_is_err_and, following_faults, item_at, length, length-append, map}
use Rattle.job_readers.proofs.Common.{name_place_in, net_value, next_net_faults, path_text, refl, subst, sym, view, ◌++◌, ◌∙◌, ◌∷◌, ◌≡◌}
use Rattle.job_readers.proofs.{Named.net_is_new, ItemSteps.values-more, ItemSteps.values-all, FollowingSteps.following-more, FollowingSteps.following-fail, FollowingSteps.following-none}
use Rattle.job_readers.proofs.GraphSteps.{next_net, net_name, net_names_more, blocks_more, apart_more}
use Rattle.job_readers.proofs.graph_parts.each_net.Goals as goal

pub returns-in_err-net-clause-read : goal.returns-in_err-net-clause-read
returns-in_err-net-clause-read c =
    let p = err_from_is_err_and c.from_residual-in_err-net.result c.from_residual-in_err-net.ensures.1 in
    let xs = c.args.items.now in
    let f = next_net_faults c.args.version c.args.among.now.vertices.now in
    let value = net_value c.args.version c.args.among.now.vertices.now in
    let all = following_faults f value [] (path_text c.args.path.now) 0 (map view xs) in
    let same = next_net c.args.version c.args.among.now.vertices.now c.loop-i.names c.loop-i.blocks c.loop-i.nets (item_at (path_text c.args.path.now) c.loop-i.i) (view c.index-items-i.result) c.loop-i.invariant.called c.loop-i.invariant.held in
    let first = subst (IsFirstFault c.in_err-net.field-0.0) same c.in_err-net.ensures.read in
    rw (p.1, p.2) (following-fail view xs c.loop-i.i c.index-items-i.result (omega arith) c.index-items-i.is f value c.loop-i.nets (path_text c.args.path.now) (item_at (path_text c.args.path.now) c.loop-i.i) all refl c.in_err-net.field-0.0 first c.loop-i.invariant.left)

pub with_new-requires-clause-new : goal.with_new-requires-clause-new
with_new-requires-clause-new c = ap (name_place_in c.loop-i.names) c.said_name.ensures
    ∙ net_is_new c.args.version c.args.among.now.vertices.now c.loop-i.names c.loop-i.blocks (item_at (path_text c.args.path.now) c.loop-i.i) (view c.index-items-i.result) c.in_ok-net.ensures.read.0

pub loop-i-preserved : goal.loop-i-preserved
loop-i-preserved c =
    let xs = c.args.items.now in
    let vertices = c.args.among.now.vertices.now in
    let f = next_net_faults c.args.version vertices in
    let value = net_value c.args.version vertices in
    let all = following_faults f value [] (path_text c.args.path.now) 0 (map view xs) in
    let ns = c.loop-i.nets in
    let n = c.in_ok-net.net in
    let same = next_net c.args.version vertices c.loop-i.names c.loop-i.blocks ns (item_at (path_text c.args.path.now) c.loop-i.i) (view c.index-items-i.result) c.loop-i.invariant.called c.loop-i.invariant.held in
    let is : n ≡ net_value c.args.version vertices (view c.index-items-i.result) = c.in_ok-net.ensures.read.1 in
    let pushed : c.push.new.self ≡ ns ++ n ∷ [] = c.in_ok-push.ensures.ok in
    let pushed_value : c.push.new.self ≡ ns ++ net_value c.args.version vertices (view c.index-items-i.result) ∷ [] = rw (← is) pushed in
    let said = c.said_name.ensures ∙ sym (net_name c.args.version vertices (view c.index-items-i.result)) ∙ ap (λ (m : Net). m.name) (sym is) in
    record {
      left = following-more view xs c.loop-i.i c.index-items-i.result (omega arith) c.index-items-i.is f value ns (path_text c.args.path.now) (item_at (path_text c.args.path.now) c.loop-i.i) all refl c.push.new.self pushed_value (sym same ∙ c.in_ok-net.ensures.read.0) c.loop-i.invariant.left;
      read = values-more view xs c.loop-i.i c.index-items-i.result (omega arith) c.index-items-i.is value ns c.push.new.self c.loop-i.invariant.read pushed_value;
      counted = rw (c.in_ok-names-2.ensures, length-append) (omega arith);
      called = net_names_more ns c.push.new.self n c.loop-i.names c.in_ok-names-2.names c.said_name.result.now pushed c.loop-i.invariant.called c.in_ok-names-2.ensures said;
      held = blocks_more ns c.push.new.self n c.loop-i.blocks c.in_ok-blocks.blocks pushed c.loop-i.invariant.held c.in_ok-blocks.ensures;
      valid = rw pushed (All-push (IsValidNet (length vertices)) ns n c.loop-i.invariant.valid c.in_ok-net.ensures.valid);
      sources = rw pushed (All-push (HasSendingSource vertices) ns n c.loop-i.invariant.sources c.in_ok-net.ensures.sends);
      fixed = apart_more ns c.push.new.self n c.loop-i.blocks pushed c.loop-i.invariant.held c.in_ok-net.ensures.fresh c.loop-i.invariant.fixed;
    }

pub returns-clause-read : goal.returns-clause-read
returns-clause-read c =
    let xs = c.args.items.now in
    let f = next_net_faults c.args.version c.args.among.now.vertices.now in
    let value = net_value c.args.version c.args.among.now.vertices.now in
    (following-none view xs c.loop-i.i f value c.loop-i.nets (path_text c.args.path.now) (following_faults f value [] (path_text c.args.path.now) 0 (map view xs)) (omega arith) c.loop-i.invariant.left, values-all view xs c.loop-i.i value c.loop-i.nets (omega arith) c.loop-i.invariant.read)
