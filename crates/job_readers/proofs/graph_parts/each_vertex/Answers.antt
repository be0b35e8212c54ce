use Rattle.job_readers.proofs.Common.{All-push, IsFirstFault, IsValidVertex, Vertex, [], ap, arith, err_from_is_err_and, following_faults, item_at, length-append, map, name_place_in}
use Rattle.job_readers.proofs.Common.{next_vertex_faults, path_text, refl, subst, sym, vertex_value, view, ◌++◌, ◌∙◌, ◌∷◌, ◌≡◌}
use Rattle.job_readers.proofs.{Named.vertex_is_new, ItemSteps.values-more, ItemSteps.values-all, FollowingSteps.following-more, FollowingSteps.following-fail, FollowingSteps.following-none}
use Rattle.job_readers.proofs.GraphSteps.{next_vertex, vertex_name, names_more, devices_more, different_more}
use Rattle.job_readers.proofs.graph_parts.each_vertex.Goals as goal

pub returns-in_err-vertex-clause-read : goal.returns-in_err-vertex-clause-read
returns-in_err-vertex-clause-read c =
    let p = err_from_is_err_and c.from_residual-in_err-vertex.result c.from_residual-in_err-vertex.ensures.1 in
    let xs = c.args.items.now in
    let f = next_vertex_faults c.args.version in
    let value = vertex_value c.args.version in
    let all = following_faults f value [] (path_text c.args.path.now) 0 (map view xs) in
    let same = next_vertex c.args.version c.loop-i.names c.loop-i.devices c.loop-i.vertices (item_at (path_text c.args.path.now) c.loop-i.i) (view c.index-items-i.result) c.loop-i.invariant.named c.loop-i.invariant.hung in
    let first = subst (IsFirstFault c.in_err-vertex.field-0.0) same c.in_err-vertex.ensures.read in
    rw (p.1, p.2) (following-fail view xs c.loop-i.i c.index-items-i.result (omega arith) c.index-items-i.is f value c.loop-i.vertices (path_text c.args.path.now) (item_at (path_text c.args.path.now) c.loop-i.i) all refl c.in_err-vertex.field-0.0 first c.loop-i.invariant.left)

pub with_new-requires-clause-new : goal.with_new-requires-clause-new
with_new-requires-clause-new c = ap (name_place_in c.loop-i.names) c.said_name.ensures
    ∙ vertex_is_new c.args.version c.loop-i.names c.loop-i.devices (item_at (path_text c.args.path.now) c.loop-i.i) (view c.index-items-i.result) c.in_ok-vertex.ensures.read.0

pub loop-i-preserved : goal.loop-i-preserved
loop-i-preserved c =
    let xs = c.args.items.now in
    let f = next_vertex_faults c.args.version in
    let value = vertex_value c.args.version in
    let all = following_faults f value [] (path_text c.args.path.now) 0 (map view xs) in
    let vs = c.loop-i.vertices in
    let v = c.in_ok-vertex.vertex in
    let same = next_vertex c.args.version c.loop-i.names c.loop-i.devices vs (item_at (path_text c.args.path.now) c.loop-i.i) (view c.index-items-i.result) c.loop-i.invariant.named c.loop-i.invariant.hung in
    let is : v ≡ vertex_value c.args.version (view c.index-items-i.result) = c.in_ok-vertex.ensures.read.1 in
    let pushed : c.push.new.self ≡ vs ++ v ∷ [] = c.in_ok-push.ensures.ok in
    let pushed_value : c.push.new.self ≡ vs ++ vertex_value c.args.version (view c.index-items-i.result) ∷ [] = rw (← is) pushed in
    let said = c.said_name.ensures ∙ sym (vertex_name c.args.version (view c.index-items-i.result)) ∙ ap (λ (w : Vertex). w.name) (sym is) in
    record {
      left = following-more view xs c.loop-i.i c.index-items-i.result (omega arith) c.index-items-i.is f value vs (path_text c.args.path.now) (item_at (path_text c.args.path.now) c.loop-i.i) all refl c.push.new.self pushed_value (sym same ∙ c.in_ok-vertex.ensures.read.0) c.loop-i.invariant.left;
      read = values-more view xs c.loop-i.i c.index-items-i.result (omega arith) c.index-items-i.is value vs c.push.new.self c.loop-i.invariant.read pushed_value;
      counted = rw (c.in_ok-names-2.ensures, length-append) (omega arith);
      named = names_more vs c.push.new.self v c.loop-i.names c.in_ok-names-2.names c.said_name.result.now pushed c.loop-i.invariant.named c.in_ok-names-2.ensures said;
      hung = devices_more vs c.push.new.self v c.loop-i.devices c.in_ok-devices.devices pushed c.loop-i.invariant.hung c.in_ok-devices.ensures;
      valid = rw pushed (All-push IsValidVertex vs v c.loop-i.invariant.valid c.in_ok-vertex.ensures.valid);
      different = different_more vs c.push.new.self v c.loop-i.devices pushed c.loop-i.invariant.hung c.in_ok-vertex.ensures.fresh c.loop-i.invariant.different;
    }

pub returns-clause-read : goal.returns-clause-read
returns-clause-read c =
    let xs = c.args.items.now in
    let f = next_vertex_faults c.args.version in
    let value = vertex_value c.args.version in
    (following-none view xs c.loop-i.i f value c.loop-i.vertices (path_text c.args.path.now) (following_faults f value [] (path_text c.args.path.now) 0 (map view xs)) (omega arith) c.loop-i.invariant.left, values-all view xs c.loop-i.i value c.loop-i.vertices (omega arith) c.loop-i.invariant.read)
