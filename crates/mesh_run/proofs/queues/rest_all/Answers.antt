use Rattle.mesh_run.proofs.Common.{Bool, LinkEnds, List, RestAll, Rested, WasUp, ap, arith, free_places_of, min, nat_eq, subst, sym, ◌&&◌, ◌∙◌, ◌≡◌}
use Rattle.mesh_run.proofs.{Holding.only_ends, Resting.all_rest, Resting.links_past, Resting.next_at, Resting.next_was, Resting.one_rests, Resting.rest_inside, Resting.rest_places}
use Rattle.mesh_run.proofs.queues.rest_all.Goals.{then-quiet, else-quiet}
use Rattle.mesh_run.proofs.queues.rest_all.Goals as goal

pub rest_at-held-requires : goal.rest_at-held-requires
rest_at-held-requires g c =
    let h = c.loop-place.invariant in
    let n = next_at h.3.so_far h.1 (c.len-place-end.ensures ∙ c.args.standing.now.links.ok.0) c.loop-place-test.true in
    (h.3.so_far.now, n.old, h.3.so_far.holds, n.stands, (next_was (WasUp c.args.cap) h.2 n).ends)

pub index-requires : goal.index-requires
index-requires g c =
    let h = c.loop-place.invariant in
    let n = next_at h.3.so_far h.1 (c.len-place-end.ensures ∙ c.args.standing.now.links.ok.0) c.loop-place-test.true in
    let inside = rest_inside n.stands (c.rest_at-held.ensures h.3.so_far.now n.old h.3.so_far.holds n.stands) in
    omega (arith, inside, c.rest_at-held.new.standing.links.ok.0)

pub loop-place-preserved : goal.loop-place-preserved
loop-place-preserved g c =
    let h = c.loop-place.invariant in
    let n = next_at h.3.so_far h.1 (c.len-place-end.ensures ∙ c.args.standing.now.links.ok.0) c.loop-place-test.true in
    let r = c.rest_at-held.ensures h.3.so_far.now n.old h.3.so_far.holds n.stands in
    let free : c.min-free.result ≡ min c.loop-place.free (free_places_of c.args.cap c.places.result c.rest_at-held.result) = c.min-free.ensures ∙ ap (min c.loop-place.free) c.free_places.ensures in
    let quiet : c.if-quiet.quiet ≡ (c.loop-place.quiet && nat_eq c.rest_at-held.result 0) = elim c.if-quiet.branch [
      | then-quiet w ↦ w.quiet-is ∙ ap (λ (b : Bool). b && nat_eq c.rest_at-held.result 0) (sym w.if-quiet.true)
      | else-quiet w ↦ w.quiet-is ∙ (w.if-quiet.false ∙ ap (λ (b : Bool). b && nat_eq c.rest_at-held.result 0) (sym w.if-quiet.false))
    ] in
    (h.0, h.1, h.2, one_rests h.3 n h.2 r (rest_places n.stands r c.index.ensures c.places.ensures) free quiet)

pub returns : goal.returns
returns g c = λ ends holds.
    let h = c.loop-place.invariant in
    let rested : Rested = record { quiet = c.loop-place.quiet; free = c.loop-place.free } in
    subst (λ (l : List LinkEnds). RestAll c.args.cap l c.loop-place.standing rested) (only_ends h.0 ends c.args.standing.now h.1 holds)
    (all_rest rested h.3 (links_past h.3.so_far h.1 (c.len-place-end.ensures ∙ c.args.standing.now.links.ok.0) c.loop-place-test.false))
