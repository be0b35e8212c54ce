use Rattle.link_detours.proofs.Common.{ap, arith, below_six, div-add-mod', inside_parts, lit<, mod_below, ◌%◌, ◌*◌, ◌+◌, ◌/◌, ◌<◌, ◌∙◌}
use Rattle.link_detours.proofs.{RoadBits.RoadsTo-more, Searching.dir_number_at}
use Rattle.link_detours.proofs.roads.Roads.of.Goals as goal

pub loop-place-preserved : goal.loop-place-preserved
loop-place-preserved c =
    rw c.in_ok-push.ensures.items
    (RoadsTo-more c.args.machine.now c.loop-place.words.items c.loop-place.place (c.loop-place.place / 6) c.road_word.result _
    (ap (λ n. c.loop-place.place / 6 * 6 + n) (dir_number_at (c.loop-place.place % 6) _ (mod_below c.loop-place.place 6 (lit< tt))) ∙ div-add-mod' c.loop-place.place 6)
    c.road_word.ensures c.loop-place.invariant)

pub returns : goal.returns
returns c = grind (arith, inside_parts, below_six)
