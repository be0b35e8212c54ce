-- Each turn leaves a row out, or keeps its place.
use Rattle.default_routes.proofs.Common.{ap, arith, get_or, length, ◌-◌, ◌≡◌}
use Rattle.default_routes.proofs.StripLemmas.{kept_goes, kept_stays, in_range_more, none_kept, in_range_none, missed}
use Rattle.default_routes.proofs.stripping.kept_places.Goals as goal

pub loop-i-init : goal.loop-i-init
loop-i-init c = grind (arith, in_range_none, none_kept)

pub loop-i-preserved-in-Continue-1 : goal.loop-i-preserved-in-Continue-1
loop-i-preserved-in-Continue-1 c =
    let rows = c.args.sound.rows.now in
    let row = get_or rows (c.loop-i.i - 1) c.index-sound-i.result in
    let read : row ≡ get_or rows (c.loop-i.i - 1) row = ap (get_or rows (c.loop-i.i - 1)) c.index-sound-i.is in
    let v = c.loop-i.invariant in
    record {
      within = omega (arith, v.within);
      in_range = in_range_more (length rows) (c.loop-i.i - 1) c.loop-i.kept.items c.push.new.self.items v.in_range (omega (arith, v.within)) c.in_ok-push.ensures.items;
      kept = kept_stays rows c.loop-i.i c.loop-i.kept.items c.deref.result.now c.deref.ensures.value v.in_range row read c.loop-i-test.true v.within v.kept
          (c.if-not-can_go.ensures (λ apart. missed rows c.loop-i.kept.items c.deref.result.now c.deref.ensures.value c.loop-i.i row read
          (c.are_apart-apart.ensures apart) v.in_range c.loop-i-test.true v.within v.kept)) c.push.new.self.items c.in_ok-push.ensures.items;
    }

pub loop-i-preserved : goal.loop-i-preserved
loop-i-preserved c =
    let rows = c.args.sound.rows.now in
    let row = get_or rows (c.loop-i.i - 1) c.index-sound-i.result in
    let read : row ≡ get_or rows (c.loop-i.i - 1) row = ap (get_or rows (c.loop-i.i - 1)) c.index-sound-i.is in
    let v = c.loop-i.invariant in
    record {
      within = omega (arith, v.within);
      in_range = v.in_range;
      kept = kept_goes rows c.loop-i.i c.loop-i.kept.items c.deref.result.now c.deref.ensures.value v.in_range row read c.loop-i-test.true v.within v.kept
          (c.if-not-can_go.ensures (λ apart. missed rows c.loop-i.kept.items c.deref.result.now c.deref.ensures.value c.loop-i.i row read
          (c.are_apart-apart.ensures apart) v.in_range c.loop-i-test.true v.within v.kept));
    }
