-- The rivals of all rows that stay are those after the merge, and those of the merged row are found.
use Rattle.cover_merge.proofs.Common.{AreRivalsAfter, AreRivalsAt, AreSpansOf, IsRivaled, IsSound, List, Rivals, Row, [], after, ap, arith, generality, get_or, get_or_default, insert, insert_place}
use Rattle.cover_merge.proofs.Common.{length, merged_block, subst, sym, ℕ, ◌+◌, ◌-◌, ◌<◌, ◌∙◌, ◌≡◌}
use Rattle.cover_merge.proofs.{ApplyLemmas.left, ApplyLemmas.gaps_at, KeptLemmasMoved.merged_at, RivalAfter.place_is, RivalAfter.stands_at, RivalAfter.carried_length, RivalAfter.at_inside}
use Rattle.cover_merge.proofs.{RivalAfter.rivaled_after, carrying.merge_rows.Goals.After-place_in-place, carrying.merge_rows.Goals.After-replace_all}
use Rattle.cover_merge.proofs.carrying.merge_rows.Goals as goal

-- the place is the insertion place
place_here : (c : After-place_in-place) → c.place_in-place.result ≡ insert_place c.args.table.now.rows c.args.places.now
place_here c = grind (arith, place_is)

-- and the merged row stands before it by as many as are merged
stands_here : (c : After-place_in-place) → merged_at c.args.table.now.rows c.args.places.now + length c.as_slice-members.result.now ≡ c.place_in-place.result
stands_here c = grind (arith, merged_at c.args.table.now.rows c.args.places.now, stands_at c.args.table.now.rows c.args.places.now c.requires.rivaled.sound c.requires.merge.set, place_here c)

-- the numbers are carried over
serials_here : (c : After-replace_all) → c.replace_all.new.items.items ≡ left c.args.places.now 0 (insert c.args.rivals.now.serials.items (insert_place c.args.table.now.rows c.args.places.now) (length c.args.rivals.now.of.items))
serials_here c = grind (arith, place_here, left)

pub invariant_of-gaps : goal.invariant_of-gaps
invariant_of-gaps c =
    let set = c.requires.merge.set in
    let is = gaps_at c.args.table.now.rows c.args.places.now c.requires.rivaled.sound.ordered set.set.in_range c.as_slice-members.result.now c.place_in-place.result c.as_slice-members.ensures
    (place_here (goal.at.invariant_of-gaps c).After-place_in-place) set.set.ascending set.two in
    record { some = is.0; ascending = is.1; before = is.2 }

pub overflow_sub-at : goal.overflow_sub-at
overflow_sub-at c = omega (arith, stands_here (goal.at.overflow_sub-at c).After-place_in-place)

pub invariant_of-row : goal.invariant_of-row
invariant_of-row c =
    let rows = c.args.table.now.rows in
    let old = c.requires.rivaled in
    let serials = c.args.rivals.now.serials.items in
    let n = length c.args.rivals.now.of.items in
    let read = c.as_slice-rows.ensures ∙ c.in_ok-apply.ensures.ok in record {
      sound = subst IsSound (sym read) c.requires.merge.legal;
      one_each = grind (arith, serials_here (goal.at.invariant_of-row c).After-replace_all, carried_length rows c.args.places.now old.sound c.requires.merge.set serials old.one_each n);
      inside = omega (arith, stands_here (goal.at.invariant_of-row c).After-place_in-place, ap length read, at_inside rows c.args.places.now old.sound c.requires.merge.set serials old.one_each n);
    }

pub returns-clause-rivaled : goal.returns-clause-rivaled
returns-clause-rivaled c =
    let rows = c.args.table.now.rows in
    let places = c.args.places.now in
    let old = c.requires.rivaled in
    let serials = c.args.rivals.now.serials.items in
    let n = length c.args.rivals.now.of.items in
    let merged = c.merged_rival-merged.result in
    let told = c.merged_rival-merged.ensures in
    let of = c.renew_all.new.rivals.of.items in
    let list = c.in_ok-list.list in
    let rivals : Rivals = record { serials = c.replace_all.new.items; of = c.push.new.self; spans = c.push-2.new.self } in
    let numbers = serials_here (goal.at.returns-clause-rivaled c).After-replace_all in
    let stands = stands_here (goal.at.returns-clause-rivaled c).After-place_in-place in
    let after_is = c.in_ok-apply.ensures.ok in
    let new = after rows places in
    let carried = left places 0 (insert serials (insert_place rows places) n) in
    let read = c.as_slice-rows.ensures ∙ after_is in
    let at_is : c.place_in-place.result - length c.as_slice-members.result.now ≡ merged_at rows places = omega (arith, stands) in
    let general : merged.general ≡ generality (merged_block rows places) = rw (c.as_slice.ensures, c.as_slice-members.ensures) at told.general in
    let bits : (d : Row) → merged.bits ≡ (get_or rows (get_or places 0 0) d).route.bits = λ d. rw (c.as_slice.ensures, c.as_slice-members.ensures) at (told.bits d) in
    let renewed : (s : ℕ) → s < length rows → AreRivalsAfter rows serials places (merged_block rows places) merged s (get_or of (get_or serials s 0) []) =
    rw (c.as_slice-2.ensures, c.as_slice-members.ensures) at c.in_ok-renew_all.ensures.after in
    let own : AreRivalsAt new carried (merged_at rows places) list = rw (read, c.deref.ensures.value ∙ numbers, at_is) at c.in_ok-list.ensures in
    let its = c.in_ok-spans.spans in
    let at = c.place_in-place.result - length c.as_slice-members.result.now in
    let inside : at < length c.as_slice-rows.result.now = omega (arith, stands, ap length read, at_inside rows places old.sound c.requires.merge.set serials old.one_each n) in
    let spans = c.renew_all.new.rivals.spans.items in
    let same_spans = c.in_ok-renew_all.ensures.spans in
    let own_spans : (d : Row) → AreSpansOf (get_or new (merged_at rows places) d).aliases its =
    subst (λ (m : ℕ). (d : Row) → AreSpansOf (get_or new m d).aliases its) at_is
    (subst (λ (l : List Row). (d : Row) → AreSpansOf (get_or l at d).aliases its) read
    (λ d. subst (λ l. AreSpansOf l its) (c.as_slice-4.ensures ∙ ap (λ (x : Row). x.aliases) (get_or_default c.as_slice-rows.result.now at c.index-rows-at.result d inside)) c.in_ok-spans.ensures)) in
    subst (λ (l : List Row). IsRivaled l rivals) (sym after_is)
    (rivaled_after rows places old.sound c.requires.merge.set serials old.one_each n c.requires.merge.legal old.below old.apart merged told.serial general bits old.few of list rivals
    c.in_ok-renew_all.ensures.one_each renewed own numbers c.in_ok-push.ensures.items spans its (ap length same_spans ∙ old.as_many)
    (subst (λ l. (s : ℕ) (d : Row) → s < length rows → AreSpansOf (get_or rows s d).aliases (get_or l (get_or serials s 0) [])) (sym same_spans) old.spanned) own_spans c.in_ok-push-2.ensures.items)
