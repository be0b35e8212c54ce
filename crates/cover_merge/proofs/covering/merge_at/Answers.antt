-- What is known is carried over to the table after the merge, and its rivals are those that were renewed.
use Rattle.cover_merge.proofs.Common.{AreRoutesKept, AreStillKept, IsApart, IsKnown, IsKnownAt, IsLegal, IsMergeSet, IsRivaled, IsSound, Known, List, Rivals, Row, after, ap, arith, generality, get_or}
use Rattle.cover_merge.proofs.Common.{insert_place, length, merged_block, place_for, subst, sym, ℕ, ◌<◌, ◌^◌, ◌∙◌, ◌≡◌}
use Rattle.cover_merge.proofs.{ApplyLemmas.both_ok, ApplyLemmas.gaps_at, KeepLemmas.kept_over, covering.merge_at.Goals.After-carry_times}
use Rattle.cover_merge.proofs.covering.merge_at.Goals as goal

pub invariant_of-gaps : goal.invariant_of-gaps
invariant_of-gaps c =
    let rows = c.args.table.now.rows in
    let places = c.args.places.now in
    let set = c.requires.merge.0 in
    let block = c.merged_block-block.ensures ∙ ap (λ l. merged_block l c.as_slice-members.result.now) c.as_slice-rows.ensures ∙ ap (merged_block rows) c.as_slice-members.ensures in
    let place : c.place_in-place.result ≡ insert_place rows places =
    c.place_in-place.ensures.value ∙ ap (λ l. place_for l c.generality.result) c.as_slice-rows.ensures ∙ ap (place_for rows) (c.generality.ensures.value ∙ ap generality block) in
    let is = gaps_at rows places c.requires.known.told.rivaled.sound.ordered set.set.in_range c.as_slice-members.result.now c.place_in-place.result
    c.as_slice-members.ensures place set.set.ascending set.two in
    record { some = is.0; ascending = is.1; before = is.2 }

pub invariant_of-merge : goal.invariant_of-merge
invariant_of-merge c =
    let read = c.as_slice-rows.result.now in
    let members = c.as_slice-members.result.now in
    let merge = subst (λ l. (IsMergeSet l members) × (IsLegal l members)) (sym c.as_slice-rows.ensures)
    (subst (λ l. (IsMergeSet c.args.table.now.rows l) × (IsLegal c.args.table.now.rows l)) (sym c.as_slice-members.ensures) c.requires.merge) in record {
      few = subst (λ l. length l < 2 ^ 32) (sym c.as_slice-rows.ensures) c.requires.known.told.rivaled.few;
      sound = subst IsSound (sym c.as_slice-rows.ensures) c.requires.known.told.rivaled.sound;
      legal = record { set = merge.0; legal = merge.1; block = c.merged_block-block.ensures };
      place_is = c.place_in-place.ensures.value ∙ ap (place_for read) (c.generality.ensures.value ∙ ap generality c.merged_block-block.ensures);
      within = c.place_in-place.ensures.bound;
    }

-- what is known of rows is known of a table that has them
of_table : (now : ℕ) (rows table : List Row) (known : Known) → table ≡ rows → IsKnownAt now rows known → IsKnownAt now table known
of_table now rows table known is = subst (λ l. IsKnownAt now l known) (sym is)

pub forget-requires-clause-inside : goal.forget-requires-clause-inside
forget-requires-clause-inside c =
    let told = c.touch.ensures.known.told in
    let set = c.requires.merge.0 in
    let first : get_or c.as_slice-members.result.now 0 0 < length c.touch.new.known.numbers.items = grind (arith, get_or) in
    omega (
      arith,
      told.one_route,
      told.numbers.below (get_or c.as_slice-members.result.now 0 0) 0 first,
      ap
          (λ l. get_or l (get_or c.as_slice-members.result.now 0 0) 0) c.as_slice-numbers.ensures.value,
    )

-- all that is known is carried over, with the rivals that were renewed
carried_over : (c : After-carry_times) (rivals : Rivals) → let t = c.touch.new.known in let table = after c.as_slice-rows.result.now c.as_slice-members.result.now in IsRivaled table rivals
    → IsKnownAt c.args.now table (record { rivals = rivals; times = c.carry_times.new.times; numbers = c.carry_numbers.new.numbers; routes = t.routes; kept = c.forget.new.kept; latest = t.latest })
carried_over c rivals rivaled =
    let rows = c.as_slice-rows.result.now in
    let places = c.as_slice-members.result.now in
    let first = c.args.known.now in
    let start : IsKnown rows first = subst (λ l. IsKnown l first) (sym c.as_slice-rows.ensures) c.requires.known.told in
    let merge = subst (λ l. (IsMergeSet l places) × (IsLegal l places)) (sym c.as_slice-rows.ensures)
    (subst (λ l. (IsMergeSet c.args.table.now.rows l) × (IsLegal c.args.table.now.rows l)) (sym c.as_slice-members.ensures) c.requires.merge) in
    let t = c.touch.new.known in
    let old = c.touch.ensures.known.told in
    let kept = c.forget.new.kept.items in record {
      told = record {
        rivaled = rivaled;
        one_each = c.carry_times.ensures.one_each;
        one_time = old.one_time;
        latest = c.carry_times.ensures.latest t.routes.items t.latest.items old.latest c.touch.ensures.own;
        once = old.once;
        numbers = c.carry_numbers.ensures t.routes.items old.numbers;
        one_route = c.forget.ensures.one_each ∙ old.one_route;
        kept = subst (λ r. AreRoutesKept r (after rows places) kept) (sym c.touch.ensures.same.routes)
            (kept_over first.routes.items rows first.numbers.items first.kept.items t.kept.items kept places c.merged_block-block.result start.once start.numbers start.rivaled.sound
            (record { set = merge.0; legal = merge.1; block = c.merged_block-block.ensures }) start.kept c.touch.ensures.left
            (subst (λ n. AreStillKept (λ k it. (k ≡ get_or n (get_or places 0 0) 0 → ⊥) × (IsApart c.merged_block-block.result it)) t.kept.items kept)
            (c.as_slice-numbers.ensures.value ∙ c.touch.ensures.same.numbers) c.forget.ensures));
      };
      marks = c.carry_times.ensures.marks c.touch.ensures.known.marks c.touch.ensures.touched;
    }

pub returns-clause-known : goal.returns-clause-known
returns-clause-known c =
    both_ok c.merge_rows.result _ _ _ (λ table rivaled.
    let is : c.merge_rows.new.table.rows ≡ after c.as_slice-rows.result.now c.as_slice-members.result.now =
    table ∙ sym (ap (λ l. after l c.as_slice-members.result.now) c.as_slice-rows.ensures ∙ ap (after c.args.table.now.rows) c.as_slice-members.ensures) in
    of_table _ _ _ _ is (carried_over (goal.at.returns-clause-known c).After-carry_times c.merge_rows.new.rivals (subst (λ l. IsRivaled l c.merge_rows.new.rivals) is rivaled)))
    c.merge_rows.ensures.table c.merge_rows.ensures.rivaled
