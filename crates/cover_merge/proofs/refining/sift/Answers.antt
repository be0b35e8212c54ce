-- Each place taken out is a step, and those behind it still pass the up-check.
use Rattle.cover_merge.proofs.Common.{All, AreMerges, IsLastFailing, IsOneRoute, IsTrue, IsUpStep, LeadsWithin, List, PassesUp, Row, ap, arith, generality, get_or, inl, length, length-remove}
use Rattle.cover_merge.proofs.Common.{length-take, merged_block, place_for, refl, remove, subst, sym, take, take-append-le, take-take, take_all, ℕ, ◌+◌, ◌-◌, ◌<◌, ◌↔◌, ◌∙◌, ◌≡◌, ◌≤◌}
use Rattle.cover_merge.proofs.{RefineLemmas.one_route_after, RefineLemmas.last_found, RefineLemmas.last_more, RefineLemmas.none_fails, KeptLemmasSteps.leads_on, SiftLemmas.all_pass}
use Rattle.cover_merge.proofs.{SiftLemmas.begins_less, SiftLemmas.sift_behind, SiftLemmas.sift_step, refining.sift.Goals.After-passes_at, refining.sift.Goals.After-remove}
use Rattle.cover_merge.proofs.refining.sift.Goals.{then-loop-i-test+else-len-ge2, else-loop-i-test}
use Rattle.cover_merge.proofs.refining.sift.Goals as goal

pub loop-i-init : goal.loop-i-init
loop-i-init c =
    let rows = c.args.table.rows.now in
    let xs = c.args.set.now.items in
    let known : AreMerges rows xs c.in_ok-merges.merges.items = subst (λ l. AreMerges rows l c.in_ok-merges.merges.items) c.deref.ensures.value c.in_ok-merges.ensures in record {
      within = omega (arith, c.len-i.ensures);
      fewer = omega arith;
      set = c.requires.set;
      some = omega (arith, c.requires.two);
      merge = grind (arith, take_all (c.len.result - 1 + 1) xs (omega (arith, c.len.ensures)));
      before = refl;
      behind = λ k low high. absurd (omega (arith, low, high, c.len-i.ensures));
      leads = λ outer low. LeadsWithin.stands xs;
    }

-- what the call says of the places that are left
tells : (c : After-passes_at) → (IsTrue c.passes_at.result)
    ↔ (PassesUp c.args.table.rows.now c.loop-i.set.items (get_or c.loop-i.set.items (c.loop-i.i - 1) 0) (place_for c.args.table.rows.now (generality c.loop-i.merged)))
tells c =
    subst (λ l. (IsTrue c.passes_at.result) ↔ (PassesUp c.args.table.rows.now l (get_or l (c.loop-i.i - 1) 0) (place_for c.args.table.rows.now (generality c.loop-i.merged)))) c.deref-in-loop-i.ensures.value
    (subst (λ g. (IsTrue c.passes_at.result) ↔ (PassesUp c.args.table.rows.now c.deref-in-loop-i.result.now (get_or c.deref-in-loop-i.result.now (c.loop-i.i - 1) 0) (place_for c.args.table.rows.now g)))
    c.generality.ensures.value c.passes_at.ensures)

module _ (c : After-remove) where
  abbrev rows : List Row
  rows = c.args.table.rows.now

  abbrev xs : List ℕ
  xs = c.loop-i.set.items

  abbrev p : ℕ
  p = place_for rows (generality c.loop-i.merged)

  abbrev new : List ℕ
  new = c.remove.new.self.items

  inside : c.loop-i.i - 1 < length xs
  inside = omega (arith, c.loop-i-test.true, c.loop-i.invariant.within)

  one_less : length new + 1 ≡ length xs
  one_less = ap (λ l. length l + 1) c.remove.ensures.items ∙ length-remove xs (c.loop-i.i - 1) inside

  two : 2 ≤ length xs
  two = omega (arith, c.if-len-ge2.true, c.len-in-loop-i.ensures)

  -- what is left begins as the set did
  begins : (n : ℕ) → n ≤ c.loop-i.i - 1 → take n new ≡ take n c.args.set.now.items
  begins n le = grind (arith, inside, begins_less, take-append-le, length-take, take-take)

  module _ (tell : (IsTrue c.passes_at.result) ↔ (PassesUp rows xs (get_or xs (c.loop-i.i - 1) 0) p)) where
    last : IsLastFailing rows xs p (get_or xs (c.loop-i.i - 1) 0)
    last = last_found rows xs p c.loop-i.i c.passes_at.result c.loop-i.invariant.set.ascending c.loop-i-test.true c.loop-i.invariant.within c.loop-i.invariant.behind tell c.if-not-passes_at.true

    step : IsUpStep rows xs new
    step = sift_step rows xs c.loop-i.invariant.set c.args.table.sound.ordered c.loop-i.merged c.loop-i.invariant.merge _ refl (c.loop-i.i - 1) inside last new c.remove.ensures.items one_less two

    one_route : IsOneRoute rows new
    one_route = one_route_after rows xs c.loop-i.invariant.set new (inl step)

pub invariant_of-left : goal.invariant_of-left
invariant_of-left c =
    let at = goal.at.invariant_of-left c in
    let here = at.After-remove in
    let is = c.deref-then-not-passes_at.ensures.value in
    let merges = c.deref-then-not-passes_at-2.ensures.value in
    let start = c.args.set.now.items in
    let known : AreMerges c.args.table.rows.now start c.in_ok-merges.merges.items = subst (λ l. AreMerges c.args.table.rows.now l c.in_ok-merges.merges.items) c.deref.ensures.value c.in_ok-merges.ensures in record {
      inside = subst (All (λ s. s < length c.args.table.rows.now)) (sym is) (one_route here (tells at.After-passes_at)).in_range;
      some = omega (arith, ap length is, one_less here, two here);
      known = grind (arith, get_or, begins);
      many = omega (arith, ap length merges, known.one_each, c.loop-i.invariant.within, c.loop-i.invariant.fewer);
    }

pub loop-i-preserved-then-not-passes_at : goal.loop-i-preserved-then-not-passes_at
loop-i-preserved-then-not-passes_at c =
    let at = goal.at.loop-i-preserved-then-not-passes_at c in
    let here = at.After-remove in
    let tell = tells at.After-passes_at in
    let old = c.loop-i.invariant in
    let less = one_less here in
    let merge : c.merge_from-merged.result ≡ merged_block (rows here) (new here) = c.merge_from-merged.ensures ∙ ap (merged_block (rows here)) c.deref-then-not-passes_at.ensures.value in record {
      within = omega (arith, less, old.within);
      fewer = omega (arith, less, old.fewer);
      set = one_route here tell;
      some = omega (arith, less, two here);
      merge = merge;
      before = begins here (c.loop-i.i - 1) (omega arith);
      behind = sift_behind (rows here) (xs here) old.set c.args.table.sound.ordered c.loop-i.merged old.merge _ refl (c.loop-i.i - 1) (inside here) (last here tell) (new here) c.remove.ensures.items less (two here)
          c.merge_from-merged.result merge _ refl;
      leads = λ outer low.
          leads_on (rows here) outer low c.args.set.now.items (xs here) (new here) (old.leads outer low) (LeadsWithin.leads_up (xs here) (new here) (new here) (two here) (step here tell) (LeadsWithin.stands (new here)));
    }

pub loop-i-preserved : goal.loop-i-preserved
loop-i-preserved c =
    let rows = c.args.table.rows.now in
    let now = c.loop-i.set.items in
    let i = c.loop-i.i in
    let old = c.loop-i.invariant in record {
      within = omega (arith, old.within);
      fewer = old.fewer;
      set = old.set;
      some = old.some;
      merge = old.merge;
      before = begins_less (i - 1) i now c.args.set.now.items (omega arith) old.before;
      behind = last_more rows now _ i c.passes_at.result c.loop-i-test.true old.behind (tells (goal.at.loop-i-preserved c).After-passes_at) c.if-not-passes_at.false;
      leads = old.leads;
    }

pub returns-clause-sifted : goal.returns-clause-sifted
returns-clause-sifted c =
    let rows = c.args.table.rows.now in
    let now = c.loop-i.set.items in
    let old = c.loop-i.invariant in
    let two : 2 ≤ length now = omega (arith, c.len-2.ensures, c.if-len-lt2.false) in
    let done : c.loop-i.i ≤ 0 = elim c.loop-i-test.branch [
      | then-loop-i-test+else-len-ge2 w ↦ absurd (omega (arith, two, w.if-len-ge2.false, w.len-in-loop-i.ensures))
      | else-loop-i-test w ↦ w.loop-i-test.false
    ] in record {
      one_route = old.set;
      steps = old.leads;
      found_is = (two, old.merge, all_pass rows now old.set c.args.table.sound.ordered c.loop-i.merged old.merge _ refl (none_fails rows now (place_for rows (generality c.loop-i.merged)) c.loop-i.i done old.behind));
    }
