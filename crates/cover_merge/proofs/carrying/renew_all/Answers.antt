-- One row more has its rivals after the merge.
use Rattle.cover_merge.proofs.Common.{AllPairs, AreRivalsAt, IsPutIn, List, Rival, [], arith, get_or, merged_block, refl, rivals_left, subst, sym, ℕ, ◌∙◌, ◌≡◌, ◌≢◌, ◌≤◌}
use Rattle.cover_merge.proofs.RivalAfter.{next_list, one_renewed, all_renewed}
use Rattle.cover_merge.proofs.carrying.renew_all.Goals as goal

pub loop-k-preserved : goal.loop-k-preserved
loop-k-preserved c =
    let rows = c.args.rows.now in
    let places = c.args.places.now in
    let old = c.requires.rivaled in
    let so_far = c.loop-k.invariant in
    let now = c.in_ok-renew.ensures in
    let s = get_or c.args.met.now c.loop-k.k 0 in
    let next : AreRivalsAt rows c.args.rivals.now.serials.items s (get_or c.loop-k.rivals.of.items (get_or c.args.rivals.now.serials.items s 0) []) =
    next_list rows c.args.rivals.now.serials.items places (merged_block rows places) c.args.merged c.args.met.now c.requires.met c.args.rivals.now.of.items
    old.each old.apart c.requires.merge.set c.loop-k.k c.loop-k.rivals.of.items c.loop-k-test.true so_far.lists in
    let ordered : AllPairs (λ (v w : Rival). v.general ≤ w.general) (get_or c.loop-k.rivals.of.items (get_or c.loop-k.rivals.serials.items s 0) []) =
    subst (λ (l : List ℕ). AllPairs (λ (v w : Rival). v.general ≤ w.general) (get_or c.loop-k.rivals.of.items (get_or l s 0) [])) (sym so_far.serials) next.ordered in record {
      serials = now.serials ∙ so_far.serials;
      one_each = now.one_each ∙ so_far.one_each;
      spans = now.spans ∙ so_far.spans;
      lists =
          one_renewed rows c.args.rivals.now.serials.items places (merged_block rows places) c.args.merged c.args.met.now c.requires.met c.args.rivals.now.of.items
          old.each old.apart c.requires.merge.set c.loop-k.k c.loop-k.rivals.of.items c.renew.new.rivals.of.items c.loop-k-test.true so_far.lists
          (subst (λ (l : List ℕ). IsPutIn c.args.merged (rivals_left l places (get_or c.loop-k.rivals.of.items (get_or l s 0) [])) (get_or c.renew.new.rivals.of.items (get_or l s 0) [])) so_far.serials (now.own ordered))
          (subst (λ (l : List ℕ). (n : ℕ) → n ≢ get_or l s 0 → get_or c.renew.new.rivals.of.items n [] ≡ get_or c.loop-k.rivals.of.items n []) so_far.serials now.others);
    }

pub returns-clause-after : goal.returns-clause-after
returns-clause-after c =
    let rows = c.args.rows.now in
    let old = c.requires.rivaled in
    all_renewed rows c.args.rivals.now.serials.items c.args.places.now (merged_block rows c.args.places.now) c.args.merged c.args.met.now c.requires.met c.args.rivals.now.of.items
    old.each old.apart c.requires.merge.set c.loop-k.k c.loop-k.rivals.of.items refl (omega (arith, c.loop-k.auto.k-end, c.loop-k-test.false)) c.loop-k.invariant.lists
