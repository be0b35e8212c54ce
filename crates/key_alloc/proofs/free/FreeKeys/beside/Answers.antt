use Rattle.key_alloc.proofs.Common.{All-replicate, AreRuns, IsOpenPlace, Start, ap, arith, false, hole_of, in_range, is_free, is_hole_range, nat_tests, not, refl, subst, true, ℕ, ◌&&◌, ◌∙◌, ◌≡◌, ◌≤◌}
use Rattle.key_alloc.proofs.Frontier.{at_start}
use Rattle.key_alloc.proofs.free.FreeKeys.beside.Goals as goal

nothing_left : (k : ℕ) → (is_free (hole_of 0 4294967296) k && not (in_range 0 4294967296 k)) ≡ false
nothing_left k = grind (arith, nat_tests)

pub returns : goal.returns
returns c =
    let all = c.in_ok-below.ensures in
    let size = c.in_ok-take_at.ensures.size ∙ all.0 in
    let whole : c.in_ok-take_at.field-0 ≡ true = c.in_ok-take_at.ensures.found ∙ ap (λ holes. is_hole_range holes 0 4294967296) all.1 in
    record {
      free = λ taken moved. at_start taken c.args.fixed.blocks.items _ moved c.args.fixed.downwards c.args.fixed.ranges refl refl size
          (subst (λ n. AreRuns 0 n c.take_at.new.self.holes) size c.in_ok-take_at.ensures.runs)
          (λ k. c.in_ok-take_at.ensures.free whole k ∙ ap (λ holes. is_free holes k && not (in_range 0 4294967296 k)) all.1 ∙ nothing_left k)
          (All-replicate (λ (s : Start). (p : ℕ) → IsOpenPlace taken s.keys p → s.place ≤ p) 33 (record { keys = 0; place = 0 }) (λ p o. omega arith));
    }
