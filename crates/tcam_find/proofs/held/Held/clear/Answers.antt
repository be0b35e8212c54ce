use Rattle.std.proofs.Common.{rules, ◌/◌, ◌%◌, ◌∙◌, length, arith, sym, subst, ap, slice_set}
use Rattle.std.specs.Prelude.{IfSome}
use Rattle.std.proofs.lemmas.{List.length-set, Option.IfSome_then}
use Rattle.spin_base.proofs.Places.{slice_get_there}
use Rattle.tcam_find.specs.Memory.{HaveInCommon, entries_held, entries_in}
use Rattle.tcam_find.proofs.MemoryLemmas.{clear_behind, common_cleared, set_in_held}
use Rattle.tcam_find.proofs.held.Held.clear.Goals as goal

pub returns-then-place-len : goal.returns-then-place-len
returns-then-place-len c = search (rules, clear_behind)

pub invariant_of-self : goal.invariant_of-self
invariant_of-self c =
    let groups = c.args.self.now.groups.items in
    let group = c.args.place / 8 in
    let at = slice_get_there groups group (omega (arith, c.if-place-len.false, c.len.ensures, c.args.self.now.groups.ok.0)) in
    let put = c.put.ensures.one at.0 at.1 in
    record {
      few = omega (arith, c.args.self.now.few, ap length put.2, length-set groups group put.0);
      knows = subst (λ gs. IfSome c.args.self.now.known (λ k. HaveInCommon gs k.value.common k.value.values)) (sym put.2)
          (IfSome_then c.args.self.now.known c.args.self.now.knows
          (λ x was. common_cleared groups x.value.common x.value.values group (c.args.place % 8) at.0 put.0 at.1
          (put.1 ∙ ap (slice_set (entries_in at.0) (c.args.place % 8)) c.unused.ensures) was));
    }

pub returns : goal.returns
returns c =
    let groups = c.args.self.now.groups.items in
    let at = slice_get_there groups (c.args.place / 8) (omega (arith, c.if-place-len.false, c.len.ensures, c.args.self.now.groups.ok.0)) in
    let put = c.put.ensures.one at.0 at.1 in
    ap entries_held put.2
    ∙ set_in_held groups (c.args.place / 8) (c.args.place % 8) at.0 put.0 c.unused.result at.1 (omega arith) put.1
    ∙ ap (λ n. slice_set (entries_held groups) n c.unused.result) (omega arith)
    ∙ ap (slice_set (entries_held groups) c.args.place) c.unused.ensures
