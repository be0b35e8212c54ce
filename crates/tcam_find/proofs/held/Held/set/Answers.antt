use Rattle.std.proofs.Common.{◌/◌, ◌%◌, ◌∙◌, length, arith, sym, subst, ap, slice_set}
use Rattle.std.specs.Prelude.{IfSome}
use Rattle.std.proofs.lemmas.{List.length-set, Option.IfSome_then}
use Rattle.spin_base.proofs.Places.{slice_get_there}
use Rattle.tcam_find.specs.Memory.{HaveInCommon, entries_held}
use Rattle.tcam_find.proofs.MemoryLemmas.{set_in_held}
use Rattle.tcam_find.proofs.held.Held.set.Goals as goal

pub invariant_of-self : goal.invariant_of-self
invariant_of-self c =
    let mid = c.lengthen.new.groups.items in
    let group = c.args.place / 8 in
    let at = slice_get_there mid group (omega (arith, c.lengthen.ensures.long)) in
    let put = c.put.ensures.one at.0 at.1 in
    record {
      few = omega (arith, (c.lengthen.ensures.same (omega arith)).few c.args.self.now.few, ap length put.2, length-set mid group put.0);
      knows = subst (λ gs. IfSome c.put_known.new.known (λ k. HaveInCommon gs k.value.common k.value.values)) (sym put.2)
          (c.put_known.ensures mid (c.args.place % 8) at.0 put.0 at.1 put.1
          (IfSome_then c.args.self.now.known c.args.self.now.knows (λ x was. (c.lengthen.ensures.same (omega arith)).others x.value.common x.value.values was)));
    }

pub returns-clause-one : goal.returns-clause-one
returns-clause-one c =
    let mid = c.lengthen.new.groups.items in
    let at = slice_get_there mid (c.args.place / 8) (omega (arith, c.lengthen.ensures.long)) in
    let put = c.put.ensures.one at.0 at.1 in
    ap entries_held put.2
    ∙ set_in_held mid (c.args.place / 8) (c.args.place % 8) at.0 put.0 c.args.e at.1 (omega arith) put.1
    ∙ ap (λ n. slice_set (entries_held mid) n c.args.e) (omega arith)
    ∙ ap (λ es. slice_set es c.args.place c.args.e) (c.lengthen.ensures.same (omega arith)).held
