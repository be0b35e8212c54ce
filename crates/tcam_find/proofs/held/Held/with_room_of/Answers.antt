use Rattle.std.proofs.Common.{length, arith, sym, subst, ap}
use Rattle.std.specs.Prelude.{IfSome}
use Rattle.tcam_find.specs.Memory.{HaveInCommon}
use Rattle.tcam_find.proofs.held.Held.with_room_of.Goals as goal

pub invariant_of-result : goal.invariant_of-result
invariant_of-result c =
    let same = c.roomier-groups.ensures.same in
    record {
      few = omega (arith, ap length same, c.args.self.few);
      knows = subst (λ gs. IfSome c.known_of-known.result (λ k. HaveInCommon gs k.value.common k.value.values)) (sym same)
          (c.known_of-known.ensures c.args.self.groups.items (omega (arith, c.len.ensures, c.args.self.groups.ok.0)) c.args.self.knows);
    }
