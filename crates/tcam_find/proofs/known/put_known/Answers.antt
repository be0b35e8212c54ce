use Rattle.std.proofs.Common.{sym, subst}
use Rattle.std.specs.Prelude.{IfSome}
use Rattle.tcam_find.specs.{declared.known.Known.Known, Memory.HaveInCommon}
use Rattle.tcam_find.proofs.MemoryLemmas.{common_after}
use Rattle.tcam_find.proofs.known.put_known.Goals as goal

pub returns-in-Some : goal.returns-in-Some
returns-in-Some c gs lane g h got put knows =
    let old = c.deref_mut.result.now in
    let new = c.put.new.self in
    common_after gs old.common old.values new.common new.values c.args.group lane g h c.args.e got put
    (subst (λ (k : Known). HaveInCommon gs k.common k.values) (sym c.deref_mut.ensures.value)
    (subst (λ o. IfSome o (λ k. HaveInCommon gs k.value.common k.value.values)) c.in-Some.is knows))
    c.put.ensures.others c.put.ensures.entry
