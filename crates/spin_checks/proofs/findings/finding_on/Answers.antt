use Rattle.spin_checks.proofs.Common.{Image, IsLoaded, IsMisrouted, Judged, Verdict, subst, sym, ◌≡◌}
use Rattle.spin_checks.proofs.OneVerdict.{wrong_named}
use Rattle.spin_checks.proofs.findings.finding_on.Goals as goal

same_verdict : (a b : Verdict) → Judged a ≡ Judged b → a ≡ b
same_verdict a b same = cc

pub returns-clause-wrong : goal.returns-clause-wrong
returns-clause-wrong c = λ i chip key is.
    let verdict = same_verdict _ _ is in
    let of =
    wrong_named c.args.standing.machine.now c.in-Ok.image c.args.standing.nets.now c.check.result i chip key
    (λ memories net. IsMisrouted c.args.standing.machine.now memories net chip key) (IsLoaded c.in-Ok.image)
    c.check.ensures.verdict verdict (c.check.ensures.wrong i chip key verdict) in (
      of.0,
      of.1,
      λ v memories spelled loaded.
          let same : c.in-Ok.image ≡ v = c.in-Ok.ensures.only v spelled in
          of.2 memories (subst (λ (w : Image). IsLoaded w memories) (sym same) loaded),
    )
