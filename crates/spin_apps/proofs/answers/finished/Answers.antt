use Rattle.spin_apps.proofs.Common.{IsOk, Memory, Result, refl, subst, sym}
use Rattle.spin_apps.proofs.answers.finished.Goals as goal

pub returns-in-Ok : goal.returns-in-Ok
returns-in-Ok c = record {
  done = subst (λ (r : Result Unit Memory). IsOk r) (sym c.in-Ok.is) refl;
  text_is = rw (c.from_vec.ensures, c.into_bytes.ensures.value);
  apps_is = refl;
}
