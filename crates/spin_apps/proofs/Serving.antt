-- A host after what was done on it.
use Rattle.spin_apps.proofs.Common.{AppPlan, AreApps, AreFreeOn, Board, Description, Ended, Err, HasAddedLine, HasDrained, HasLoaded, HasUnloaded, Host, IfOk, List, Ok, OnErr, OnOk, Option, Result}
use Rattle.spin_apps.proofs.Common.{Run, Some, State, ap, free_but, free_machine, refl, run_line, subst, sym, ℕ, ◌++◌, ◌≡◌}
use Rattle.spin_apps.proofs.Keeping.{loaded_free}

loaded_machine : (old new : Host) (number : ℕ) (plan : AppPlan) → HasLoaded old number plan new → new.mesh.setup.machine ≡ old.mesh.setup.machine
loaded_machine old new number plan loaded = ap (λ (s : State). s.setup.machine) loaded.mesh

unloaded_machine : (old new : Host) (number : ℕ) (ended : Ended) → HasUnloaded old number ended new → new.mesh.setup.machine ≡ old.mesh.setup.machine
unloaded_machine old new number ended unloaded = ap (λ (s : State). s.setup.machine) unloaded.mesh

-- whatever a load or an unload answers, the machine is the same
pub machine_after_load : {X E : Type 0} (r : Result X E) (old new : Host) (number : ℕ) (plan : AppPlan) → OnOk r (HasLoaded old number plan new) → OnErr r (new ≡ old) →
    new.mesh.setup.machine ≡ old.mesh.setup.machine
machine_after_load (Ok u) old new number plan loaded refused = loaded_machine old new number plan loaded
machine_after_load (Err e) old new number plan loaded refused = ap (λ (h : Host). h.mesh.setup.machine) refused

pub machine_after_unload : {E : Type 0} (r : Result Ended E) (old new : Host) (number : ℕ) → IfOk r (λ ended. HasUnloaded old number ended new) → OnErr r (new ≡ old) →
    new.mesh.setup.machine ≡ old.mesh.setup.machine
machine_after_unload (Ok ended) old new number unloaded refused = unloaded_machine old new number ended unloaded
machine_after_unload (Err e) old new number unloaded refused = ap (λ (h : Host). h.mesh.setup.machine) refused

-- a run that was told
pub told_run : {X E : Type 0} (r : Result X E) (before : Option Host) (old new : Host) (text longer : List ℕ) → before ≡ Some old → HasDrained old new → AreApps new →
    OnOk r (longer ≡ text ++ run_line) → OnOk r (HasAddedLine Run before text longer (Some new))
told_run (Ok u) before old new text longer is drained apps told =
    subst (λ (h : Option Host). HasAddedLine Run h text longer (Some new)) (sym is) (record { told = run_line; longer = told; answers = (refl, (new, refl, drained)); apps = apps })
told_run (Err e) before old new text longer is drained apps told = tt

-- a board after a load, or after its refusal
pub free_after_load : (old new : Host) (number : ℕ) (plan : AppPlan) (b : Board) → HasLoaded old number plan new → AreFreeOn (free_but old plan.spots) b → AreFreeOn (free_machine new) b
free_after_load old new number plan b loaded taken = subst (λ (m : Description). AreFreeOn m b) (sym (loaded_free old new number plan loaded)) taken

pub free_after_refusal : (old new : Host) (b : Board) → new ≡ old → AreFreeOn (free_machine old) b → AreFreeOn (free_machine new) b
free_after_refusal old new b same free = subst (λ (h : Host). AreFreeOn (free_machine h) b) (sym same) free
