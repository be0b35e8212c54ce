use Rattle.job_readers.proofs.run_parts.run_of.Goals as goal

pub invariant_of-valid : goal.invariant_of-valid
invariant_of-valid c = record { valid = ∣ c.requires ∣₁ }
