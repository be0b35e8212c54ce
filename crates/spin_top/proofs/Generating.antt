-- The text of a number is read as its job.
use Rattle.std.proofs.Common.{◌≡◌, ◌⊎◌, ℕ, List, Some, Ok, Err, sym, ap, ◌∙◌, inl, inr}
use Rattle.job_gen.specs.{Generated.gen_job, Values.gen_value}
use Rattle.job_gen.proofs.JobReading.{generated_clean, generated_is}
use Rattle.job_text.specs.Json.{json_of}
use Rattle.job_readers.specs.{declared.jobs.Job.Job, WholeJob.job_value}
use Rattle.run_report.specs.declared.causes.Refusal.{Refusal}
use Rattle.run_report.specs.declared.causes.Refusal.TheVariants as refusals
use Rattle.spin_input.specs.{Kinds.input_by, Jobs.job_from, Jobs.job_of}

-- the job of a number
of_value : (k : ℕ) → job_of (gen_value k) ≡ Ok (gen_job k)
unfolding job_of
of_value k = ap (λ fs. input_by fs (job_value (gen_value k))) (generated_clean k) ∙ ap Ok (generated_is k)

of_text : (n : ℕ) (text bytes : List ℕ) → json_of text ≡ Some (gen_value n) → bytes ≡ text → job_from (json_of bytes) ≡ Ok (gen_job n)
of_text n text bytes reads same = ap (λ b. job_from (json_of b)) same ∙ (ap job_from reads ∙ of_value n)

pub is_generated : (n : ℕ) (text bytes : List ℕ) (job : Job) → json_of text ≡ Some (gen_value n) → bytes ≡ text → job_from (json_of bytes) ≡ Ok job → job ≡ gen_job n
is_generated n text bytes job reads same is =
    let both : Ok job ≡ Ok (gen_job n) = sym is ∙ of_text n text bytes reads same in
    cc

-- So it is refused only where memory ran out.
pub only_memory : (n : ℕ) (text bytes : List ℕ) (r : Refusal) → json_of text ≡ Some (gen_value n) → bytes ≡ text → (job_from (json_of bytes) ≡ Err r) ⊎ (r ≡ refusals.Memory) →
    r ≡ refusals.Memory
only_memory n text bytes r reads same (inl refused) = absurd (let both : Ok (gen_job n) ≡ Err r = sym (of_text n text bytes reads same) ∙ refused in cc)
only_memory n text bytes r reads same (inr memory) = memory
