-- Each generated job has a plan.
use Rattle.spin_jobs.proofs.Common.{CompileErr, CutOff, HasNoPlan, IsCompileCause, IsRoomy, Job, KeysOut, Memory, Names, NoRoom, Refusal, TableLong, arith, drawn, gen_joined, gen_keys, gen_queue}
use Rattle.spin_jobs.proofs.Common.{gen_room, is_drawn, length, length-numbered, net_of, subst, sym, ℕ, ◌≡◌, ◌≤◌}
use Rattle.job_gen.specs.Generated.{gen_job, graph_of, job_of_drawn}

-- a generated job has 300 nets
few_nets : (n : ℕ) → length (gen_job n).graph.nets ≤ 1024
unfolding gen_job job_of_drawn graph_of
few_nets n = let drawn' = is_drawn n in let many = drawn'.number_of_nets in let long = length-numbered net_of 0 (drawn n).nets in omega (arith, many, long)

none_for : (n : ℕ) (e : CompileErr) (r : Refusal) → IsCompileCause (gen_job n).machine (gen_job n).graph (gen_job n).run.target e → Names (gen_job n).graph e r → ⊥
none_for n (NoRoom v) r cause names = gen_room n v cause
none_for n (KeysOut i) r cause names = gen_keys n i cause.1
none_for n (CutOff i chip) r cause names = gen_joined n i cause.spots cause.memory chip cause.placed cause.first
none_for n (TableLong chip table) r cause names = let many = cause.2 in let few = few_nets n in absurd (omega (arith, many, few))
none_for n Memory r cause names = absurd names

pub generated_planned : (n : ℕ) (r : Refusal) → HasNoPlan (gen_job n) r → ⊥
generated_planned n r none = none_for n none.error r none.cause none.names

-- a generated job has room for all its packets in each queue
pub generated_roomy : (n : ℕ) (job : Job) → job ≡ gen_job n → IsRoomy job
generated_roomy n job is = let queue = gen_queue n in let roomy : IsRoomy (gen_job n) = omega (arith, queue) in subst IsRoomy (sym is) roomy
