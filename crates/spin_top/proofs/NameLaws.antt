-- That no name stands twice in the job that a word gives.
use Rattle.std.proofs.Common.{ℕ, List, sym, subst}
use Rattle.job_readers.specs.{Named.HasNamesApart, declared.jobs.Job.Job}
use Rattle.par_compile.specs.declared.compiling.Plan.{Plan}
use Rattle.spin_words.specs.declared.commands.JobWord.{JobWord}
use Rattle.spin_jobs.specs.{declared.outcomes.Parts.Parts, Parts.WhereGiven, Words.IsMadeOf, Words.ran, Words.reinjected, Words.traced, Words.imaged, Words.listed, Words.generated}

abbrev pub HasNames : Job → Plan → Type 0
HasNames job plan = HasNamesApart job.graph

-- the parts have the names of their job apart
abbrev WhereNamed : Parts → Type 0
WhereNamed parts = WhereGiven parts HasNames

pub names_given : (w : JobWord) (job : Job) (parts : Parts) (text : List ℕ) → IsMadeOf w job parts text → HasNamesApart job.graph → WhereGiven parts HasNames
names_given w job parts text m apart = elim m.makes [
  | ran is r ↦ subst WhereNamed (sym r.4) apart
  | reinjected is r ↦ subst WhereNamed (sym r.4) apart
  | traced is r ↦ subst WhereNamed (sym r.4) apart
  | imaged is l ↦ subst WhereNamed (sym l.given) apart
  | listed is l ↦ subst WhereNamed (sym l.0) apart
  | generated n is r ↦ subst WhereNamed (sym r.4) apart
]
