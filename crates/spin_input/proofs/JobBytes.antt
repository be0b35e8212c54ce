-- Which input bytes are, and what a source that tells its bytes gave.
use Rattle.std.proofs.Common.{◌≡◌, ◌⊎◌, inl, inr, ℕ, ◌<◌, ◌≤◌, List, [], ◌∷◌, ◌++◌, length, nat_lt, Bool, true, false, Option, Some, None, Result, Ok, Err, IfOk, IfErr, refl, sym, ap, ◌∙◌, subst}
use Rattle.std.proofs.Common.{arith}
use Rattle.std.specs.{Prelude.MatchResult, Result.IsErr, Result.IsErrAnd}
use Rattle.std.proofs.lemmas.{Bool.cond-true, Bool.cond-false, Bool.lt-ltb, Bool.ltb-true, List.append-nil, List.length-append}
use Rattle.serde_json.specs.Data.{Data}
use Rattle.job_text.specs.{declared.faults.JobFault.JobFault, declared.faults.TextErr.TextErr, declared.parses.ParseErr.ParseErr, Reading.GivesOrFaults, Reading.first, Json.json_of}
use Rattle.job_text.specs.declared.faults.TextErr.TheVariants as texts
use Rattle.job_text.specs.declared.parses.ParseErr.TheVariants as parses
use Rattle.spin_base.specs.{Outside.FaultsRose, Outside.GivesAll, Outside.LosesAtMost, Outside.LosesFront, Outside.LosesMoreThan, declared.reading.ReadErr.ReadErr}
use Rattle.spin_base.specs.declared.reading.ReadErr.TheVariants as reads
use Rattle.run_report.specs.declared.causes.Refusal.{Refusal}
use Rattle.run_report.specs.declared.causes.Refusal.TheVariants as refusals
use Rattle.spin_input.specs.{Inputs.HasNoFault, Inputs.HasNoInput, Inputs.Reading, Inputs.no_memory, Inputs.read_fault, Inputs.too_long, Kinds.input_by, Kinds.input_from, Kinds.input_in}
use Rattle.spin_input.specs.Refusals.{IsOrWantsMemory, unread, unparsed, unfit}

-- ---- bytes

not_long : (bytes : List ℕ) → length bytes ≤ 16777216 → nat_lt 16777216 (length bytes) ≡ false
not_long bytes few = by_cases (nat_lt 16777216 (length bytes)) refl
  where
    by_cases : (b : Bool) → nat_lt 16777216 (length bytes) ≡ b → b ≡ false
    by_cases false e = refl
    by_cases true e = absurd (let more = ltb-true _ _ e in omega (arith, more, few))

-- bytes within the limit are what their value is
pub input_in-few : {A : Type 0} (kind : Data → Result A Refusal) (bytes : List ℕ) → length bytes ≤ 16777216 → input_in kind bytes ≡ input_from kind (json_of bytes)
unfolding input_in
input_in-few kind bytes few = cond-false (nat_lt 16777216 (length bytes)) (Err refusals.TooLong) (input_from kind (json_of bytes)) (not_long bytes few)

input_in-long : {A : Type 0} (kind : Data → Result A Refusal) (bytes : List ℕ) → 16777216 < length bytes → input_in kind bytes ≡ Err refusals.TooLong
unfolding input_in
input_in-long kind bytes long = cond-true (nat_lt 16777216 (length bytes)) (Err refusals.TooLong) (input_from kind (json_of bytes)) (lt-ltb _ _ long)

-- ---- values

-- what the reader of a kind gave, told as a refusal where it gave none
pub fitted_input : {A : Type 0} (read : Result A TextErr) (result : Result A Refusal) (faults : List JobFault) (value : A) → GivesOrFaults (λ input. input) read faults value →
    MatchResult read (λ input. result ≡ Ok input) (λ error. result ≡ Err (unfit error)) → IsOrWantsMemory (input_by faults value) result
fitted_input (Ok x) result faults value gives is = inl (is ∙ (ap Ok gives.1 ∙ ap (λ l. input_by l value) (sym gives.0)))
fitted_input (Err texts.Memory) result faults value gives is = inr is
fitted_input (Err (texts.Fault f)) result faults value gives is = inl (by_faults faults gives)
  where
    by_faults : (l : List JobFault) → first l ≡ Some f → result ≡ input_by l value
    by_faults (g ∷ gs) same = let it : g ≡ f = cc in is ∙ ap (λ x. Err (refusals.Job x)) (sym it)
    by_faults [] same = cc

-- the input of a text that was parsed
pub read_ok : {A : Type 0} (kind : Data → Result A Refusal) (parsed : Option Data) (d : Data) (result : Result A Refusal) → parsed ≡ Some d → IsOrWantsMemory (kind d) result →
    IfOk result (λ input. input_from kind parsed ≡ Ok input)
read_ok kind parsed d (Ok x) is (inl same) = ap (input_from kind) is ∙ sym same
read_ok kind parsed d (Ok x) is (inr memory) = cc
read_ok kind parsed d (Err e) is read = tt

pub read_err : {A : Type 0} (kind : Data → Result A Refusal) (parsed : Option Data) (d : Data) (result : Result A Refusal) → parsed ≡ Some d → IsOrWantsMemory (kind d) result →
    IfErr result (λ r. (input_from kind parsed ≡ Err r) ⊎ (r ≡ refusals.Memory))
read_err kind parsed d (Ok x) is read = tt
read_err kind parsed d (Err e) is (inl same) = inl (ap (input_from kind) is ∙ sym same)
read_err {A} kind parsed d (Err e) is (inr memory) = inr (same_err memory)
  where
    same_err : ◌≡◌ {A = Result A Refusal} (Err e) (Err refusals.Memory) → e ≡ refusals.Memory
    same_err same = cc

-- a text that was not
pub unparsed_err : {A : Type 0} (kind : Data → Result A Refusal) (parsed : Option Data) (e : ParseErr) → (e ≡ parses.NotJson → parsed ≡ None) →
    (input_from kind parsed ≡ Err (unparsed e)) ⊎ (unparsed e ≡ refusals.Memory)
unparsed_err kind parsed parses.NotJson none = inl (ap (input_from kind) (none refl))
unparsed_err kind parsed parses.Memory none = inr refl

-- ---- sources that tell their bytes

all_bytes : (bytes given rest : List ℕ) → bytes ≡ given ++ rest → rest ≡ [] → bytes ≡ given
all_bytes bytes given rest e nil = e ∙ ap (λ l. given ++ l) nil ∙ append-nil given

-- what was given to the end is what was told
pub told_bytes : (left rest : Option (List ℕ)) (given bytes : List ℕ) → GivesAll left given rest → left ≡ Some bytes → given ≡ bytes
told_bytes None rest given bytes all told = cc
told_bytes (Some b) None given bytes all told = absurd all.gives
told_bytes (Some b) (Some r) given bytes all told = let same : b ≡ bytes = cc in sym (all_bytes b given r all.gives all.at_end) ∙ same

-- a source that gave more bytes than the limit told more
pub told_long : {A : Type 0} (kind : Data → Result A Refusal) (left rest : Option (List ℕ)) (bytes : List ℕ) → LosesMoreThan 16777216 left rest → left ≡ Some bytes → input_in kind bytes ≡ Err refusals.TooLong
told_long kind None rest bytes long told = cc
told_long kind (Some b) None bytes long told = absurd long.1
told_long kind (Some b) (Some r) bytes long told =
    let same : b ≡ bytes = cc in
    ap (input_in kind) (sym same) ∙ input_in-long kind b (omega (arith, long.2, ap length long.1, length-append long.0 r))

-- ---- errors

-- an answer that is no failed read leaves the count of faults
no_failed_read : {A : Type 0} (o : Result A ReadErr) (reading : Reading) → (o ≡ Err reads.Fault → ⊥) → (o ≡ Err reads.Fault) ⊎ HasNoFault reading → HasNoFault reading
no_failed_read o reading other (inl failed) = absurd (other failed)
no_failed_read o reading other (inr quiet) = quiet

never_failed : {A : Type 0} (x : A) → (◌≡◌ {A = Result A ReadErr} (Ok x) (Err reads.Fault)) → ⊥
never_failed x failed = cc

-- bytes that were read leave it
pub read_quiet : {A : Type 0} (x : A) (reading : Reading) → (◌≡◌ {A = Result A ReadErr} (Ok x) (Err reads.Fault)) ⊎ HasNoFault reading → HasNoFault reading
read_quiet x reading = no_failed_read (Ok x) reading (never_failed x)

-- what was read, where there was no memory for more
within_limit : {A : Type 0} (o : Result A ReadErr) (reading : Reading) → (o ≡ Err reads.TooLong → ⊥) → (o ≡ Err reads.TooLong) ⊎ LosesAtMost 16777216 reading.left reading.rest →
    LosesAtMost 16777216 reading.left reading.rest
within_limit o reading other (inl long) = absurd (other long)
within_limit o reading other (inr few) = few

-- an answer of reading that is this error
abbrev Failed : (B : Type 0) → ReadErr → ReadErr → Type 0
Failed B e f = ◌≡◌ {A = Result B ReadErr} (Err e) (Err f)

apart : {B : Type 0} (e f : ReadErr) → (e ≡ f → ⊥) → Failed B e f → ⊥
apart e f other same = let equal : e ≡ f = cc in other equal

-- a source that was not read, by the refusal of its error
pub unread_input : {A B : Type 0} (value_in : List ℕ → Result A Refusal) (reading : Reading) (e : ReadErr) → LosesFront reading.left reading.rest →
    (Failed B e reads.Fault → FaultsRose reading.faults reading.faults') → (Failed B e reads.TooLong → LosesMoreThan 16777216 reading.left reading.rest) →
    Failed B e reads.TooLong ⊎ LosesAtMost 16777216 reading.left reading.rest → Failed B e reads.Fault ⊎ HasNoFault reading → HasNoInput value_in reading (unread e)
unread_input value_in reading reads.Fault lost rose long few quiet = read_fault lost (rose refl) refl
unread_input {B = B} value_in reading reads.TooLong lost rose long few quiet =
    too_long (long refl) (no_failed_read {A = B} (Err reads.TooLong) reading (apart reads.TooLong reads.Fault too_long_other) quiet) refl
  where
    too_long_other : reads.TooLong ≡ reads.Fault → ⊥
    too_long_other same = cc
unread_input {B = B} value_in reading reads.OutOfMemory lost rose long few quiet =
    no_memory (within_limit {A = B} (Err reads.OutOfMemory) reading (apart reads.OutOfMemory reads.TooLong memory_not_long) few)
    (no_failed_read {A = B} (Err reads.OutOfMemory) reading (apart reads.OutOfMemory reads.Fault memory_no_fault) quiet) refl
  where
    memory_not_long : reads.OutOfMemory ≡ reads.TooLong → ⊥
    memory_not_long same = cc

    memory_no_fault : reads.OutOfMemory ≡ reads.Fault → ⊥
    memory_no_fault same = cc

-- an error that is handed on is the same
pub err_carried : {A E : Type 0} (r : Result A E) (e : E) (P : E → Type 0) → IsErr r × IsErrAnd r (λ f. f ≡ e) → P e → IfErr r P
err_carried (Ok x) e P carried has = tt
err_carried (Err f) e P carried has = subst P (sym carried.1) has
