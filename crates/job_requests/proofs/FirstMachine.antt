-- Of the machines of a list's loads the first alone is kept.
use Rattle.job_requests.proofs.Common.{Bool, Data, HasFirstMachine, List, Load, Run, Step, Unload, [], ap, arith, first_machine_alone, get_or, is_load, is_some, kept_step, length, list_any}
use Rattle.job_requests.proofs.Common.{list_any-append, map, map-append, or-false, refl, take, true, unwrap_or, values-more, without_machine, ℕ, ◌++◌, ◌+◌, ◌<◌, ◌||◌, ◌∷◌, ◌≡◌}
use Rattle.job_requests.specs.Steps.{step_value, worded_step}

-- ---- one step more

-- what is kept of a step is kept behind those before it
kept_more : (steps : List Step) (step : Step) → first_machine_alone (steps ++ step ∷ []) ≡ first_machine_alone steps ++ kept_step (list_any is_load steps) step ∷ []
kept_more [] (Load n job) = refl
kept_more [] (Unload n) = refl
kept_more [] Run = refl
kept_more (Load n job ∷ steps) step = ap (λ (l : List Step). Load n job ∷ l) (map-append without_machine steps (step ∷ []))
kept_more (Unload n ∷ steps) step = ap (λ (l : List Step). Unload n ∷ l) (kept_more steps step)
kept_more (Run ∷ steps) step = ap (λ (l : List Step). Run ∷ l) (kept_more steps step)

same_load : (loaded : Bool) (step : Step) → is_load (kept_step loaded step) ≡ is_load step
same_load loaded step = grind arith

module _ {V : Type 0} (g : V → Data) (xs : List V) (i : ℕ) (x : V) (below : i < length xs) (is : x ≡ get_or xs i x) where
  -- the steps so far, with their machines
  abbrev before : List Step
  before = map step_value (map g (take i xs))

  one_more : before ++ step_value (g x) ∷ [] ≡ map step_value (map g (take (i + 1) xs))
  one_more = values-more g xs i x below is step_value before (before ++ step_value (g x) ∷ []) refl refl

  pub kept_next : (out new : List Step) (loaded : Bool) (step : Step) → out ≡ first_machine_alone before → loaded ≡ list_any is_load before → step ≡ kept_step loaded (step_value (g x)) →
      new ≡ out ++ step ∷ [] → new ≡ first_machine_alone (map step_value (map g (take (i + 1) xs)))
  kept_next out new loaded step so_far was here pushed = grind (arith, kept_more before (step_value (g x)), one_more)

  -- whether a load was among the steps
  pub loaded_next : (loaded : Bool) (step : Step) (here : Bool) → loaded ≡ list_any is_load before → step ≡ kept_step loaded (step_value (g x)) → here ≡ is_load step →
      (loaded || here) ≡ list_any is_load (map step_value (map g (take (i + 1) xs)))
  loaded_next loaded step here was kept_is load = grind (arith, same_load, or-false, list_any-append, one_more)

-- ---- the first load

-- a load has its machine
abbrev HasMachine : Step → Type 0
HasMachine (Load n job) = is_some job.machine ≡ true
HasMachine (Unload n) = Unit {0}
HasMachine Run = Unit {0}

-- so has each load as it is read
has_machine : (d : Data) → HasMachine (step_value d)
unfolding step_value worded_step
has_machine d = grind (arith, unwrap_or)

pub has_first_machine : (ds : List Data) → HasFirstMachine (first_machine_alone (map step_value ds))
has_first_machine [] = tt
has_first_machine (d ∷ ds) = first (step_value d) (map step_value ds) (has_machine d) (has_first_machine ds)
  where
    first : (step : Step) (steps : List Step) → HasMachine step → HasFirstMachine (first_machine_alone steps) → HasFirstMachine (first_machine_alone (step ∷ steps))
    first step steps has later = grind arith
