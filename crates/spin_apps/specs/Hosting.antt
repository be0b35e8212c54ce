-- A machine with its applications, as the private functions say it.
use Rattle.std.specs.Prelude.{◌≡◌, ℕ, ◌+◌, ◌^◌, ◌<◌, ◌≤◌, ◌++◌, All, List, [], length, Option, Some, None, IfSome, IsOk, Result, is_some, true}
use Rattle.link_detours.specs.LiveRoads.{AreRoadsOf}
use Rattle.machine_desc.specs.Live.{IsUsable}
use Rattle.place_fit.specs.Boards.{AreFreeOn}
use Rattle.place_fit.specs.declared.boards.Board.{Board}
use Rattle.job_requests.specs.declared.steps.AppJob.{AppJob}
use Rattle.job_requests.specs.declared.steps.Step.{Step}
use Rattle.job_requests.specs.declared.steps.Step.TheVariants.{Load, Unload, Run}
use Rattle.job_requests.specs.Valid.{HasFirstMachine, IsValidJob, IsValidStep}
use Rattle.app_loads.specs.Applications.{AreApps}
use Rattle.app_loads.specs.declared.plans.AppPlan.{AppPlan}
use Rattle.app_loads.specs.Host.{Host}
use Rattle.app_loads.specs.Loading.{HasLoaded, IsLoadRefusal}
use Rattle.app_loads.specs.Plans.{MayLoad}
use Rattle.spin_base.specs.declared.wants.Memory.{Memory}
use Rattle.spin_apps.specs.declared.answers.Answered.{Answered}
use Rattle.spin_apps.specs.declared.hosts.Hosted.TheInside.{Inside}
use Rattle.spin_apps.specs.declared.hosts.LoadAnswer.{LoadAnswer}
use Rattle.spin_apps.specs.declared.hosts.LoadAnswer.TheVariants.{Done, NoRoom, CutOff, Refused}
use Rattle.spin_apps.specs.Answers.{Answers, host_at}
use Rattle.spin_apps.specs.Free.{free_but, free_machine}

-- what is seen is the host of the applications
abbrev pub hosted_of : Inside → Host
hosted_of s = s.apps

-- The machine, its live links and the free cores are those of the host.
pub record IsHosted (s : Inside) : Type 0 where
  pub apps : AreApps s.apps
  pub machine : s.apps.mesh.setup.machine ≡ s.machine
  pub roads : AreRoadsOf s.machine s.roads
  pub free : AreFreeOn (free_machine s.apps) s.free

-- what may be answered where a plan is loaded
abbrev pub IsTaken : Host → ℕ → AppPlan → LoadAnswer → Host → Type 0
IsTaken h number plan Done new = HasLoaded h number plan new
IsTaken h number plan (NoRoom vertex) new = ⊥
IsTaken h number plan (CutOff net target) new = ⊥
IsTaken h number plan (Refused refusal) new = IsLoadRefusal h number plan refusal × (new ≡ h)

-- a plan may be loaded, and its cores, which are free on the host, are taken from the board
pub record CanTakePlan (h : Host) (plan : AppPlan) (free : Board) : Type 0 where
  pub may : MayLoad h plan
  pub usable : All (IsUsable (free_machine h)) plan.spots
  pub taken : AreFreeOn (free_but h plan.spots) free

-- a text has got the line of a step, and all that applications keep holds of the state after it
pub record HasAddedLine (step : Step) (before : Option Host) (old new : List ℕ) (after : Option Host) : Type 0 where
  pub told : List ℕ
  pub longer : new ≡ old ++ told
  pub answers : Answers step before told after
  pub apps : IfSome after AreApps

-- a load finds a host, or has the machine for one
abbrev pub FindsHost : Option Host → Step → Type 0
FindsHost before (Load number job) = is_some (host_at before job) ≡ true
FindsHost before (Unload number) = Unit {0}
FindsHost before Run = Unit {0}

-- where there is no host yet, the first load of these steps has the machine for one
abbrev pub FindHosts : Option Host → List Step → Type 0
FindHosts None steps = HasFirstMachine steps
FindHosts (Some h) steps = Unit {0}

-- how many packets all loads so far had
abbrev pub packet_count_of : Option Host → ℕ
packet_count_of None = 0
packet_count_of (Some h) = h.packets

-- each step can be taken, from where no step was taken and nothing was told
pub record CanTakeAll (steps : List Step) (before : Option Host) (text : List ℕ) : Type 0 where
  pub valid : All IsValidStep steps
  pub few : length steps ≤ 65535
  pub machine : HasFirstMachine steps
  pub none : before ≡ None
  pub no_text : text ≡ []

-- a step is valid, finds its host, and the numbers of packets do not run out
pub record CanTake (before : Option Host) (step : Step) : Type 0 where
  pub valid : IsValidStep step
  pub host : FindsHost before step
  pub numbers : packet_count_of before + 65536 < 2 ^ 32

-- the same of a load
pub record CanLoad (before : Option Host) (job : AppJob) : Type 0 where
  pub valid : IsValidJob job
  pub host : is_some (host_at before job) ≡ true
  pub numbers : packet_count_of before + 65536 < 2 ^ 32

-- the same of a load on the host that it found
pub record CanLoadOn (h : Host) (job : AppJob) : Type 0 where
  pub valid : IsValidJob job
  pub numbers : h.packets + 65536 < 2 ^ 32

-- a job is valid, and the host has numbers for its packets
pub record HasNumbersFor (h : Host) (job : AppJob) : Type 0 where
  pub valid : IsValidJob job
  pub numbers : h.packets + length job.run.packets < 2 ^ 32

-- what was answered, where all steps were done
pub record IsAnsweredBy (taken : Result Unit Memory) (text : List ℕ) (apps : Option Host) (a : Answered) : Type 0 where
  pub done : IsOk taken
  pub text_is : a.text ≡ text
  pub apps_is : a.apps ≡ apps
