-- Where vertices are placed, and what refusals are made of, as the private functions say it.
use Rattle.std.specs.Prelude.{◌≡◌, ◌≢◌, ◌≤◌, false, ℕ, List, All, AllPairs, length}
use Rattle.spin_base.specs.declared.chips.Spot.{Spot}
use Rattle.machine_desc.specs.Description.{Description}
use Rattle.machine_desc.specs.Live.{IsSite, IsUsable}
use Rattle.app_graph.specs.declared.graphs.Net.{Net}
use Rattle.app_graph.specs.ValidGraph.{IsValidNet}
use Rattle.link_detours.specs.LiveRoads.{AreRoadsOf}
use Rattle.link_detours.specs.declared.roads.Roads.{Roads}
use Rattle.job_requests.specs.Valid.{IsValidJob}
use Rattle.job_requests.specs.declared.steps.AppJob.{AppJob}
use Rattle.link_detours.specs.declared.repairs.RepairErr.{RepairErr}
use Rattle.link_detours.specs.declared.repairs.RepairErr.TheVariants as repairs
use Rattle.net_plans.specs.declared.nets.NetErr.{NetErr}
use Rattle.net_plans.specs.declared.nets.NetErr.TheVariants as nets
use Rattle.place_fit.specs.Boards.{AreFreeOn}
use Rattle.place_fit.specs.Placement.{IsPlacement}
use Rattle.place_fit.specs.declared.boards.Board.{Board}
use Rattle.place_fit.specs.declared.placing.PlaceErr.{PlaceErr}
use Rattle.place_fit.specs.declared.placing.PlaceErr.TheVariants as places
use Rattle.app_loads.specs.Host.{Host, is_spot_taken}
use Rattle.app_loads.specs.Plans.{IsPlan}
use Rattle.app_loads.specs.declared.plans.AppPlan.{AppPlan}
use Rattle.spin_apps.specs.Free.{free_but, free_machine}
use Rattle.spin_apps.specs.Plans.{IsPlanFor, IsWhyUnplanned}
use Rattle.spin_apps.specs.declared.plans.PlanErr.{PlanErr}
use Rattle.spin_apps.specs.declared.plans.PlanErr.TheVariants.{NoRoom, CutOff, Memory}

-- The vertices of a job have these cores: all of them free, and no two the same.
pub record IsPlaced (h : Host) (job : AppJob) (spots : List Spot) : Type 0 where
  pub memory : List ℕ
  pub is : IsPlacement (free_machine h) job.graph.vertices spots memory
  pub different : AllPairs (λ a b. a ≢ b) spots

-- the host is on this machine, and the board has its free cores
pub record HasFreeCores (h : Host) (m : Description) (b : Board) : Type 0 where
  pub machine : h.mesh.setup.machine ≡ m
  pub free : AreFreeOn (free_machine h) b

-- a job is valid, and the machine's live links are known, and the board has the free cores of some host on it
pub record CanPlan (m : Description) (links : Roads) (free : Board) (job : AppJob) : Type 0 where
  pub valid : IsValidJob job
  pub roads : AreRoadsOf m links
  pub host : Host
  pub on : HasFreeCores host m free

-- the vertices of a job have these cores, and the board has them no more
pub record ArePlacedOn (h : Host) (job : AppJob) (free : Board) (spots : List Spot) : Type 0 where
  pub placed : IsPlaced h job spots
  pub usable : All (IsUsable (free_machine h)) spots
  pub taken : AreFreeOn (free_but h spots) free

-- a plan of the job may be loaded, and the board has its cores no more
pub record IsPlanOn (h : Host) (job : AppJob) (free : Board) (plan : AppPlan) : Type 0 where
  pub is : IsPlanFor h job plan
  pub valid : IsPlan h.mesh.setup.machine plan
  pub untaken : All (λ s. is_spot_taken h.apps s ≡ false) plan.spots
  pub usable : All (IsUsable (free_machine h)) plan.spots
  pub taken : AreFreeOn (free_but h plan.spots) free

-- why there is no plan, where the board has the free cores that it had
pub record IsNoPlanOn (h : Host) (job : AppJob) (b : Board) (e : PlanErr) : Type 0 where
  pub why : IsWhyUnplanned h job e
  pub free : AreFreeOn (free_machine h) b

-- a net of vertices that have these cores can be routed on the machine, whose live links are known
pub record CanRouteNet (m : Description) (links : Roads) (spots : List Spot) (net : Net) : Type 0 where
  pub roads : AreRoadsOf m links
  pub valid : IsValidNet (length spots) net
  pub sites : All (IsSite m) spots

-- the same of each net of an application
pub record CanRouteNets (m : Description) (links : Roads) (spots : List Spot) (nets : List Net) : Type 0 where
  pub roads : AreRoadsOf m links
  pub few : length nets ≤ 4096
  pub valid : All (IsValidNet (length spots)) nets
  pub sites : All (IsSite m) spots

-- the same refusal, in the words of each caller
abbrev pub unplaced : PlaceErr → PlanErr
unplaced (places.NoRoom vertex) = NoRoom vertex
unplaced places.Memory = Memory

abbrev pub unrouted : NetErr → PlanErr
unrouted (nets.CutOff net target) = CutOff net target
unrouted nets.Memory = Memory

abbrev pub unrouted_net : ℕ → RepairErr → NetErr
unrouted_net net (repairs.CutOff target) = nets.CutOff net target
unrouted_net net repairs.Memory = nets.Memory
