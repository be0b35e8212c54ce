-- Runs of a job by rounds, and runs that lose nothing (this project's own).
use Rattle.std.specs.Prelude.{◌≡◌, ℕ, ◌≤◌, List, [], length, map}
use Rattle.std.proofs.Common.{suc}
use Rattle.spin_base.specs.declared.copies.Packet.{Packet}
use Rattle.machine_desc.specs.Description.{Description}
use Rattle.app_graph.specs.declared.graphs.Graph.{Graph}
use Rattle.mesh_core.specs.State.{State, IsMesh}
use Rattle.mesh_core.specs.Opened.{MeetsJobLedger}
use Rattle.mesh_core.specs.Expected.{AreAsExpected, IsAtRest, expected_deliveries}
use Rattle.mesh_round.specs.RoundFlow.{Flow, IsRound}
use Rattle.mesh_round.specs.Bound.{most_moves}
use Rattle.run_report.specs.declared.reports.Report.{Report}
use Rattle.run_report.specs.Listed.{listed_keys, placed_of}
use Rattle.run_report.specs.ReportText.{report_text}
use Rattle.run_report.specs.RunReport.{named_delivery}
use Rattle.par_compile.specs.declared.compiling.Plan.{Plan}
use Rattle.par_compile.specs.Imaging.{image_in}
use Rattle.job_readers.specs.declared.jobs.Job.{Job}
use Rattle.spin_jobs.specs.Planned.{opened_of}

-- A mesh is reached from the opened mesh of a job by rounds of the job's patience and turns, each from a mesh to a mesh, and keeps
-- the job's ledger at first and after each of them.
pub data HasKeptRounds (job : Job) (plan : Plan) : State → Type 0 where
  opened : MeetsJobLedger (opened_of job plan) plan.nets job.run.packets → HasKeptRounds job plan (opened_of job plan)
  round : (flow : Flow) (m n : State) → HasKeptRounds job plan m → IsMesh n → IsRound job.run.patience job.run.turns m flow n →
      MeetsJobLedger n plan.nets job.run.packets → HasKeptRounds job plan n

-- how many rounds they are
abbrev pub kept_in : {job : Job} {plan : Plan} {mesh : State} → HasKeptRounds job plan mesh → ℕ
kept_in (opened ledger) = 0
kept_in (round flow m n before after is ledger) = suc (kept_in before)

-- At most as many rounds lead there as copies can move: for each packet one, as its vertex sends it; one for each chip of its net's
-- tree; and one for each target. So it is known before a run how long it can take.
pub record IsReachedSoon (job : Job) (plan : Plan) (mesh : State) : Type 0 where
  pub rounds : HasKeptRounds job plan mesh
  pub few : kept_in rounds ≤ most_moves plan.nets job.run.packets

-- each queue has room for a copy of every packet of the job
abbrev pub IsRoomy : Job → Type 0
IsRoomy job = length job.run.packets ≤ job.run.queue

-- The report of a run that lost nothing: the vertices, nets and tables of the plan, no event, each delivery that the packets ask
-- for, no dump record, nothing waiting and nothing unsent. It is of machine, graph, packets and plan alone, and so says nothing of
-- how large queues are, how patient routers, and how many workers and turns.
abbrev pub full_report : Description → Graph → List Packet → Plan → Report
full_report machine graph packets plan = record {
  placed = placed_of graph plan.placement.spots;
  keys = listed_keys graph plan.nets;
  tables = (image_in machine plan.tables).chips;
  did = [];
  delivered = map (named_delivery (placed_of graph plan.placement.spots)) (expected_deliveries plan.placement.spots plan.nets packets);
  dumped = [];
  waiting = [];
  unsent = 0;
}

-- A run lost nothing: no dump record stands, the deliveries are those that the job asks for and no others, and the text of the
-- report is that of the full report.
pub record HasLostNothing (job : Job) (plan : Plan) (mesh : State) (report : Report) : Type 0 where
  pub no_record : mesh.dumped ≡ []
  pub delivered : AreAsExpected mesh plan.nets job.run.packets
  pub text : report_text report ≡ report_text (full_report job.machine job.graph job.run.packets plan)

-- `run`: the mesh is reached by few rounds, after each of which it keeps the ledger; at the end nothing waits and nothing is unsent;
-- the report tells no events; and where each queue has room for all packets, nothing is lost.
pub record HasRunOut (job : Job) (plan : Plan) (mesh : State) (report : Report) : Type 0 where
  pub reached : IsReachedSoon job plan mesh
  pub at_rest : IsAtRest mesh
  pub no_event : report.did ≡ []
  pub roomy : IsRoomy job → HasLostNothing job plan mesh report
