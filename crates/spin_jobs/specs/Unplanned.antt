-- Why a job has no plan, and when it has one (this project's own).
use Rattle.std.specs.Prelude.{◌≡◌, ℕ, List, Some, Result, Ok, Err, slice_get}
use Rattle.spin_base.specs.declared.blocks.Block.{Block}
use Rattle.spin_base.specs.declared.chips.Chip.{Chip}
use Rattle.spin_base.specs.declared.wants.Memory.{Memory as NoMemory}
use Rattle.app_graph.specs.declared.graphs.Vertex.{Vertex}
use Rattle.app_graph.specs.declared.graphs.Net.{Net}
use Rattle.app_graph.specs.declared.graphs.Graph.{Graph}
use Rattle.key_alloc.specs.KeyBlocks.{AreRightBlocks}
use Rattle.job_readers.specs.declared.jobs.Job.{Job}
use Rattle.default_routes.specs.declared.stripping.Final.{Final}
use Rattle.par_compile.specs.declared.compiling.CompileErr.{CompileErr}
use Rattle.par_compile.specs.declared.compiling.CompileErr.TheVariants.{NoRoom, KeysOut, CutOff, TableLong, Memory}
use Rattle.par_compile.specs.Compiled.{HasCutOff, HasLongTable, HasPlacement, IsCompileCause}
use Rattle.run_report.specs.declared.causes.Refusal.{Refusal}
use Rattle.run_report.specs.declared.causes.Refusal.TheVariants as refusals

-- the refusal names the vertex or net that the compiler's error numbers, or has its chip and table
abbrev pub Names : Graph → CompileErr → Refusal → Type 0
Names graph (NoRoom i) r = (vertex : Vertex) × (slice_get graph.vertices i ≡ Some vertex) × (r ≡ refusals.NoRoom vertex.name)
Names graph (KeysOut i) r = (net : Net) × (slice_get graph.nets i ≡ Some net) × (r ≡ refusals.KeysOut net.name)
Names graph (CutOff i target) r = (net : Net) × (slice_get graph.nets i ≡ Some net) × (r ≡ refusals.CutOff net.name target)
Names graph (TableLong chip table) r = r ≡ refusals.TableLong chip table
Names graph Memory r = ⊥

-- the name of the vertex or net that the compiler's error numbers
abbrev pub IsNameIn : Graph → CompileErr → List ℕ → Type 0
IsNameIn graph (NoRoom i) name = (vertex : Vertex) × (slice_get graph.vertices i ≡ Some vertex) × (name ≡ vertex.name)
IsNameIn graph (KeysOut i) name = (net : Net) × (slice_get graph.nets i ≡ Some net) × (name ≡ net.name)
IsNameIn graph (CutOff i target) name = (net : Net) × (slice_get graph.nets i ≡ Some net) × (name ≡ net.name)
IsNameIn graph (TableLong chip table) name = Unit {0}
IsNameIn graph Memory name = Unit {0}

-- The refusal of the compiler's error, with the name of the vertex or net that it numbers. Want of memory is told where memory
-- ran out, also for the name, and nowhere else.
abbrev pub refusal_of : CompileErr → Result (List ℕ) NoMemory → Refusal
refusal_of (NoRoom i) (Ok name) = refusals.NoRoom name
refusal_of (NoRoom i) (Err memory) = refusals.Memory
refusal_of (KeysOut i) (Ok name) = refusals.KeysOut name
refusal_of (KeysOut i) (Err memory) = refusals.Memory
refusal_of (CutOff i target) (Ok name) = refusals.CutOff name target
refusal_of (CutOff i target) (Err memory) = refusals.Memory
refusal_of (TableLong chip table) name = refusals.TableLong chip table
refusal_of Memory name = refusals.Memory

-- Why a job has no plan: a vertex has no room; or all have, and a net has no keys; or all have keys, and a target of a net is
-- cut off; or none is, and a chip's final table does not fit into its router. The refusal names the first.
pub record HasNoPlan (job : Job) (r : Refusal) : Type 0 where
  pub error : CompileErr
  pub cause : IsCompileCause job.machine job.graph job.run.target error
  pub names : Names job.graph error r

-- all nets have keys
abbrev pub HasBlocks : Graph → Type 0
HasBlocks graph = (blocks : List Block) × AreRightBlocks graph.nets blocks

-- A job can be planned: its vertices have places, its nets have keys, no target is cut off, and no final table is too long.
pub record CanBePlanned (job : Job) : Type 0 where
  pub placed : HasPlacement job.machine job.graph
  pub keyed : HasBlocks job.graph
  pub joined : (i : ℕ) (target : Chip) → HasCutOff job.machine job.graph i target → ⊥
  pub short : (chip : Chip) (table : Final) → HasLongTable job.machine job.graph job.run.target chip table → ⊥
