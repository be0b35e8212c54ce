-- What a plan of a graph on a machine is, and when compiling is refused (this project's own).
use Rattle.std.specs.Prelude.{◌≡◌, ◌≢◌, ℕ, ◌*◌, ◌<◌, ◌≤◌, List, length, map, All, AllPairs, Some, None, Result, position, slice_get}
use Rattle.std.specs.List.{AllZip}
use Rattle.spin_base.specs.declared.blocks.Block.{Block}
use Rattle.spin_base.specs.declared.chips.Chip.{Chip}
use Rattle.spin_base.specs.declared.chips.Spot.{Spot}
use Rattle.spin_base.specs.declared.sizes.TheConstants.{ROUTER_ENTRIES}
use Rattle.machine_desc.specs.Description.{Description}
use Rattle.machine_desc.specs.Live.{IsInside, IsSite, IsUsable, index_of}
use Rattle.app_graph.specs.declared.graphs.Graph.{Graph}
use Rattle.app_graph.specs.declared.graphs.Vertex.{Vertex}
use Rattle.machine_desc.specs.declared.nets.NetPlan.{NetPlan}
use Rattle.machine_desc.specs.NetsOn.{AreNetsOn}
use Rattle.machine_desc.specs.RightTables.{AreRight}
use Rattle.place_fit.specs.declared.placing.Placement.{Placement}
use Rattle.place_fit.specs.Placement.{IsPlacement, HasNoRoom}
use Rattle.key_alloc.specs.KeyBlocks.{AreKeysOut, AreRightBlocks, HasKeys}
use Rattle.net_plans.specs.Cause.{IsRefusedBy}
use Rattle.net_plans.specs.CutOffTargets.{IsFirstNetCutOff}
use Rattle.net_plans.specs.NetPlans.{ArePlanned}
use Rattle.cover_merge.specs.Covering.{HasNoLegalPair}
use Rattle.default_routes.specs.declared.stripping.Final.{Final}
use Rattle.par_compile.specs.Finals.{AreFinals, KeepsRows, is_long, loaded_of}
use Rattle.par_compile.specs.declared.compiling.Plan.{Plan}
use Rattle.par_compile.specs.declared.compiling.CompileErr.{CompileErr}
use Rattle.par_compile.specs.declared.compiling.CompileErr.TheVariants.{NoRoom, KeysOut, CutOff, TableLong, Memory}

-- the blocks of nets
abbrev pub blocks_of : List NetPlan → List Block
blocks_of nets = map (λ (net : NetPlan). net.block) nets

-- all vertices have a place
abbrev pub HasPlacement : Description → Graph → Type 0
HasPlacement m graph = (spots : List Spot) × (memory : List ℕ) × IsPlacement m graph.vertices spots memory

-- All vertices have a place and all nets have keys; a net is the first with a target that no walk of live links reaches, and
-- this target chip is its first such.
pub record HasCutOff (m : Description) (graph : Graph) (net : ℕ) (target : Chip) : Type 0 where
  pub spots : List Spot
  pub memory : List ℕ
  pub placed : IsPlacement m graph.vertices spots memory
  pub blocks : List Block
  pub keyed : AreRightBlocks graph.nets blocks
  pub first : IsFirstNetCutOff m spots graph.nets net target

-- A graph placed, keyed and routed on a machine. Each vertex stands on the first chip with room; each net has the least free
-- aligned range of keys, its targets, and the tree that grows to them, with the detours round what is dead. With that the nets
-- stand on the machine.
pub record IsRoutingOf (m : Description) (graph : Graph) (placement : Placement) (nets : List NetPlan) : Type 0 where
  pub placed : IsPlacement m graph.vertices placement.spots placement.memory
  pub different : AllPairs (λ a b. a ≢ b) placement.spots
  pub sites : All (IsSite m) placement.spots
  pub cores : AllZip (λ (v : Vertex) s. v.device ≡ None → IsUsable m s) graph.vertices placement.spots
  pub blocks : AreRightBlocks graph.nets (blocks_of nets)
  pub enough : AllZip HasKeys graph.nets (blocks_of nets)
  pub planned : ArePlanned m placement.spots graph.nets (blocks_of nets) nets
  pub stand : AreNetsOn m placement.spots nets

-- The graph is placed, keyed and routed; of the final tables of the chips, from the first on by the chips' indices, this chip's is
-- the first that is long, and it is this table.
pub record HasLongTable (m : Description) (graph : Graph) (target : ℕ) (chip : Chip) (table : Final) : Type 0 where
  pub placement : Placement
  pub nets : List NetPlan
  pub routing : IsRoutingOf m graph placement nets
  pub finals : List Final
  pub are : AreFinals m nets target finals
  pub inside : IsInside m chip
  pub first : position is_long finals ≡ Some (index_of m chip)
  pub at : slice_get finals (index_of m chip) ≡ Some table

-- A vertex has no room; or all have, and keys are out at a net; or all have keys, and a target of a net is cut off; or none is,
-- and a final table is long, where no two rows of the covered table can be merged: then there are more nets than a router has
-- entries. Want of memory is free.
abbrev pub IsCompileCause : Description → Graph → ℕ → CompileErr → Type 0
IsCompileCause m graph target (NoRoom vertex) = HasNoRoom m graph.vertices vertex
IsCompileCause m graph target (KeysOut net) = HasPlacement m graph × AreKeysOut graph.nets net
IsCompileCause m graph target (CutOff net chip) = HasCutOff m graph net chip
IsCompileCause m graph target (TableLong chip table) =
    (long : HasLongTable m graph target chip table) × HasNoLegalPair (long.are chip table long.inside long.at).is_final.rows × (ROUTER_ENTRIES < length graph.nets)
IsCompileCause m graph target Memory = Unit {0}

-- The other way round: where there is a cause, the answer names it, or wants memory.
pub record IsRefusedWhere (m : Description) (graph : Graph) (target : ℕ) (result : Result Plan CompileErr) : Type 0 where
  pub no_room : (vertex : ℕ) → HasNoRoom m graph.vertices vertex → IsRefusedBy result (NoRoom vertex) Memory
  pub keys_out : (net : ℕ) → HasPlacement m graph → AreKeysOut graph.nets net → IsRefusedBy result (KeysOut net) Memory
  pub cut_off : (net : ℕ) (chip : Chip) → HasCutOff m graph net chip → IsRefusedBy result (CutOff net chip) Memory
  pub table_long : (chip : Chip) (table : Final) → HasLongTable m graph target chip table → IsRefusedBy result (TableLong chip table) Memory

-- What a plan of a graph on a machine is, for a number of rows at which covering stops: the graph is placed, keyed and routed,
-- and each chip has its final table, whose entries fit into its router. Loaded, with unused entries after these, the tables are
-- right for the nets.
pub record IsPlanOf (m : Description) (graph : Graph) (target : ℕ) (plan : Plan) : Type 0 where
  pub routing : IsRoutingOf m graph plan.placement plan.nets
  pub one_table_each : length plan.tables ≡ m.width * m.height
  pub tables : AreFinals m plan.nets target plan.tables
  pub keep : All KeepsRows plan.tables
  pub short : All (λ (f : Final). length f.entries ≤ ROUTER_ENTRIES) plan.tables
  pub right : AreRight m (map loaded_of plan.tables) plan.nets
