-- What is answered of a graph on a machine, with trees and the bytes of an image, and when there is no answer (this project's own).
use Rattle.std.specs.Prelude.{◌≡◌, ◌⊎◌, ℕ, List, Some, slice_get}
use Rattle.spin_base.specs.declared.blocks.Entry.{Entry}
use Rattle.spin_base.specs.declared.chips.Chip.{Chip}
use Rattle.spin_base.specs.declared.chips.Spot.{Spot}
use Rattle.machine_desc.specs.declared.trees.Edge.{Edge}
use Rattle.machine_desc.specs.Description.{Description}
use Rattle.app_graph.specs.declared.graphs.Graph.{Graph}
use Rattle.app_graph.specs.declared.graphs.Net.{Net}
use Rattle.app_graph.specs.declared.graphs.Vertex.{Vertex}
use Rattle.machine_desc.specs.declared.nets.NetPlan.{NetPlan}
use Rattle.machine_desc.specs.RightTables.{AreRight}
use Rattle.place_fit.specs.Placement.{IsPlacement, HasNoRoom}
use Rattle.key_alloc.specs.KeyBlocks.{AreKeysOut}
use Rattle.table_load.specs.declared.tables.Image.{Image}
use Rattle.table_load.specs.Images.{Spells}
use Rattle.table_load.specs.Memories.{IsLoaded}
use Rattle.plan_check.specs.Verdicts.{IsMisrouted}
use Rattle.run_report.specs.declared.causes.Refusal.{Refusal}
use Rattle.run_report.specs.declared.causes.Refusal.TheVariants.{NoRoom, KeysOut, Memory}
use Rattle.spin_checks.specs.declared.findings.Finding.{Finding}
use Rattle.spin_checks.specs.Findings.{IsFinding, finding_line, name_at, wrong_line}
use Rattle.spin_checks.specs.Nets.{AreNetsWith}

-- The answer is the line that tells what is found of the graph's nets, each with its tree, and the bytes.
pub record IsAnswer (m : Description) (graph : Graph) (trees : List (List Edge)) (bytes : List ℕ) (text : List ℕ) : Type 0 where
  pub nets : List NetPlan
  pub are : AreNetsWith m graph trees nets
  pub finding : Finding
  pub found : IsFinding m nets bytes finding
  pub told : text ≡ finding_line graph.nets finding

-- A refusal is due where a vertex has no room, and names the first; or all have, and a net has no keys, and it names the first.
pub data IsJobRefusal (m : Description) (graph : Graph) (r : Refusal) : Type 0 where
  no_room : (i : ℕ) (vertex : Vertex) → HasNoRoom m graph.vertices i → slice_get graph.vertices i ≡ Some vertex → r ≡ NoRoom vertex.name → IsJobRefusal m graph r
  keys_out : (spots : List Spot) (memory : List ℕ) → IsPlacement m graph.vertices spots memory → (i : ℕ) (net : Net) → AreKeysOut graph.nets i →
      slice_get graph.nets i ≡ Some net → r ≡ KeysOut net.name → IsJobRefusal m graph r

-- There is no answer where a refusal is due. Want of memory is free.
abbrev pub HasNoAnswer : Description → Graph → Refusal → Type 0
HasNoAnswer m graph r = IsJobRefusal m graph r ⊎ (r ≡ Memory)

-- ---- what answers mean

-- Each key of each net is routed by the net's tree in the tables that the bytes load.
abbrev pub RoutesRight : Description → Graph → List (List Edge) → List ℕ → Type 0
RoutesRight m graph trees bytes =
    (nets : List NetPlan) (v : Image) (memories : List (List Entry)) → AreNetsWith m graph trees nets → Spells v bytes → IsLoaded v memories → AreRight m memories nets

-- The text is the wrong line of a net, a chip and a key of the net, to which the tables that the bytes load give another route
-- at that chip than the net's tree wants.
pub record NamesMisrouted (m : Description) (graph : Graph) (trees : List (List Edge)) (bytes : List ℕ) (text : List ℕ) : Type 0 where
  pub nets : List NetPlan
  pub are : AreNetsWith m graph trees nets
  pub place : ℕ
  pub net : NetPlan
  pub there : slice_get nets place ≡ Some net
  pub chip : Chip
  pub key : ℕ
  pub tells : text ≡ wrong_line (name_at graph.nets place) chip key
  pub misrouted : (v : Image) (memories : List (List Entry)) → Spells v bytes → IsLoaded v memories → IsMisrouted m memories net chip key
