-- Trees over live links whose every chip is reached from the root in one way, whatever they lead to.
use Rattle.std.specs.Prelude.{◌≡◌, ◌≢◌, ℕ, ◌<◌, List, length, Some, All, Any, Contains, ◌⊎◌}
use Rattle.spin_base.specs.declared.chips.Chip.{Chip}
use Rattle.machine_desc.specs.{declared.trees.Edge.Edge, Description.Description, Live.IsInside, Live.IsLiveLink, RoutingTree.end_of, RoutingTree.IsTreeChip}
use Rattle.link_detours.specs.{Steps.Steps, Repair.EdgeStep}

-- all edges are live, each chip is reached from the root, and there is one way to it
pub record IsWholeTree (m : Description) (root : Chip) (tree : List Edge) : Type 0 where
  pub live : (e : Edge) → Contains tree e → IsLiveLink m e.chip e.dir
  pub reached : (c : Chip) → IsTreeChip m root tree c → (n : ℕ) × Steps (EdgeStep m tree) n root c
  pub none_into_root : (e : Edge) → Contains tree e → end_of m e ≢ Some root
  pub begins : (e : Edge) → Contains tree e → IsTreeChip m root tree e.chip
  pub one_into : (e f : Edge) (c : Chip) → Contains tree e → Contains tree f → end_of m e ≡ Some c → end_of m f ≡ Some c → e ≡ f

-- a target stands at the chip, or an edge begins there
abbrev pub GoesOnFrom : List Edge → List Chip → Chip → Type 0
GoesOnFrom edges targets c = Any (λ e. e.chip ≡ c) edges ⊎ Contains targets c
