-- What is found of nets with their trees and the bytes of an image: the first that comes of a bad tree, bad bytes, another
-- machine's image, and the verdict on the tables (this project's own).
use Rattle.std.specs.Prelude.{◌≡◌, ℕ, ◌<◌, List, [], ◌∷◌, All, Some, slice_get, codes, decimal}
use Rattle.std.specs.Option.{option_map_or}
use Rattle.spin_base.specs.declared.chips.Chip.{Chip}
use Rattle.machine_desc.specs.Description.{Description}
use Rattle.app_graph.specs.declared.graphs.Net.{Net}
use Rattle.machine_desc.specs.declared.nets.NetPlan.{NetPlan}
use Rattle.table_load.specs.declared.tables.Image.{Image}
use Rattle.table_load.specs.Images.{Spells}
use Rattle.table_load.specs.Reading.{fault_of}
use Rattle.plan_check.specs.declared.verdicts.Verdict.TheVariants.{Right, Wrong, Split}
use Rattle.plan_check.specs.GoodTrees.{IsGood}
use Rattle.plan_check.specs.Verdicts.{IsVerdict}
use Rattle.run_report.specs.ReportText.{line, word}
use Rattle.spin_checks.specs.declared.findings.Finding.{Finding}
use Rattle.spin_checks.specs.declared.findings.Finding.TheVariants.{BadTree, BadImage, OtherMachine, Judged}

-- the net's tree is a routing tree from the source's chip to the targets
abbrev pub HasGoodTree : Description → NetPlan → Type 0
HasGoodTree m net = IsGood m net.tree net.source.chip net.targets

-- the net of this place is the first whose tree is not good
pub record IsFirstBad (m : Description) (nets : List NetPlan) (i : ℕ) : Type 0 where
  pub net : NetPlan
  pub there : slice_get nets i ≡ Some net
  pub bad : HasGoodTree m net → ⊥
  pub before : (j : ℕ) (other : NetPlan) → j < i → slice_get nets j ≡ Some other → HasGoodTree m other

-- the image is of the machine's grid
pub record IsOfGrid (m : Description) (v : Image) : Type 0 where
  pub width : v.width ≡ m.width
  pub height : v.height ≡ m.height
  pub wrap : v.wrap ≡ m.wrap

-- A tree is bad: the first such net is told. Else the bytes are no image: the place of the first fault is told. Else they spell
-- an image of another grid, or one of the machine's, on which there is a verdict.
abbrev pub IsFinding : Description → List NetPlan → List ℕ → Finding → Type 0
IsFinding m nets bytes (BadTree net) = IsFirstBad m nets net
IsFinding m nets bytes (BadImage at) = All (HasGoodTree m) nets × (fault_of bytes ≡ Some at)
IsFinding m nets bytes OtherMachine = All (HasGoodTree m) nets × (v : Image) × Spells v bytes × (IsOfGrid m v → ⊥)
IsFinding m nets bytes (Judged verdict) = All (HasGoodTree m) nets × (v : Image) × Spells v bytes × IsOfGrid m v × IsVerdict m nets v verdict

-- ---- the lines

-- the name of the net at a place
abbrev pub name_at : List Net → ℕ → List ℕ
name_at nets i = option_map_or (λ (net : Net). net.name) (slice_get nets i) []

abbrev pub bad_tree_line : List ℕ → List ℕ
bad_tree_line name = line (codes "bad" ∷ codes "tree" ∷ name ∷ [])

abbrev pub bad_image_line : ℕ → List ℕ
bad_image_line at = line (codes "bad" ∷ codes "image" ∷ decimal at ∷ [])

abbrev pub other_machine_line : List ℕ
other_machine_line = line (codes "other" ∷ codes "machine" ∷ [])

abbrev pub right_line : List ℕ
right_line = line (codes "right" ∷ [])

-- the net, the chip, and the key in hexadecimal
abbrev pub wrong_line : List ℕ → Chip → ℕ → List ℕ
wrong_line name c key = line (codes "wrong" ∷ name ∷ decimal c.x ∷ decimal c.y ∷ word key ∷ [])

-- the net, the chip, and the place of the row
abbrev pub split_line : List ℕ → Chip → ℕ → List ℕ
split_line name c row = line (codes "split" ∷ name ∷ decimal c.x ∷ decimal c.y ∷ decimal row ∷ [])

-- the line that tells a finding
abbrev pub finding_line : List Net → Finding → List ℕ
finding_line nets (BadTree net) = bad_tree_line (name_at nets net)
finding_line nets (BadImage at) = bad_image_line at
finding_line nets OtherMachine = other_machine_line
finding_line nets (Judged Right) = right_line
finding_line nets (Judged (Wrong net c key)) = wrong_line (name_at nets net) c key
finding_line nets (Judged (Split net c row)) = split_line (name_at nets net) c row
