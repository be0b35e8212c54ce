-- Trees that grow over the mesh: each target is joined to a chip of the tree that is near it.
use Rattle.std.specs.Prelude.{◌≡◌, ℕ, ◌<◌, ◌≤◌, ◌⊎◌, ◌↔◌, List, [], ◌∷◌, ◌++◌, map, Option, Some, None, All, Contains}
use Rattle.std.specs.List.{sum_by}
use Rattle.spin_base.specs.{declared.chips.Chip.Chip, declared.chips.Dir.Dir}
use Rattle.machine_desc.specs.{declared.trees.Edge.Edge, Description.Description, Live.far_of, Live.index_of, RoutingTree.IsTreeChip, EdgeOrder.AreEdgesInOrder}
use Rattle.ner_trees.specs.{declared.growths.Join.Join, Geometry.displacement_of, Geometry.distance_of, LongestFirst.ldf_of}

-- the chip where a step leads, and the same chip where the link leads nowhere
abbrev pub or_stay : Chip → Option Chip → Chip
or_stay c None = c
or_stay c (Some e) = e

abbrev pub next_of : Description → Chip → Dir → Chip
next_of m c d = or_stay c (far_of m c d)

-- the chip where a walk ends, and the links that it takes
abbrev pub end_of_walk : Description → Chip → List Dir → Chip
end_of_walk m c [] = c
end_of_walk m c (d ∷ ds) = end_of_walk m (next_of m c d) ds

abbrev pub links_of : Description → Chip → List Dir → List Edge
links_of m c [] = []
links_of m c (d ∷ ds) = record { chip = c; dir = d } ∷ links_of m (next_of m c d) ds

-- The order in which chips are near a target: by distance to it, then by x, then by y.
abbrev pub IsNotFarther : Description → Chip → Chip → Chip → Type 0
IsNotFarther m t c e =
    (distance_of m c t < distance_of m e t) ⊎ ((distance_of m c t ≡ distance_of m e t) × (index_of m c ≤ index_of m e))

-- a chip of the tree from which the target is at most so many links away
abbrev pub IsTreeChipWithin : Description → Chip → List Edge → Chip → ℕ → Chip → Type 0
IsTreeChipWithin m root tree t radius c = IsTreeChip m root tree c × (distance_of m c t ≤ radius)

-- A target is joined to the nearest chip of the tree within 20 links, and to the root where there is none (Navaridas
-- and others, 2015; the radius and the order of ties are this project's own).
abbrev pub IsNear : Description → Chip → List Edge → Chip → Chip → Type 0
IsNear m root tree t near =
    (IsTreeChipWithin m root tree t 20 near × ((e : Chip) → IsTreeChipWithin m root tree t 20 e → IsNotFarther m t near e))
    ⊎ (((e : Chip) → IsTreeChipWithin m root tree t 20 e → ⊥) × (near ≡ root))

-- The walk from there to the target may cross the tree. The last chip of the walk that is in the tree is where the new
-- branch starts, and only the links after that chip are added.
pub record IsAdded (m : Description) (root : Chip) (tree : List Edge) (join : Join) (added : List Edge) : Type 0 where
  pub passed : List Dir
  pub rest : List Dir
  pub walk : ldf_of (displacement_of m join.near join.target) ≡ passed ++ rest
  pub start_is : end_of_walk m join.near passed ≡ join.start
  pub on_tree : IsTreeChip m root tree join.start
  pub added_is : added ≡ links_of m join.start rest
  pub off_tree : All (λ e. IsTreeChip m root tree (next_of m e.chip e.dir) → ⊥) added

-- the tree with the branch of a target that is joined to it
abbrev pub IsJoinedBy : Description → Chip → List Edge → Join → List Edge → Type 0
IsJoinedBy m root tree join whole =
    IsNear m root tree join.target join.near × ((added : List Edge) × IsAdded m root tree join added × (whole ≡ tree ++ added))

-- The targets are joined one after the other, each to the tree as it is then.
abbrev pub Grows : Description → Chip → List Edge → List Join → List Edge → Type 0
Grows m root tree [] whole = tree ≡ whole
Grows m root tree (j ∷ joins) whole =
    IsNear m root tree j.target j.near × ((added : List Edge) × IsAdded m root tree j added × Grows m root (tree ++ added) joins whole)

-- The tree of a list of targets: it grows from the root alone by the targets in the order of their list, and its edges
-- are put in order at the end.
pub record IsGrown (m : Description) (root : Chip) (targets : List Chip) (joins : List Join) (edges : List Edge) : Type 0 where
  pub each_joined : map (λ j. j.target) joins ≡ targets
  pub whole : List Edge
  pub grows : Grows m root [] joins whole
  pub same_edges : (e : Edge) → Contains edges e ↔ Contains whole e
  pub in_order : AreEdgesInOrder edges

-- how far the targets are from the root, all together
abbrev pub distance_sum : Description → Chip → List Chip → ℕ
distance_sum m root targets = sum_by (distance_of m root) targets

-- a machine none of whose chips and links is dead
pub record IsWithoutDead (m : Description) : Type 0 where
  pub no_chip : m.dead_chips ≡ []
  pub no_link : m.dead_links ≡ []
