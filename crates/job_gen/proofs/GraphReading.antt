-- The graph of a generated job is read as it was drawn.
use Rattle.job_gen.proofs.Common.{All, DrawnNet, IsDrawnNet, List, Net, None, Some, Vertex, [], and_from, ap, arith, codes, decimal, generated_vertex_name, has_item, if◌then◌else◌, is_some, is_within}
use Rattle.job_gen.proofs.Common.{le-leb, length, list_of-items_of, map, map-id, name_place_in, next_net_faults, next_vertex_faults, option_and_then, refl, slice_get, suc, true, unwrap_or, zero, ℕ}
use Rattle.job_gen.proofs.Common.{◌+◌, ◌<◌, ◌∙◌, ◌∷◌, ◌≡◌, ◌≤◌}
use Rattle.job_readers.specs.{Members.list_member, Members.member_since, Members.number_member, Members.number_member_faults, Places.new_name_faults, Places.reference_faults, Places.reference_value}
use Rattle.job_readers.specs.GraphPart.{at_faults, at_value, device_faults, device_value, name_faults, name_value, net_source_faults, sender_at, sender_in, source_value, target_faults, target_value}
use Rattle.job_readers.specs.GraphPart.{fixed_faults, fixed_value, keys_value, net_faults, net_names, net_value, some_faults, targets_faults, vertex_faults, vertex_names_of, vertex_value}
use Rattle.job_readers.specs.GraphPart.{targets_value}
use Rattle.job_gen.specs.{Generated.generated_vertex, Generated.net_of, Values.name_data, Values.net_data, Values.numbered, Values.vertex_data}
use Rattle.job_gen.proofs.{NameLemmas.AreBelow, NameLemmas.absent, NameLemmas.found, NameLemmas.named, ListReading.items_clean, ListReading.items_are}

pub within : (low high n : ℕ) → low ≤ n → n ≤ high → is_within low high n ≡ true
within low high n above below = and_from _ _ (le-leb low n above) (le-leb n high below)

-- ---- vertices

pub vertex_clean : (before : List Vertex) (path : List ℕ) (i sdram : ℕ) → AreBelow 118 i (map (λ (v : Vertex). v.name) before) → i < 1000 → sdram ≤ 1048576
    → next_vertex_faults 1 before path (vertex_data i sdram) ≡ []
unfolding vertex_faults name_faults new_name_faults number_member_faults at_faults device_faults member_since vertex_names_of vertex_data
vertex_clean before path i sdram below small few = grind (arith, named 118 i (omega arith) (omega arith) small, within 0 134217728 sdram (omega arith) (omega arith), absent)

pub vertex_is : (i sdram : ℕ) → vertex_value 1 (vertex_data i sdram) ≡ generated_vertex i sdram
unfolding vertex_value name_value number_member at_value device_value member_since vertex_data generated_vertex
vertex_is i sdram = refl

pub vertex_named : (i sdram : ℕ) → (generated_vertex i sdram).name ≡ 118 ∷ decimal i
unfolding generated_vertex
vertex_named i sdram = refl

-- ---- the vertex of a name

module _ (sdrams : List ℕ) (many : length sdrams ≡ 200) where
  place : (i : ℕ) → i < 200 → name_place_in (vertex_names_of (numbered generated_vertex 0 sdrams)) (generated_vertex_name i) ≡ Some i
  unfolding vertex_names_of
  place i below =
      let number : i ≡ 0 + i = omega arith in
      ap (λ j. name_place_in (vertex_names_of (numbered generated_vertex 0 sdrams)) (118 ∷ decimal j)) number
      ∙ found 118 (λ (v : Vertex). v.name) generated_vertex vertex_named 0 i sdrams (omega (arith, many)) (omega (arith, many))

  -- none of them is a device
  no_device : (number i k : ℕ) (xs : List ℕ) → k < length xs →
      option_and_then (λ (v : Vertex). if is_some v.device then None else Some number) (slice_get (numbered generated_vertex i xs) k) ≡ Some number
  unfolding numbered generated_vertex
  no_device number i k [] below = absurd (omega arith)
  no_device number i zero (x ∷ xs) below = refl
  no_device number i (suc k) (x ∷ xs) below = no_device number (i + 1) k xs (omega arith)

  sender : (i : ℕ) → i < 200 → sender_in (numbered generated_vertex 0 sdrams) (generated_vertex_name i) ≡ Some i
  unfolding sender_in sender_at
  sender i below = ap (option_and_then (sender_at (numbered generated_vertex 0 sdrams))) (place i below) ∙ no_device i 0 i sdrams (omega (arith, many))

  target_clean : (path : List ℕ) (t : ℕ) → t < 200 → target_faults (vertex_names_of (numbered generated_vertex 0 sdrams)) path (name_data t) ≡ []
  unfolding target_faults reference_faults name_data
  target_clean path t below = grind (arith, named 118 t (omega arith) (omega arith) (omega arith), place t below)

  target_is : (t : ℕ) → t < 200 → target_value (vertex_names_of (numbered generated_vertex 0 sdrams)) (name_data t) ≡ t
  unfolding target_value reference_value name_data
  target_is t below = ap (λ o. unwrap_or o 0) (place t below)

  -- ---- nets

  source_clean : (path : List ℕ) (i : ℕ) (net : DrawnNet) → net.source < 200 → net_source_faults (numbered generated_vertex 0 sdrams) path (net_data i net) ≡ []
  unfolding net_source_faults net_data name_data
  source_clean path i net below = grind (arith, named 118 net.source (omega arith) (omega arith) (omega arith), sender net.source below)

  source_is : (i : ℕ) (net : DrawnNet) → net.source < 200 → source_value (numbered generated_vertex 0 sdrams) (net_data i net) ≡ net.source
  unfolding source_value net_data name_data
  source_is i net below = ap (λ o. unwrap_or o 0) (sender net.source below)

  has_some : (ts : List ℕ) → 1 ≤ length ts → has_item (map name_data ts) ≡ true
  has_some [] some = absurd (omega arith)
  has_some (t ∷ ts) some = refl

  targets_clean : (path : List ℕ) (i : ℕ) (net : DrawnNet) → 1 ≤ length net.targets → All (λ t. t < 200) net.targets
      → targets_faults (vertex_names_of (numbered generated_vertex 0 sdrams)) path (net_data i net) ≡ []
  unfolding targets_faults some_faults list_member net_data
  targets_clean path i net some below =
      rw (
        list_of-items_of (map name_data net.targets),
        has_some net.targets some,
        items_clean (λ t. t < 200) (target_faults (vertex_names_of (numbered generated_vertex 0 sdrams))) name_data target_clean _ 0 net.targets below,
      ) refl

  targets_are : (i : ℕ) (net : DrawnNet) → All (λ t. t < 200) net.targets → targets_value (vertex_names_of (numbered generated_vertex 0 sdrams)) (net_data i net) ≡ net.targets
  unfolding targets_value list_member net_data
  targets_are i net below =
      ap (map (target_value (vertex_names_of (numbered generated_vertex 0 sdrams)))) (list_of-items_of (map name_data net.targets))
      ∙ items_are (λ t. t < 200) (target_value (vertex_names_of (numbered generated_vertex 0 sdrams))) name_data (λ t. t) target_is net.targets below
      ∙ map-id net.targets

  own_name : (before : List Net) (path : List ℕ) (i : ℕ) (net : DrawnNet) → AreBelow 110 i (map (λ (n : Net). n.name) before) → i < 1000
      → name_faults (net_names before) path (net_data i net) ≡ []
  unfolding name_faults new_name_faults net_names net_data
  own_name before path i net below small = grind (arith, named 110 i (omega arith) (omega arith) small, absent)

  keys_clean : (path : List ℕ) (i : ℕ) (net : DrawnNet) → 1 ≤ net.keys → net.keys ≤ 16 → number_member_faults path (codes "keys") 1 4294967296 (Some 1) (net_data i net) ≡ []
  unfolding number_member_faults net_data
  keys_clean path i net some few = rw (within 1 4294967296 net.keys some (omega arith)) refl

  pub net_clean : (before : List Net) (path : List ℕ) (i : ℕ) (net : DrawnNet) → AreBelow 110 i (map (λ (n : Net). n.name) before) → i < 1000 → IsDrawnNet net
      → next_net_faults 1 (numbered generated_vertex 0 sdrams) before path (net_data i net) ≡ []
  unfolding net_faults fixed_faults member_since net_data
  net_clean before path i net below small drawn = grind (arith, own_name, source_clean, targets_clean, keys_clean)

  pub net_is : (i : ℕ) (net : DrawnNet) → IsDrawnNet net → net_value 1 (numbered generated_vertex 0 sdrams) (net_data i net) ≡ net_of i net
  unfolding net_value name_value keys_value number_member fixed_value member_since net_data net_of
  net_is i net drawn = rw (source_is i net drawn.source, targets_are i net drawn.targets) refl

pub net_named : (i : ℕ) (net : DrawnNet) → (net_of i net).name ≡ 110 ∷ decimal i
unfolding net_of
net_named i net = refl
