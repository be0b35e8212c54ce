-- What it means that a tree wants an output at a chip: an edge leaves by it, or it leads to a target there.
use Rattle.machine_desc.proofs.Common.{Any-from_list_any, Chip, Contains, Dir, Edge, Link, List, Out, Spot, and_from, and_parts, ap, arith, chip_eq_same, chip_eq_true, edge_eq, false≢true, is_wanted}
use Rattle.machine_desc.proofs.Common.{leads_to_spot, list_any_at, or_cases, or_left, or_right, out_eq_same, out_eq_true, out_of, rules, true, ◌∙◌, ◌≡◌, ◌⊎◌}
use Rattle.machine_desc.proofs.Same.{edge_eq-true, edge_eq_self}

-- a spot to which an output leads
pub spot_of_out : (c : Chip) (o : Out) (s : Spot) → leads_to_spot c o s ≡ true → (s.chip ≡ c) × (o ≡ out_of s.core)
spot_of_out c o s h = grind (arith, and_parts, chip_eq_true, out_eq_true)

pub leads_to_own : (s : Spot) → leads_to_spot s.chip (out_of s.core) s ≡ true
leads_to_own s = and_from _ _ (chip_eq_same s.chip) (out_eq_same (out_of s.core))

pub wanted_cases : (edges : List Edge) (targets : List Spot) (c : Chip) (o : Out) → is_wanted edges targets c o ≡ true →
    ((d : Dir) × (o ≡ Link d) × Contains edges (record { chip = c; dir = d }))
    ⊎ ((s : Spot) × Contains targets s × (s.chip ≡ c) × (o ≡ out_of s.core))
wanted_cases edges targets c o h = search (rules, or_cases, Any-from_list_any, spot_of_out, edge_eq-true, false≢true)

pub edge_wanted : (edges : List Edge) (targets : List Spot) (e : Edge) → Contains edges e → is_wanted edges targets e.chip (Link e.dir) ≡ true
edge_wanted edges targets e has = grind (arith, list_any_at (edge_eq e) edges has.0 e has.1 (ap (edge_eq e) has.2 ∙ edge_eq_self e), edge_eq_self e, or_left)

pub end_wanted : (edges : List Edge) (targets : List Spot) (s : Spot) → Contains targets s → is_wanted edges targets s.chip (out_of s.core) ≡ true
end_wanted edges targets s has = grind (arith, list_any_at, leads_to_own, or_right)
