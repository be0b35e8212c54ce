-- Serving an output: the hands after it, and the queue behind it.
use Rattle.mesh_core.proofs.Common.{All, All-head, All-tail, Bool, Chip, Core, Description, Dir, Entry, Hand, IsSite, Link, List, McCopy, None, Option, Out, Port, Some, Spot, State, [], and_from}
use Rattle.mesh_core.proofs.Common.{and_parts, ap, arith, both_ways, chip_eq_same, chip_eq_true, cond, dir_at-dir_number, dir_number, false, get_or, get_or_from_slice_get, hands_after, if◌then◌else◌}
use Rattle.mesh_core.proofs.Common.{index_of, is_some, last_hop, leads_to_spot, length, lookup, out_eq_same, out_eq_true, out_of, out_of-core, out_of-device, outputs, outs_of, outs_without}
use Rattle.mesh_core.proofs.Common.{position-Some, position_from, position_from-zero, refl, rules, same_spot, set, set-set, set-slice_get, site_parts, slice_get, slice_get-get_or, spot_eq}
use Rattle.mesh_core.proofs.Common.{spot_eq_same, spot_eq_true, spot_of_core, spot_of_link, sym, true, vertex_at, vertex_behind, ℕ, ◌+◌, ◌-◌, ◌<◌, ◌==◌, ◌∙◌, ◌∷◌, ◌≡◌}
use Rattle.mesh_core.specs.Step.{in_hand}
use Rattle.mesh_core.proofs.VertexTableLaws.{vertex_at-from}

-- a hand served an output
pub hands_after-some : (hands : List (Option Hand)) (i : ℕ) (o : Out) (d x r : Option Hand) (h : Hand) → i < length hands → get_or hands i d ≡ Some h →
    r ≡ in_hand h.copy h.port (outs_without o h.outs) → set (set hands i x) i r ≡ hands_after hands i o (slice_get hands i)
hands_after-some hands i o d x r h below here after_serving = grind (arith, slice_get-get_or hands i d below, set-set hands i x r)

-- there was no hand
pub hands_after-none : (hands : List (Option Hand)) (i : ℕ) (o : Out) (d x : Option Hand) → i < length hands → get_or hands i d ≡ None → x ≡ None →
    set hands i x ≡ hands_after hands i o (slice_get hands i)
hands_after-none hands i o d x below here none = grind (arith, slice_get-get_or hands i d below, set-slice_get hands i None (slice_get-get_or hands i d below ∙ ap Some here))

-- tests that answer alike find the same
position-same : (t u : Spot → Bool) (xs : List Spot) (n : ℕ) → All (λ x. t x ≡ u x) xs → position_from t n xs ≡ position_from u n xs
position-same t u [] n same = refl
position-same t u (x ∷ xs) n same =
    ap (λ b. cond b (Some n) (position_from t (n + 1) xs)) (All-head (λ z. t z ≡ u z) x xs same)
    ∙ ap (λ q. cond (u x) (Some n) q) (position-same t u xs (n + 1) (All-tail (λ z. t z ≡ u z) x xs same))

vertex_behind-from : (spots : List Spot) (c : Chip) (o : Out) → vertex_behind spots c o ≡ position_from (leads_to_spot c o) 0 spots
vertex_behind-from spots c o = position_from-zero (leads_to_spot c o) spots

-- an output that leads to a spot's chip and number leads to that spot
leads_there : (o : Out) (t s : Spot) → o ≡ out_of t.core → spot_eq t s ≡ true → leads_to_spot t.chip o s ≡ true
leads_there o t s is same = grind (arith, spot_eq_true t s same, chip_eq_same t.chip, out_eq_same o, and_from)

leads_back : (o : Out) (t s : Spot) → (out_of s.core ≡ o → s.core ≡ t.core) → leads_to_spot t.chip o s ≡ true → spot_eq t s ≡ true
leads_back o t s number leads = search (rules, and_parts, chip_eq_true, same_spot, out_eq_true, spot_eq_same)

-- the vertex behind an output is the vertex on the spot to which it leads
vertex_behind-is : (spots : List Spot) (o : Out) (t : Spot) → o ≡ out_of t.core → All (λ s. out_of s.core ≡ o → s.core ≡ t.core) spots → vertex_behind spots t.chip o ≡ vertex_at spots t
vertex_behind-is spots o t is numbers =
    vertex_behind-from spots t.chip o
    ∙ (position-same (leads_to_spot t.chip o) (spot_eq t) spots 0
    (λ k d below. both_ways _ _ (leads_back o t (get_or spots k d) (numbers k d below)) (leads_there o t (get_or spots k d) is))
    ∙ sym (vertex_at-from spots t))

pub vertex_behind-core : (spots : List Spot) (t : Spot) → t.core < 18 → vertex_behind spots t.chip (Core t.core) ≡ vertex_at spots t
vertex_behind-core spots t small = grind (arith, out_of-core t.core small, vertex_behind-is, spot_of_core, get_or)

pub vertex_behind-link : (m : Description) (spots : List Spot) (t : Spot) (d : Dir) → t.core ≡ 18 + dir_number d → All (IsSite m) spots → vertex_behind spots t.chip (Link d) ≡ vertex_at spots t
vertex_behind-link m spots t d is sites = grind (arith, dir_at-dir_number d, out_of-device t.core (omega (arith, is)), vertex_behind-is, spot_of_link, get_or, site_parts)

-- a vertex on a spot is one of those that there are
pub vertex_at-below : (spots : List Spot) (s : Spot) (v : ℕ) → vertex_at spots s ≡ Some v → v < length spots
vertex_at-below spots s v e = (position-Some (spot_eq s) spots v s e).0

-- the same, by the table at a place of a list
pub outputs_at : (s : State) (c : Chip) (port : Port) (k : McCopy) (n : ℕ) (tables : List (List Entry)) (table d : List Entry) → n ≡ index_of s.setup.machine c →
    tables ≡ s.setup.tables → n < length tables → table ≡ get_or tables n d →
    (if k.hop == last_hop then [] else outs_of (lookup table k.key port)) ≡ outputs s.setup c port k
outputs_at s c port k n tables table d at same below here = grind (arith, slice_get-get_or, get_or_from_slice_get, get_or)

-- a hand that isn't there
pub no_hand : (hands : List (Option Hand)) (i : ℕ) (x : Option Hand) → i < length hands → x ≡ get_or hands i x → is_some x ≡ false → slice_get hands i ≡ Some None
no_hand hands i x below read none = grind (arith, slice_get-get_or, is_some)
