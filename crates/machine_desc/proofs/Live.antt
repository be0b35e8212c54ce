-- The live chips, as the table counts them.
use Rattle.machine_desc.proofs.Common.{All, All-from_get_or, All-weaker, Bool, Chip, Description, IsInside, List, ap, arith, chip_eq, chip_of, count_by, count_by-agree, div-add-mod', div_below}
use Rattle.machine_desc.proofs.Common.{ext_get_or, false, get_or, get_or-map, get_or-map-range_with_len, grid_chips, index_of, is_live_chip, length, length-map, length-map-range_with_len, list_any}
use Rattle.machine_desc.proofs.Common.{live_count_of, map, mod_below, not, subst, suc, sym, true-and, zero, ℕ, ◌&&◌, ◌*◌, ◌+◌, ◌<◌, ◌∙◌, ◌≡◌}
pub use Rattle.spin_base.proofs.Counts.{count_by-map}
use Rattle.machine_desc.proofs.Far.{inside_from, inside_parts, same_index, index_below}

-- the chip of an index below width * height is inside the grid, and has that index
pub chip_of-inside : (m : Description) (i : ℕ) → i < m.width * m.height → IsInside m (chip_of m i)
chip_of-inside m i h = grind (arith, inside_from, div_below, mod_below)

pub index_of-chip_of : (m : Description) (i : ℕ) → index_of m (chip_of m i) ≡ i
index_of-chip_of m i = div-add-mod' i m.height

-- the chip of a chip's index
pub chip_of-index_of : (m : Description) (c : Chip) → IsInside m c → chip_of m (index_of m c) ≡ c
chip_of-index_of m c inside = grind (arith, same_index, chip_of-inside, index_below, index_of-chip_of)

-- the chips of the grid are inside it
pub grid_chips-inside : (m : Description) → All (IsInside m) (grid_chips m)
grid_chips-inside m = grind (arith, length-map-range_with_len (chip_of m) 0 (m.width * m.height), All-from_get_or, get_or-map-range_with_len, chip_of-inside)

abbrev is_listed_dead : Description → Chip → Bool
is_listed_dead m c = list_any (chip_eq c) m.dead_chips

-- the live chips are the places at which a table that tells of the dead chips has none
pub live_counted : (m : Description) (table : List Bool) → length table ≡ m.width * m.height →
    ((c : Chip) → (c.x < m.width) × (c.y < m.height) → get_or table (c.x * m.height + c.y) false ≡ list_any (chip_eq c) m.dead_chips) →
    count_by not table ≡ live_count_of m
live_counted m table long told =
    ap (λ t. count_by not t) same
    ∙ (count_by-map not (is_listed_dead m) (grid_chips m)
    ∙ count_by-agree (λ c. not (is_listed_dead m c)) (is_live_chip m) (grid_chips m)
    (All-weaker (IsInside m) (λ c. not (is_listed_dead m c) ≡ is_live_chip m c)
    (λ c h. sym (ap (λ b. b && not (is_listed_dead m c)) h ∙ true-and (not (is_listed_dead m c)))) (grid_chips m) (grid_chips-inside m)))
  where
    same : table ≡ map (is_listed_dead m) (grid_chips m)
    same = ext_get_or false table (map (is_listed_dead m) (grid_chips m))
        (long ∙ sym (length-map (grid_chips m) (is_listed_dead m) ∙ length-map-range_with_len (chip_of m) 0 (m.width * m.height)))
        (λ i h.
        let below : i < m.width * m.height = subst (λ n. i < n) long h in
        let long_too : i < length (grid_chips m) = rw (length-map-range_with_len (chip_of m) 0 (m.width * m.height)) below in
        ap (λ j. get_or table j false) (sym (index_of-chip_of m i))
        ∙ (told (chip_of m i) (inside_parts m (chip_of m i) (chip_of-inside m i below))
        ∙ sym (get_or-map (is_listed_dead m) (grid_chips m) i (chip_of m 0) false long_too
        ∙ ap (is_listed_dead m) (get_or-map-range_with_len (chip_of m) 0 (m.width * m.height) i i (chip_of m 0) below (omega arith)))))
