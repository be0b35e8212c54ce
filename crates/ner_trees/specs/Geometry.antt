-- How far chips are from each other on the triangular mesh, closed to a torus or not.
use Rattle.std.specs.Prelude.{ℕ, ◌+◌, ◌-◌, ◌%◌, ◌≤◌, ◌==◌, Bool, true, false, nat_lt, if◌then◌else◌, ℤ, pos, negsuc, suc, ◌-ℤ◌, int_lt, unsigned_abs}
use Rattle.std.specs.Int.{int_max, int_min}
use Rattle.spin_base.specs.declared.chips.Chip.{Chip}
use Rattle.machine_desc.specs.Description.{Description}
use Rattle.ner_trees.specs.declared.displacements.Disp.{Disp}

-- Steps along both axes at once, as North-East leads, are one link. So the length of a displacement, the number of
-- links that it takes, is the greatest of a, b and 0 less the least of them (triangular mesh, SpiNNaker datasheet).
abbrev pub length_of : Disp → ℕ
length_of d = unsigned_abs (int_max (int_max d.a d.b) (pos 0) -ℤ int_min (int_min d.a d.b) (pos 0))

-- how much a number is above 0, and how much below
abbrev pub forth : ℤ → ℕ
forth (pos n) = n
forth (negsuc n) = 0

abbrev pub back : ℤ → ℕ
back (pos n) = 0
back (negsuc n) = suc n

-- Displacements between the chips of a machine are at most 64 along each axis.
abbrev pub IsSmall : Disp → Type 0
IsSmall d = (unsigned_abs d.a ≤ 64) × (unsigned_abs d.b ≤ 64)

-- Displacements are put in the order of (length, |a|, |b|, a, b) (this project's own).
abbrev pub first_differs : ℕ → ℕ → Bool → Bool
first_differs m n rest = if m == n then rest else nat_lt m n

abbrev pub is_before_signed : ℤ → ℤ → Bool → Bool
is_before_signed y z rest = if int_lt y z then true else (if int_lt z y then false else rest)

abbrev pub is_before : Disp → Disp → Bool
is_before d e =
    first_differs (length_of d) (length_of e)
    (first_differs (unsigned_abs d.a) (unsigned_abs e.a)
    (first_differs (unsigned_abs d.b) (unsigned_abs e.b)
    (is_before_signed d.a e.a (int_lt d.b e.b))))

-- the first of two in that order
abbrev pub lesser_disp : Disp → Disp → Disp
lesser_disp d e = if is_before e d then e else d

-- the number of places from p ahead to q on an axis that is closed to a ring: their difference modulo the places
abbrev pub ahead_by : ℕ → ℕ → ℕ → ℕ
ahead_by places p q = (q + (places - p)) % places

abbrev pub disp : ℤ → ℤ → Disp
disp a b = record { a = a; b = b }

-- On a torus a displacement leads ahead along each axis, or back by what is then left of the axis. Of these four it is
-- the first in order (this project's own).
unfoldable pub on_torus : ℕ → ℕ → ℕ → ℕ → Disp
on_torus width height a b =
    lesser_disp (lesser_disp (lesser_disp (disp (pos a) (pos b))
    (disp (pos a -ℤ pos width) (pos b)))
    (disp (pos a) (pos b -ℤ pos height)))
    (disp (pos a -ℤ pos width) (pos b -ℤ pos height))

-- The displacement from one chip to another: the difference of their coordinates on an open grid.
unfoldable pub displacement_of : Description → Chip → Chip → Disp
displacement_of m p q =
    if m.wrap then on_torus m.width m.height (ahead_by m.width p.x q.x) (ahead_by m.height p.y q.y)
    else disp (pos q.x -ℤ pos p.x) (pos q.y -ℤ pos p.y)

abbrev pub distance_of : Description → Chip → Chip → ℕ
distance_of m p q = length_of (displacement_of m p q)
