-- The image of a grid's tables, and its spelling as bytes. The format is this project's own.
use Rattle.std.specs.Prelude.{◌≡◌, ℕ, ◌*◌, ◌^◌, ◌<◌, ◌≤◌, ◌⊎◌, List, [], ◌∷◌, ◌++◌, length, All, AllPairs, bit_and, if◌then◌else◌}
use Rattle.std.specs.Int.{w16, w32, to_le_bytes}
use Rattle.std.specs.List.{flat_map}
use Rattle.spin_base.specs.declared.chips.Chip.{Chip}
use Rattle.spin_base.specs.declared.blocks.Entry.{Entry}
use Rattle.spin_base.specs.declared.blocks.ChipTable.{ChipTable}
use Rattle.spin_base.specs.declared.sizes.TheConstants.{ROUTER_ENTRIES}
use Rattle.table_load.specs.declared.tables.Image.{Image}

-- a row that a table may have: no bit of the key outside the mask, a mask of 32 bits, and some output
abbrev pub IsRow : Entry → Type 0
IsRow e = (bit_and e.key e.mask ≡ e.key) × (e.mask < 2 ^ 32) × (0 < e.route.bits)

-- chips are ordered by x, then y
abbrev pub IsChipBefore : Chip → Chip → Type 0
IsChipBefore a b = (a.x < b.x) ⊎ ((a.x ≡ b.x) × (a.y < b.y))

-- a table that an image of a grid may have: of a chip inside the grid, with 1 to 1,024 rows
pub record IsTable (width height : ℕ) (t : ChipTable) : Type 0 where
  pub inside : (t.chip.x < width) × (t.chip.y < height)
  pub some_rows : (0 < length t.entries) × (length t.entries ≤ ROUTER_ENTRIES)
  pub rows : All IsRow t.entries

-- A valid image: a grid of 1 to 64 by 1 to 64 chips, its tables in the order of their chips, one a chip at most.
pub record IsValid (v : Image) : Type 0 where
  pub across : (0 < v.width) × (v.width ≤ 64)
  pub down : (0 < v.height) × (v.height ≤ 64)
  pub few : length v.chips ≤ v.width * v.height
  pub tables : All (IsTable v.width v.height) v.chips
  pub ordered : AllPairs (λ s t. IsChipBefore s.chip t.chip) v.chips

-- a row: key, mask and route, each of four bytes, the lowest first
abbrev pub row_bytes : Entry → List ℕ
row_bytes e = to_le_bytes w32 e.key ++ to_le_bytes w32 e.mask ++ to_le_bytes w32 e.route.bits

-- a table: x, y, the number of rows in two bytes, and the rows
abbrev pub table_bytes : ChipTable → List ℕ
table_bytes t = (t.chip.x ∷ t.chip.y ∷ []) ++ to_le_bytes w16 (length t.entries) ++ flat_map row_bytes t.entries

-- the letters SPNT, the version 1, width, height, whether the grid wraps, and the number of tables in two bytes
abbrev pub head_bytes : Image → List ℕ
head_bytes v = (0x53 ∷ 0x50 ∷ 0x4e ∷ 0x54 ∷ []) ++ (1 ∷ v.width ∷ v.height ∷ (if v.wrap then 1 else 0) ∷ []) ++ to_le_bytes w16 (length v.chips)

-- The bytes spell the image: it is valid, and they are its head and its tables, and nothing more.
pub record Spells (v : Image) (bytes : List ℕ) : Type 0 where
  pub valid : IsValid v
  pub fields : bytes ≡ head_bytes v ++ flat_map table_bytes v.chips
