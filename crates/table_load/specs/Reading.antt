-- Reading an image from its first byte on, field by field, and the place of a fault: that of the first byte of the first
-- field that is not there whole, or whose number is not allowed. The format is this project's own.
use Rattle.std.specs.Prelude.{◌≡◌, ℕ, zero, suc, ◌-◌, ◌*◌, ◌^◌, ◌<◌, ◌%◌, List, [], ◌∷◌, length, take, drop, Bool, true, ◌&&◌, ◌||◌, Option, Some, None, Result, Ok, Err, nat_lt, nat_le, ◌==◌, bit_and, slice_index, if◌then◌else◌}
use Rattle.std.specs.Int.{Width, w8, w16, w32, byte_len, from_le_bytes}
use Rattle.std.proofs.Common.{lit<}
use Rattle.std.proofs.lemmas.Nat.{mod_below}
use Rattle.spin_base.specs.declared.chips.Chip.{Chip}
use Rattle.spin_base.specs.declared.routes.Route.{Route}
use Rattle.spin_base.specs.declared.blocks.Entry.{Entry}
use Rattle.table_load.specs.declared.faults.Stop.{Stop}
use Rattle.table_load.specs.declared.faults.Stop.TheVariants as stops
use Rattle.spin_base.specs.declared.blocks.ChipTable.{ChipTable}
use Rattle.spin_base.specs.declared.sizes.TheConstants.{ROUTER_ENTRIES}
use Rattle.table_load.specs.declared.tables.Image.{Image}

infixl 10 ◌>>=◌
-- one step of reading after the other, as long as there is no fault
abbrev pub ◌>>=◌ : {A B : Type 0} → Result A ℕ → (A → Result B ℕ) → Result B ℕ
(Ok x) >>= f = f x
(Err left) >>= f = Err left

-- What a reader returned is what reading gives, unless memory ran out.
abbrev pub StopsAt : {Y : Type 0} → Stop → Result Y ℕ → Type 0
StopsAt stops.Memory read = Unit {0}
StopsAt (stops.Left n) read = read ≡ Err n

abbrev pub GivesOrStops : {X Y : Type 0} → (X → Y) → Result X Stop → Result Y ℕ → Type 0
GivesOrStops view (Ok x) read = read ≡ Ok (view x)
GivesOrStops view (Err e) read = StopsAt e read

-- A number of so many bytes, the lowest first, and the bytes after it. Where they are not all there, it is a fault with as
-- many bytes left as there are.
unfoldable pub number : Width → List ℕ → Result (ℕ × List ℕ) ℕ
number w bytes =
    if nat_lt (length bytes) (byte_len w) then Err (length bytes) else Ok (from_le_bytes w (take (byte_len w) bytes), drop (byte_len w) bytes)

-- a field: a number that passes a test, else a fault of the field
unfoldable pub field : Width → (ℕ → Bool) → List ℕ → Result (ℕ × List ℕ) ℕ
field w allowed bytes = do
  n ← number w bytes
  if allowed n.0 then Ok n else Err (length bytes)

abbrev pub between : ℕ → ℕ → ℕ → Bool
between least most n = nat_le least n && nat_le n most

-- a key has no bit outside its mask
abbrev pub covers : ℕ → ℕ → Bool
covers key mask = bit_and key mask == key

-- a chip comes after the one before it, where there is one: by x, then y
abbrev pub comes_after : Option Chip → Chip → Bool
comes_after None c = true
comes_after (Some b) c = nat_lt b.x c.x || ((b.x == c.x) && nat_lt b.y c.y)

-- the route of a number below 2 ^ 24
abbrev pub route_of : ℕ → Route
route_of n = record { bits = n % 2 ^ 24; within = mod_below n (2 ^ 24) (lit< tt) }

-- a route: some output, and no bit above the 24
unfoldable pub read_route : List ℕ → Result (Route × List ℕ) ℕ
read_route bytes = do
  n ← field w32 (between 1 0xffffff) bytes
  Ok (route_of n.0, n.1)

-- a row: any key, a mask that covers it, and a route
unfoldable pub read_row : List ℕ → Result (Entry × List ℕ) ℕ
read_row bytes = do
  key ← number w32 bytes
  mask ← field w32 (covers key.0) key.1
  route ← read_route mask.1
  Ok (record { key = key.0; mask = mask.0; route = route.0 }, route.1)

unfoldable pub read_rows : ℕ → List ℕ → Result (List Entry × List ℕ) ℕ
read_rows zero bytes = Ok ([], bytes)
read_rows (suc n) bytes = do
  first ← read_row bytes
  others ← read_rows n first.1
  Ok (first.0 ∷ others.0, others.1)

-- a chip: x below the width, and y below the height so that the chip comes after the one before it
unfoldable pub read_chip : ℕ → ℕ → Option Chip → List ℕ → Result (Chip × List ℕ) ℕ
read_chip width height before bytes = do
  x ← field w8 (λ n. nat_lt n width) bytes
  y ← field w8 (λ n. nat_lt n height && comes_after before (record { x = x.0; y = n })) x.1
  Ok (record { x = x.0; y = y.0 }, y.1)

-- a table: its chip, how many rows it has, 1 to 1,024, and these
unfoldable pub read_table : ℕ → ℕ → Option Chip → List ℕ → Result (ChipTable × List ℕ) ℕ
read_table width height before bytes = do
  chip ← read_chip width height before bytes
  count ← field w16 (between 1 ROUTER_ENTRIES) chip.1
  rows ← read_rows count.0 count.1
  Ok (record { chip = chip.0; entries = rows.0 }, rows.1)

unfoldable pub read_tables : ℕ → ℕ → ℕ → Option Chip → List ℕ → Result (List ChipTable × List ℕ) ℕ
read_tables width height zero before bytes = Ok ([], bytes)
read_tables width height (suc n) before bytes = do
  first ← read_table width height before bytes
  others ← read_tables width height n (Some first.0.chip) first.1
  Ok (first.0 ∷ others.0, others.1)

-- An image, all of the bytes: the letters SPNT, the version 1, width and height, whether the grid wraps, how many tables
-- there are, at most one a chip, and these. Nothing follows.
unfoldable pub read_image : List ℕ → Result Image ℕ
read_image bytes = do
  letters ← field w32 (between 0x544e5053 0x544e5053) bytes
  version ← field w8 (between 1 1) letters.1
  width ← field w8 (between 1 64) version.1
  height ← field w8 (between 1 64) width.1
  wrap ← field w8 (between 0 1) height.1
  count ← field w16 (between 0 (width.0 * height.0)) wrap.1
  chips ← read_tables width.0 height.0 count.0 None count.1
  if length chips.1 == 0
      then Ok (record { width = width.0; height = height.0; wrap = wrap.0 == 1; chips = chips.0 })
      else Err (length chips.1)

-- The place of a fault is counted from the first byte.
abbrev pub fault_place_in : ℕ → Result Image ℕ → Option ℕ
fault_place_in size (Ok v) = None
fault_place_in size (Err left) = Some (size - left)

-- The place of the first byte of the first field that is not there whole or is not allowed. Bytes after the last row are
-- such a field. Where all fields are there and allowed, there is none.
abbrev pub fault_of : List ℕ → Option ℕ
fault_of bytes = fault_place_in (length bytes) (read_image bytes)

-- each item is a byte
abbrev pub AreBytes : List ℕ → Type 0
AreBytes bytes = (i : ℕ) → slice_index bytes i < 256
