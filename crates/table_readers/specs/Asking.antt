-- Tables to be shortened, as JSON: all faults in the order of reading, and what they are (this project's own).
use Rattle.std.specs.Prelude.{◌==◌, ℕ, Bool, false, ◌≤◌, ◌%◌, ◌<◌, if◌then◌else◌, List, [], ◌∷◌, ◌++◌, true, Some, None, map, length, codes, bit_and}
use Rattle.std.proofs.Common.{lit<}
use Rattle.std.proofs.lemmas.Nat.{mod_below}
use Rattle.serde_json.specs.Data.{Data}
use Rattle.spin_base.specs.declared.chips.Chip.{Chip}
use Rattle.spin_base.specs.declared.chips.Port.TheVariants.{Link, Local}
use Rattle.spin_base.specs.declared.routes.Route.{Route}
use Rattle.job_text.specs.declared.faults.JobFault.{JobFault}
use Rattle.job_text.specs.declared.faults.JobFault.TheVariants.{Shape}
use Rattle.job_text.specs.Reading.{◌▹◌}
use Rattle.job_text.specs.Members.{member_of}
use Rattle.job_text.specs.Paths.{member_at}
use Rattle.job_text.specs.Fields.{flag_faults, flag_value, number_faults, number_value, range_unless}
use Rattle.job_readers.specs.Members.{list_member, list_member_faults}
use Rattle.job_readers.specs.Blocks.{block_at}
use Rattle.job_readers.specs.Entries.{chip_of_numbers, link_of}
use Rattle.job_readers.specs.Items.{items_faults}
use Rattle.job_readers.specs.RunPart.{items_in}
use Rattle.table_rules.specs.declared.rows.RoutedBlock.{RoutedBlock}
use Rattle.table_readers.specs.declared.asking.Asked.{Asked}
use Rattle.table_readers.specs.declared.asking.GivenTable.{GivenTable}

-- a key, a mask or a route of a row
abbrev pub key_faults : List ℕ → Data → List JobFault
key_faults path d = number_faults path 0 4294967295 None (Some d)

abbrev pub route_faults : List ℕ → Data → List JobFault
route_faults path d = number_faults path 0 16777215 None (Some d)

abbrev pub whole_value : Data → ℕ
whole_value d = number_value None (Some d)

-- A row is [key,mask,route]: a key and a mask of 32 bits, and a route of 24. Range of the row, too, where the key has a bit outside
-- the mask, so that no key is in the block.
abbrev pub numbers_faults : List ℕ → Data → Data → Data → List JobFault
numbers_faults path k m r =
    key_faults path k ▹ (key_faults path m ▹ (route_faults path r ▹ range_unless (bit_and (whole_value k) (whole_value m) == whole_value k) path))

-- Or it is [key,mask,route,link], with the number of the link by which its packets come in.
abbrev pub four_faults : List ℕ → Data → Data → Data → Data → List JobFault
four_faults path k m r l = numbers_faults path k m r ▹ number_faults path 0 5 None (Some l)

unfoldable pub rest_faults : List ℕ → Data → Data → Data → List Data → List JobFault
rest_faults path k m r [] = numbers_faults path k m r
rest_faults path k m r (l ∷ ds) = if length ds == 0 then four_faults path k m r l else Shape path ∷ []

unfoldable pub one_faults : List ℕ → Data → Data → List Data → List JobFault
one_faults path k m [] = Shape path ∷ []
one_faults path k m (r ∷ ds) = rest_faults path k m r ds

unfoldable pub two_faults : List ℕ → Data → List Data → List JobFault
two_faults path k [] = Shape path ∷ []
two_faults path k (m ∷ ds) = one_faults path k m ds

unfoldable pub three_faults : List ℕ → List Data → List JobFault
three_faults path [] = Shape path ∷ []
three_faults path (k ∷ ds) = two_faults path k ds

unfoldable pub row_faults : List ℕ → Data → List JobFault
row_faults path d = three_faults path (items_in d)

-- the route of the low 24 bits
unfoldable pub route_at : ℕ → Route
route_at bits = record { bits = bits % 16777216; within = mod_below bits 16777216 (lit< tt) }

-- a row of which it is not told by which link its packets come in
abbrev pub row_of_numbers : ℕ → ℕ → ℕ → RoutedBlock
row_of_numbers key mask bits = record { block = block_at key mask; route = route_at bits; port = Local }

abbrev pub numbers_value : Data → Data → Data → RoutedBlock
numbers_value k m r = row_of_numbers (whole_value k) (whole_value m) (whole_value r)

abbrev pub four_value : Data → Data → Data → Data → RoutedBlock
four_value k m r l = record { block = block_at (whole_value k) (whole_value m); route = route_at (whole_value r); port = Link (link_of (whole_value l)) }

unfoldable pub rest_value : Data → Data → Data → List Data → RoutedBlock
rest_value k m r [] = numbers_value k m r
rest_value k m r (l ∷ ds) = four_value k m r l

unfoldable pub one_value : Data → Data → List Data → RoutedBlock
one_value k m [] = row_of_numbers 0 0 0
one_value k m (r ∷ ds) = rest_value k m r ds

unfoldable pub two_value : Data → List Data → RoutedBlock
two_value k [] = row_of_numbers 0 0 0
two_value k (m ∷ ds) = one_value k m ds

unfoldable pub three_value : List Data → RoutedBlock
three_value [] = row_of_numbers 0 0 0
three_value (k ∷ ds) = two_value k ds

unfoldable pub row_value : Data → RoutedBlock
row_value d = three_value (items_in d)

-- the numbers of a chip
unfoldable pub chip_numbers_faults : List ℕ → Data → List JobFault
chip_numbers_faults path d = number_faults (member_at path (codes "x")) 0 255 None (member_of (codes "x") d) ▹ number_faults (member_at path (codes "y")) 0 255 None (member_of (codes "y") d)

unfoldable pub chip_numbers : Data → Chip
chip_numbers d = chip_of_numbers (number_value None (member_of (codes "x") d)) (number_value None (member_of (codes "y") d))

-- A table has at most 65,536 rows.
unfoldable pub rows_faults : List ℕ → Data → List JobFault
rows_faults path d = list_member_faults path (codes "rows") true 65536 d ++ items_faults row_faults (member_at path (codes "rows")) 0 (list_member (codes "rows") d)

unfoldable pub rows_value : Data → List RoutedBlock
rows_value d = map row_value (list_member (codes "rows") d)

-- A table is an object of the chip's numbers x and y and of rows.
unfoldable pub table_faults : List ℕ → Data → List JobFault
table_faults path d = chip_numbers_faults path d ▹ rows_faults path d

unfoldable pub table_value : Data → GivenTable
table_value d = record { chip = chip_numbers d; rows = rows_value d }

-- a table has few rows
abbrev pub HasFewRows : GivenTable → Type 0
HasFewRows t = length t.rows ≤ 65536

-- To how many rows tables are to be shortened: 0, where nothing is said.
unfoldable pub tables_target_faults : List ℕ → Data → List JobFault
tables_target_faults path d = number_faults (member_at path (codes "target")) 0 4294967295 (Some 0) (member_of (codes "target") d)

unfoldable pub tables_target_value : Data → ℕ
tables_target_value d = number_value (Some 0) (member_of (codes "target") d)

-- Whether tables are to have no new keys: not, where nothing is said.
unfoldable pub tables_exact_faults : List ℕ → Data → List JobFault
tables_exact_faults path d = flag_faults (member_at path (codes "exact")) (member_of (codes "exact") d)

unfoldable pub tables_exact_value : Data → Bool
tables_exact_value d = flag_value false (member_of (codes "exact") d)

-- There are at most 65,536 tables.
unfoldable pub tables_faults : List ℕ → Data → List JobFault
tables_faults path d = list_member_faults path (codes "tables") true 65536 d ++ items_faults table_faults (member_at path (codes "tables")) 0 (list_member (codes "tables") d)

unfoldable pub tables_value : Data → List GivenTable
tables_value d = map table_value (list_member (codes "tables") d)

-- Tables stand at the path `in`. What is no object has no members.
unfoldable pub asked_faults : Data → List JobFault
asked_faults d = tables_target_faults (codes "in") d ▹ (tables_exact_faults (codes "in") d ▹ tables_faults (codes "in") d)

unfoldable pub asked_value : Data → Asked
asked_value d = record { target = tables_target_value d; exact = tables_exact_value d; tables = tables_value d }
