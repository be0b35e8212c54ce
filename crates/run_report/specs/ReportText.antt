-- The text of a report, line by line. The format is this project's own.
use Rattle.std.specs.Prelude.{ℕ, zero, suc, ◌/◌, ◌%◌, List, [], ◌∷◌, ◌++◌, length, false, Option, Some, None, codes, decimal}
use Rattle.std.specs.List.{flat_map, sum_by}
use Rattle.std.specs.Fmt.{digit_glyph}
use Rattle.spin_base.specs.Gathered.{gathered}
use Rattle.spin_base.specs.declared.chips.Spot.{Spot}
use Rattle.spin_base.specs.declared.chips.Dir.{Dir}
use Rattle.spin_base.specs.declared.chips.Dir.TheVariants.{East, NorthEast, North, West, SouthWest, South}
use Rattle.spin_base.specs.declared.chips.Port.{Port}
use Rattle.spin_base.specs.declared.chips.Port.TheVariants.{Link as ByLink, Local}
use Rattle.spin_base.specs.declared.routes.Out.{Out}
use Rattle.spin_base.specs.declared.routes.Out.TheVariants.{Link, Core}
use Rattle.spin_base.specs.declared.blocks.Block.{Block}
use Rattle.spin_base.specs.declared.blocks.Entry.{Entry}
use Rattle.spin_base.specs.declared.copies.McCopy.{McCopy}
use Rattle.spin_base.specs.declared.copies.DumpRec.{DumpRec}
use Rattle.machine_desc.specs.Description.{Description}
use Rattle.machine_desc.specs.Live.{live_count_of}
use Rattle.app_graph.specs.declared.graphs.Graph.{Graph}
use Rattle.app_graph.specs.declared.graphs.RunPart.{RunPart}
use Rattle.machine_desc.specs.declared.nets.NetPlan.{NetPlan}
use Rattle.spin_base.specs.declared.blocks.ChipTable.{ChipTable}
use Rattle.mesh_core.specs.declared.places.Did.{Did}
use Rattle.mesh_core.specs.declared.places.Did.TheVariants.{Moved, Idle}
use Rattle.mesh_core.specs.declared.places.Place.{Place}
use Rattle.mesh_core.specs.declared.places.Place.TheVariants.{InQueue, Hand, CoreQueue}
use Rattle.run_report.specs.declared.reports.Report.{Report}
use Rattle.run_report.specs.Listed.{placed_of, listed_keys}

-- ---- numbers and letters

-- The last so many hexadecimal digits of a number, with leading zeros. `digit_glyph false` gives the digits 0 to 9 and a
-- to f.
unfoldable pub hex : ℕ → ℕ → List ℕ
hex zero n = []
hex (suc k) n = hex k (n / 16) ++ digit_glyph false (n % 16) ∷ []

-- keys, masks and payloads have 8 digits, routes 6
abbrev pub word : ℕ → List ℕ
word n = hex 8 n

abbrev pub payload_word : Option ℕ → List ℕ
payload_word (Some payload) = word payload
payload_word None = codes "-"

-- the letters of the links
abbrev pub dir_letters : Dir → List ℕ
dir_letters East = codes "E"
dir_letters NorthEast = codes "NE"
dir_letters North = codes "N"
dir_letters West = codes "W"
dir_letters SouthWest = codes "SW"
dir_letters South = codes "S"

abbrev pub port_letters : Port → List ℕ
port_letters (ByLink d) = dir_letters d
port_letters Local = codes "L"

-- a link's letters, or c and the number of the core
abbrev pub out_letters : Out → List ℕ
out_letters (Link d) = dir_letters d
out_letters (Core p) = codes "c" ++ decimal p

-- ---- lines

-- A line is words, one space apart, and a line feed.
abbrev pub line : List (List ℕ) → List ℕ
line [] = 10 ∷ []
line (w ∷ []) = w ++ 10 ∷ []
line (w ∷ (v ∷ ws)) = w ++ 32 ∷ line (v ∷ ws)

abbrev pub place_line : List ℕ × Spot → List ℕ
place_line v = line (codes "place" ∷ v.0 ∷ decimal v.1.chip.x ∷ decimal v.1.chip.y ∷ decimal v.1.core ∷ [])

abbrev pub keys_line : List ℕ × Block → List ℕ
keys_line net = line (codes "keys" ∷ net.0 ∷ word net.1.key ∷ word net.1.mask ∷ [])

abbrev pub row_line : Entry → List ℕ
row_line e = line (word e.key ∷ word e.mask ∷ hex 6 e.route.bits ∷ [])

-- the chip of a table, and the number of its rows
abbrev pub table_head : ChipTable → List ℕ
table_head t = line (codes "table" ∷ decimal t.chip.x ∷ decimal t.chip.y ∷ decimal (length t.entries) ∷ [])

-- the head of a table, and a line for each row
abbrev pub table_lines : ChipTable → List ℕ
table_lines t = table_head t ++ flat_map row_line t.entries

-- whether an event was enabled
abbrev pub did_word : Did → List ℕ
did_word Moved = codes "moved"
did_word Idle = codes "idle"

-- the digits of a number before its last one: none where the number has no tens
abbrev pub tens_digits : ℕ → List ℕ
tens_digits zero = []
tens_digits (suc n) = decimal (suc n)

-- what the lines of events begin with whose numbers have that many tens, and differ in the last digit alone
abbrev pub event_front : ℕ → List ℕ
event_front tens = codes "event " ++ tens_digits tens

-- the number of an event, from 1, and whether it was enabled
abbrev pub event_line : ℕ → Did → List ℕ
event_line number did = line (codes "event" ∷ decimal number ∷ did_word did ∷ [])

-- a line for each event, in their order
abbrev pub event_lines : List Did → List ℕ
event_lines did = gathered event_line 1 did

abbrev pub got_line : List ℕ × McCopy → List ℕ
got_line d = line (codes "got" ∷ d.0 ∷ decimal d.1.packet ∷ word d.1.key ∷ payload_word d.1.payload ∷ [])

abbrev pub dump_line : DumpRec → List ℕ
dump_line r = line (codes "dump" ∷ decimal r.chip.x ∷ decimal r.chip.y ∷ out_letters r.out ∷ decimal r.copy.packet ∷ [])

-- the words of a place: its chip, the kind, and the port, output or core
abbrev pub place_words : Place → List (List ℕ)
place_words (InQueue c port) = decimal c.x ∷ decimal c.y ∷ codes "in" ∷ port_letters port ∷ []
place_words (Hand c o) = decimal c.x ∷ decimal c.y ∷ codes "hand" ∷ out_letters o ∷ []
place_words (CoreQueue c core) = decimal c.x ∷ decimal c.y ∷ codes "core" ∷ decimal core ∷ []

abbrev pub wait_line : ℕ × Place → List ℕ
wait_line w = line (codes "wait" ∷ decimal w.0 ∷ codes "at" ∷ place_words w.1)

-- the numbers of got, dump and wait lines, and of unsent packets
abbrev pub end_line : Report → List ℕ
end_line r = line (codes "end" ∷ codes "delivered" ∷ decimal (length r.delivered) ∷ codes "dumped" ∷ decimal (length r.dumped)
    ∷ codes "waiting" ∷ decimal (length r.waiting) ∷ codes "unsent" ∷ decimal r.unsent ∷ [])

-- ---- the text

-- The text of a report: a line for each vertex and for each net, the lines of each table, a line for each event, each
-- delivery, each dump record and each waiting copy, and the last line.
abbrev pub report_text : Report → List ℕ
report_text r = flat_map place_line r.placed ++ flat_map keys_line r.keys ++ flat_map table_lines r.tables
    ++ event_lines r.did ++ flat_map got_line r.delivered ++ flat_map dump_line r.dumped ++ flat_map wait_line r.waiting ++ end_line r

-- ---- the text of a plan

-- the number of rows of all tables
abbrev pub row_total : List ChipTable → ℕ
row_total tables = sum_by (λ (t : ChipTable). length t.entries) tables

-- The text of a plan that is not run: the same lines of vertices, nets and tables, and a last line with the number of rows
-- of all tables.
abbrev pub listed_text : List (List ℕ × Spot) → List (List ℕ × Block) → List ChipTable → List ℕ
listed_text placed keys tables = flat_map place_line placed ++ flat_map keys_line keys ++ flat_map table_lines tables
    ++ line (codes "end" ∷ codes "rows" ∷ decimal (row_total tables) ∷ [])

abbrev pub plan_text : Graph → List Spot → List NetPlan → List ChipTable → List ℕ
plan_text graph spots nets tables = listed_text (placed_of graph spots) (listed_keys graph nets) tables

-- ---- the text of a generated job

abbrev pub number_line : ℕ → List ℕ
number_line number = line (codes "gen" ∷ decimal number ∷ [])

-- the numbers of live chips, vertices, nets and packets
abbrev pub parts_line : ℕ → ℕ → ℕ → ℕ → List ℕ
parts_line chips vertices nets packets = line (codes "chips" ∷ decimal chips ∷ codes "vertices" ∷ decimal vertices ∷ codes "nets" ∷ decimal nets ∷ codes "packets" ∷ decimal packets ∷ [])

abbrev pub rows_line : ℕ → List ℕ
rows_line rows = line (codes "rows" ∷ decimal rows ∷ [])

abbrev pub counts_line : ℕ → ℕ → List ℕ
counts_line delivered dumped = line (codes "delivered" ∷ decimal delivered ∷ codes "dumped" ∷ decimal dumped ∷ [])

-- The text of a generated job that was run: its number; how many parts it has; the rows of all tables that were loaded; and how
-- many copies were delivered and dumped.
abbrev pub summary_text : ℕ → Description → Graph → RunPart → Report → List ℕ
summary_text number m graph run r =
    number_line number ++ parts_line (live_count_of m) (length graph.vertices) (length graph.nets) (length run.packets)
    ++ rows_line (row_total r.tables) ++ counts_line (length r.delivered) (length r.dumped)
