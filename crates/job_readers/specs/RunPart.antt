-- The run part of a job: its faults in the order of reading, and what it is (this project's own). Where a part has
-- faults, its value is what could be read, and 0 or nothing in place of the rest.
use Rattle.std.specs.Prelude.{ℕ, ◌+◌, ◌-◌, ◌*◌, List, [], ◌∷◌, ◌++◌, length, false, ◌&&◌, nat_le, is_some, bytes_eq, if◌then◌else◌, Option, Some, None, map, option_map, option_and_then, unwrap_or, codes}
use Rattle.serde_json.specs.Data.{Data}
use Rattle.serde_json.specs.Find.{as_str, as_array}
use Rattle.spin_base.specs.declared.chips.Chip.{Chip}
use Rattle.spin_base.specs.declared.chips.Port.{Port}
use Rattle.spin_base.specs.declared.chips.Port.TheVariants as ports
use Rattle.spin_base.specs.declared.routes.Out.{Out}
use Rattle.spin_base.specs.declared.routes.Out.TheVariants as outs
use Rattle.spin_base.specs.declared.chips.Dir.{Dir}
use Rattle.spin_base.specs.declared.copies.Packet.{Packet}
use Rattle.spin_base.specs.declared.copies.Event.{Event}
use Rattle.spin_base.specs.declared.copies.Event.TheVariants.{Inject, Take, Send, Dump, Collect}
use Rattle.machine_desc.specs.Description.{Description}
use Rattle.machine_desc.specs.Live.{live_count_of}
use Rattle.app_graph.specs.declared.graphs.Vertex.{Vertex}
use Rattle.app_graph.specs.declared.graphs.Net.{Net}
use Rattle.app_graph.specs.declared.graphs.Graph.{Graph}
use Rattle.app_graph.specs.declared.graphs.RunPart.{RunPart}
use Rattle.app_graph.specs.RunPart.{key_count_of}
use Rattle.job_text.specs.declared.faults.JobFault.{JobFault}
use Rattle.job_text.specs.declared.faults.JobFault.TheVariants.{Shape, Range}
use Rattle.job_text.specs.Reading.{◌▹◌}
use Rattle.job_text.specs.Members.{member_of, whole_number, list_of, is_object}
use Rattle.job_text.specs.Paths.{member_at}
use Rattle.job_text.specs.Fields.{typed_faults, shape_unless, object_faults, object_value, count_faults, is_name}
use Rattle.job_readers.specs.declared.events.Verb.{Verb}
use Rattle.job_readers.specs.declared.events.Verb.TheVariants as verbs
use Rattle.job_readers.specs.Items.{items_faults}
use Rattle.job_readers.specs.Places.{name_place_in, unknown_faults, reference_faults, reference_value}
use Rattle.job_readers.specs.Members.{number_member_faults, number_member, optional_number, list_member_faults, long_list_member_faults, list_member}
use Rattle.job_readers.specs.Entries.{chip_of_numbers, link_of}
use Rattle.job_readers.specs.GraphPart.{vertex_names_of, net_names}
use Rattle.job_readers.specs.Verbs.{verb_named}

-- ---- packets

unfoldable pub packet_net_faults : List Net → List ℕ → Data → List JobFault
packet_net_faults nets path d = reference_faults (net_names nets) (member_at path (codes "net")) (member_of (codes "net") d)

unfoldable pub packet_net : List Net → Data → ℕ
packet_net nets d = reference_value (net_names nets) (member_of (codes "net") d)

-- A packet has a net, an index below the net's number of keys, and perhaps a payload of 32 bits.
unfoldable pub packet_faults : List Net → List ℕ → Data → List JobFault
packet_faults nets path d =
    object_faults path (Some d)
    ▹ (packet_net_faults nets path d
    ++ (number_member_faults path (codes "index") 0 (key_count_of nets (packet_net nets d) - 1) None d
    ++ number_member_faults path (codes "payload") 0 4294967295 (Some 0) d))

unfoldable pub packet_value : List Net → Data → Packet
packet_value nets d = record {
  net = packet_net nets d;
  index = number_member (codes "index") None d;
  payload = optional_number (codes "payload") d;
}

-- At most 65,536 packets.
unfoldable pub packets_faults : List Net → List ℕ → Data → List JobFault
packets_faults nets path d =
    list_member_faults path (codes "packets") false 65536 d
    ++ items_faults (packet_faults nets) (member_at path (codes "packets")) 0 (list_member (codes "packets") d)

unfoldable pub packets_value : List Net → Data → List Packet
packets_value nets d = map (packet_value nets) (list_member (codes "packets") d)

-- ---- events

-- the words of the links, in the order of their numbers
unfoldable pub link_words : List (List ℕ)
link_words = codes "E" ∷ codes "NE" ∷ codes "N" ∷ codes "W" ∷ codes "SW" ∷ codes "S" ∷ []

-- the words of the cores 0 to 17
unfoldable pub core_words : List (List ℕ)
core_words =
    codes "c0" ∷ codes "c1" ∷ codes "c2" ∷ codes "c3" ∷ codes "c4" ∷ codes "c5" ∷ codes "c6" ∷ codes "c7" ∷ codes "c8"
    ∷ codes "c9" ∷ codes "c10" ∷ codes "c11" ∷ codes "c12" ∷ codes "c13" ∷ codes "c14" ∷ codes "c15" ∷ codes "c16" ∷ codes "c17" ∷ []

unfoldable pub link_named : List ℕ → Option Dir
link_named s = option_map link_of (name_place_in link_words s)

unfoldable pub core_named : List ℕ → Option ℕ
core_named s = name_place_in core_words s

-- a port: `L`, or a link's word
unfoldable pub port_named : List ℕ → Option Port
port_named s = if bytes_eq s (codes "L") then Some ports.Local else option_map ports.Link (link_named s)

abbrev pub link_or_core : Option Dir → Option ℕ → Option Out
link_or_core (Some d) core = Some (outs.Link d)
link_or_core None core = option_map outs.Core core

-- an output: a link's word, or `c` and the number of a core
unfoldable pub out_named : List ℕ → Option Out
out_named s = link_or_core (link_named s) (core_named s)

-- exactly one text
abbrev pub one_text : List Data → Option (List ℕ)
one_text [] = None
one_text (a ∷ []) = as_str a
one_text (a ∷ (b ∷ ds)) = None

-- exactly two whole numbers and a text
abbrev pub chip_and_text : List Data → Option (ℕ × ℕ × List ℕ)
chip_and_text [] = None
chip_and_text (a ∷ []) = None
chip_and_text (a ∷ (b ∷ [])) = None
chip_and_text (a ∷ (b ∷ (c ∷ []))) =
    option_and_then (λ x. option_and_then (λ y. option_map (λ s. (x, y, s)) (as_str c)) (whole_number b)) (whole_number a)
chip_and_text (a ∷ (b ∷ (c ∷ (d ∷ ds)))) = None

-- A vertex, by its name.
unfoldable pub at_vertex_faults : List (List ℕ) → List ℕ → List Data → List JobFault
at_vertex_faults vertices path ds =
    typed_faults is_name path (one_text ds) ▹ unknown_faults path (name_place_in vertices (unwrap_or (one_text ds) []))

unfoldable pub at_vertex : List (List ℕ) → List Data → ℕ
at_vertex vertices ds = unwrap_or (name_place_in vertices (unwrap_or (one_text ds) [])) 0

-- A chip with x and y from 0 to 63, and a word of the kind that is asked for.
unfoldable pub at_chip_faults : {A : Type 0} → (List ℕ → Option A) → List ℕ → List Data → List JobFault
at_chip_faults named path ds =
    typed_faults (λ t. nat_le t.0 63 && nat_le t.1 63 && is_some (named t.2)) path (chip_and_text ds)

-- the chip and the word of such an event
abbrev pub event_chip_from : Option (ℕ × ℕ × List ℕ) → Chip
event_chip_from None = chip_of_numbers 0 0
event_chip_from (Some t) = chip_of_numbers t.0 t.1

abbrev pub word_from : Option (ℕ × ℕ × List ℕ) → List ℕ
word_from None = []
word_from (Some t) = t.2

unfoldable pub chip_of_event : List Data → Chip
chip_of_event ds = event_chip_from (chip_and_text ds)

abbrev pub word_of_event : List Data → List ℕ
word_of_event ds = word_from (chip_and_text ds)

unfoldable pub port_of_event : List Data → Port
port_of_event ds = unwrap_or (port_named (word_of_event ds)) ports.Local

unfoldable pub out_of_event : List Data → Out
out_of_event ds = unwrap_or (out_named (word_of_event ds)) (outs.Core 0)

-- the text with which an event begins, and what follows it
abbrev pub head_word : List Data → Option (List ℕ)
head_word [] = None
head_word (w ∷ ds) = as_str w

abbrev pub after_head : List Data → List Data
after_head [] = []
after_head (w ∷ ds) = ds

-- What must follow the word of an event. Range where the word is none.
abbrev pub verb_faults : List (List ℕ) → List ℕ → Option Verb → List Data → List JobFault
verb_faults vertices path (Some verbs.Inject) ds = at_vertex_faults vertices path ds
verb_faults vertices path (Some verbs.Take) ds = at_chip_faults port_named path ds
verb_faults vertices path (Some verbs.Send) ds = at_chip_faults out_named path ds
verb_faults vertices path (Some verbs.Dump) ds = at_chip_faults out_named path ds
verb_faults vertices path (Some verbs.Collect) ds = at_vertex_faults vertices path ds
verb_faults vertices path None ds = Range path ∷ []

abbrev pub verb_event : List (List ℕ) → Option Verb → List Data → Event
verb_event vertices (Some verbs.Inject) ds = Inject (at_vertex vertices ds)
verb_event vertices (Some verbs.Take) ds = Take (chip_of_event ds) (port_of_event ds)
verb_event vertices (Some verbs.Send) ds = Send (chip_of_event ds) (out_of_event ds)
verb_event vertices (Some verbs.Dump) ds = Dump (chip_of_event ds) (out_of_event ds)
verb_event vertices (Some verbs.Collect) ds = Collect (at_vertex vertices ds)
verb_event vertices None ds = Collect (at_vertex vertices ds)

unfoldable pub event_word_faults : List (List ℕ) → List ℕ → List ℕ → List Data → List JobFault
event_word_faults vertices path w ds = verb_faults vertices path (verb_named w) ds

unfoldable pub worded_event : List (List ℕ) → List ℕ → List Data → Event
worded_event vertices w ds = verb_event vertices (verb_named w) ds

abbrev pub event_head_faults : List (List ℕ) → List ℕ → Option (List ℕ) → List Data → List JobFault
event_head_faults vertices path None ds = Shape path ∷ []
event_head_faults vertices path (Some w) ds = event_word_faults vertices path w ds

-- the items of a value that is a list, and none of any other
abbrev pub items_in : Data → List Data
items_in d = unwrap_or (option_map list_of (as_array d)) []

-- An event is a list that begins with its word. All its faults have the event's path. A list without an item, one that
-- does not begin with a text, and what is no list, have the wrong shape.
unfoldable pub event_faults : List (List ℕ) → List ℕ → Data → List JobFault
event_faults vertices path d = event_head_faults vertices path (head_word (items_in d)) (after_head (items_in d))

unfoldable pub event_value : List (List ℕ) → Data → Event
event_value vertices d = worded_event vertices (unwrap_or (head_word (items_in d)) []) (after_head (items_in d))

unfoldable pub events_faults : List Vertex → List ℕ → Data → List JobFault
events_faults vertices path d =
    long_list_member_faults path (codes "events") false d
    ++ items_faults (event_faults (vertex_names_of vertices)) (member_at path (codes "events")) 0 (list_member (codes "events") d)

unfoldable pub events_value : List Vertex → Data → List Event
events_value vertices d = map (event_value (vertex_names_of vertices)) (list_member (codes "events") d)

-- ---- the whole run part

-- Each live chip has seven queues, and each vertex one. All their places together are at most 16,777,216.
unfoldable pub places_faults : ℕ → ℕ → List ℕ → Data → List JobFault
places_faults live vertices path d =
    count_faults (member_at path (codes "queue")) 16777216 (number_member (codes "queue") (Some 16) d * (7 * live + vertices))

-- the members of a run part, in order
unfoldable pub run_members_faults : ℕ → Graph → List ℕ → Data → List JobFault
run_members_faults live graph path d =
    number_member_faults path (codes "queue") 1 65536 (Some 16) d
    ++ (number_member_faults path (codes "patience") 1 255 (Some 16) d
    ++ (number_member_faults path (codes "workers") 1 64 (Some 1) d
    ++ (number_member_faults path (codes "turns") 1 64 (Some 16) d
    ++ (number_member_faults path (codes "target") 0 1024 (Some 1024) d
    ++ (packets_faults graph.nets path d
    ++ (events_faults graph.vertices path d
    ++ places_faults live (length graph.vertices) path d))))))

unfoldable pub run_members : Graph → Data → RunPart
run_members graph d = record {
  queue = number_member (codes "queue") (Some 16) d;
  patience = number_member (codes "patience") (Some 16) d;
  workers = number_member (codes "workers") (Some 1) d;
  turns = number_member (codes "turns") (Some 16) d;
  target = number_member (codes "target") (Some 1024) d;
  packets = packets_value graph.nets d;
  events = events_value graph.vertices d;
}

-- The run part stands in the job's member `run`. Absent, it is an empty object.
abbrev pub optional_object_faults : List ℕ → Option Data → List JobFault
optional_object_faults path None = []
optional_object_faults path (Some d) = shape_unless (is_object d) path

unfoldable pub run_faults : List ℕ → Description → Graph → Data → List JobFault
run_faults path machine graph job =
    optional_object_faults (member_at path (codes "run")) (member_of (codes "run") job)
    ▹ run_members_faults (live_count_of machine) graph (member_at path (codes "run")) (object_value (member_of (codes "run") job))

unfoldable pub run_value : Graph → Data → RunPart
run_value graph job = run_members graph (object_value (member_of (codes "run") job))
