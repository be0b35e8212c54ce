-- What routers and banks do in their turns, as a list of what they did, in order. The definitions are this project's own.
use Rattle.std.specs.Prelude.{ℕ, ◌+◌, ◌*◌, ◌==◌, if◌then◌else◌, List, [], ◌∷◌, Option, Some, None}
use Rattle.std.specs.List.{flat_map}
use Rattle.spin_base.specs.declared.chips.Chip.{Chip}
use Rattle.spin_base.specs.declared.chips.Port.{Port}
use Rattle.spin_base.specs.declared.routes.Out.{Out}
use Rattle.spin_base.specs.declared.copies.McCopy.{McCopy}
use Rattle.spin_base.specs.declared.copies.Delivery.{Delivery}
use Rattle.spin_base.specs.declared.copies.DumpRec.{DumpRec}
use Rattle.spin_base.specs.Links.{port_number}
use Rattle.spin_base.specs.Hops.{onward}
use Rattle.chip_node.specs.declared.ends.Served.{Served}
use Rattle.chip_node.specs.declared.ends.Served.TheVariants.{Sent, Dumped}

-- One output of a copy, the copy as it was taken, and what became of it there.
pub record Service : Type 0 where
  pub out : Out
  pub copy : McCopy
  pub fate : Served

-- The queues of ports and of vertices have places in one list: that of port number k of the chip of index i stands at 7 * i + k.
abbrev pub port_place : ℕ → Port → ℕ
port_place i port = 7 * i + port_number port

-- the place of a chip's injection queue
abbrev pub injection_place : ℕ → ℕ
injection_place i = 7 * i + 6

-- What was done, with the index of the chip that did it.
pub data Item : Type 0 where
  -- the router took a copy at a port
  took : ℕ → Port → McCopy → Item
  -- the router of a chip served an output of a copy, behind which the queue of this place stands, if there is one
  served : ℕ → Chip → Option ℕ → Service → Item
  -- the bank sent an unsent copy of a vertex to its chip's injection queue
  sent : ℕ → ℕ → McCopy → Item
  -- the bank took a copy for a vertex, from the queue of this place
  got : ℕ → ℕ → ℕ → McCopy → Item

-- these, where two places are the same
abbrev pub where_same : {X : Type 0} → ℕ → ℕ → List X → List X
where_same p q xs = if p == q then xs else []

abbrev pub where_there : {X : Type 0} → Option ℕ → ℕ → List X → List X
where_there None q xs = []
where_there (Some p) q xs = where_same p q xs

-- what a copy that was served brings to the queue behind the output: the copy, one hop on, where it was sent
abbrev pub brought : Service → Served → List McCopy
brought s Sent = onward s.copy ∷ []
brought s Dumped = []

-- a copy that was dumped
abbrev pub lost : Service → Served → List McCopy
lost s Sent = []
lost s Dumped = s.copy ∷ []

-- its record
abbrev pub recorded : Chip → Service → Served → List DumpRec
recorded c s Sent = []
recorded c s Dumped = record { chip = c; out = s.out; copy = s.copy } ∷ []

-- ---- what one of them tells of a queue, a vertex, a chip

abbrev pub entered_by : ℕ → Item → List McCopy
entered_by q (took i port k) = []
entered_by q (served i c place s) = where_there place q (brought s s.fate)
entered_by q (sent i v k) = where_same (injection_place i) q (k ∷ [])
entered_by q (got i v place k) = []

abbrev pub left_by : ℕ → Item → List McCopy
left_by q (took i port k) = where_same (port_place i port) q (k ∷ [])
left_by q (served i c place s) = []
left_by q (sent i v k) = []
left_by q (got i v place k) = where_same place q (k ∷ [])

abbrev pub lost_by : ℕ → Item → List McCopy
lost_by q (took i port k) = []
lost_by q (served i c place s) = where_there place q (lost s s.fate)
lost_by q (sent i v k) = []
lost_by q (got i v place k) = []

abbrev pub sent_in : ℕ → Item → List McCopy
sent_in v (took i port k) = []
sent_in v (served i c place s) = []
sent_in v (sent i w k) = where_same w v (k ∷ [])
sent_in v (got i w place k) = []

abbrev pub delivered_of : Item → List Delivery
delivered_of (took i port k) = []
delivered_of (served i c place s) = []
delivered_of (sent i v k) = []
delivered_of (got i v place k) = record { vertex = v; copy = k } ∷ []

abbrev pub dumped_of : Item → List DumpRec
dumped_of (took i port k) = []
dumped_of (served i c place s) = recorded c s s.fate
dumped_of (sent i v k) = []
dumped_of (got i v place k) = []

abbrev pub taking_of : ℕ → Item → List (Port × McCopy)
taking_of i (took j port k) = where_same j i ((port, k) ∷ [])
taking_of i (served j c place s) = []
taking_of i (sent j v k) = []
taking_of i (got j v place k) = []

abbrev pub service_of : ℕ → Item → List Service
service_of i (took j port k) = []
service_of i (served j c place s) = where_same j i (s ∷ [])
service_of i (sent j v k) = []
service_of i (got j v place k) = []

abbrev pub sending_of : ℕ → Item → List McCopy
sending_of i (took j port k) = []
sending_of i (served j c place s) = []
sending_of i (sent j v k) = where_same j i (k ∷ [])
sending_of i (got j v place k) = []

abbrev pub getting_of : ℕ → Item → List McCopy
getting_of i (took j port k) = []
getting_of i (served j c place s) = []
getting_of i (sent j v k) = []
getting_of i (got j v place k) = where_same j i (k ∷ [])

-- ---- what all of them tell

-- the copies that entered the queue at a place, and those that left it, in order
abbrev pub entered : ℕ → List Item → List McCopy
entered q items = flat_map (entered_by q) items

abbrev pub left : ℕ → List Item → List McCopy
left q items = flat_map (left_by q) items

-- the copies that were dumped since the queue at a place refused them
abbrev pub lost_at : ℕ → List Item → List McCopy
lost_at q items = flat_map (lost_by q) items

-- the copies that a vertex sent
abbrev pub sent_by : ℕ → List Item → List McCopy
sent_by v items = flat_map (sent_in v) items

abbrev pub deliveries : List Item → List Delivery
deliveries items = flat_map delivered_of items

abbrev pub records : List Item → List DumpRec
records items = flat_map dumped_of items

-- the copies that the router of the chip of an index took, each with its port, and what it served
abbrev pub takings : ℕ → List Item → List (Port × McCopy)
takings i items = flat_map (taking_of i) items

abbrev pub services : ℕ → List Item → List Service
services i items = flat_map (service_of i) items

-- the copies that the bank of the chip of an index sent, and those that it took
abbrev pub sendings : ℕ → List Item → List McCopy
sendings i items = flat_map (sending_of i) items

abbrev pub gettings : ℕ → List Item → List McCopy
gettings i items = flat_map (getting_of i) items
