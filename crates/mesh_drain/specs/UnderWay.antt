-- One packet under way: where it waits, and how much is still to be done (this project's own).
use Rattle.std.specs.Prelude.{◌≡◌, ℕ, ◌+◌, ◌*◌, ◌-◌, ◌<◌, ◌≤◌, ◌==◌, List, [], All, length, count_by, Option, Some, None, slice_set, slice_index_or}
use Rattle.std.specs.List.{sum_by}
use Rattle.spin_base.specs.declared.chips.Chip.{Chip}
use Rattle.spin_base.specs.declared.chips.Dir.{Dir}
use Rattle.spin_base.specs.declared.chips.Port.{Port}
use Rattle.spin_base.specs.declared.chips.Port.TheVariants.{Link as ByLink}
use Rattle.spin_base.specs.Links.{opposite_of}
use Rattle.spin_base.specs.declared.routes.Out.{Out}
use Rattle.spin_base.specs.declared.routes.Out.TheVariants.{Link, Core}
use Rattle.spin_base.specs.declared.copies.McCopy.{McCopy}
use Rattle.spin_base.specs.Hops.{last_hop}
use Rattle.machine_desc.specs.Description.{Description}
use Rattle.machine_desc.specs.Live.{far_of, index_of, IsLiveChip}
use Rattle.mesh_core.specs.State.{State, Hand, queue_at}
use Rattle.mesh_core.specs.Step.{in_hand as held_for}
use Rattle.mesh_core.specs.Trail.{Station, unsent, in_queue, in_hand, at_core, delivered, dumped, Mark}
use Rattle.mesh_core.specs.Ledger.{marks_of}
use Rattle.mesh_core.specs.Heavy.{heavy}
use Rattle.mesh_drain.specs.declared.draining.Waiting.{Waiting}
use Rattle.mesh_drain.specs.Draining.{MaySend, MeetsSomeLedger}

-- how far a mark is on: each move of a copy raises it
abbrev pub stage : Station → ℕ
stage (unsent v) = 0
stage (in_queue c port) = 1
stage (in_hand c o) = 2
stage (at_core v) = 1
stage (delivered v) = 2
stage (dumped c o) = 3

unfoldable pub advance : Mark → ℕ
advance k = 4 * k.copy.hop + stage k.station

-- a mark weighs the more, the further it still has to go
unfoldable pub advance_weight_of : Mark → ℕ
advance_weight_of k = heavy (4 * last_hop + 4 - advance k)

-- what all marks of a mesh weigh
unfoldable pub weight_in : State → ℕ
weight_in s = sum_by advance_weight_of (marks_of s)

-- how much is to be done at most: each event of the packet makes its marks lighter
abbrev pub work : State → List Waiting → ℕ
work s waiting = weight_in s + length waiting

-- how often a queue stands in the list of those where the packet waits
abbrev pub times : Description → ℕ → List Waiting → ℕ
times m i waiting = count_by (λ (w : Waiting). queue_at m w.chip w.port == i) waiting

-- the outputs that a router's hand still has to serve
abbrev pub outs_in : Option (Option Hand) → List Out
outs_in (Some (Some h)) = h.outs
outs_in (Some None) = []
outs_in None = []

-- the port at the far end of a link
abbrev pub far_port : Dir → Option Chip → Option Waiting
far_port d (Some far) = Some (record { chip = far; port = ByLink (opposite_of d) })
far_port d None = None

-- where a copy waits that left a chip by a live link
abbrev pub next_place : Description → Chip → Out → Option Waiting
next_place m c (Link d) = far_port d (far_of m c d)
next_place m c (Core p) = None

-- The vertex is there, and may send: no port is in the list of those where its packet waits.
pub record MaySendFrom (s : State) (waiting : List Waiting) (v : ℕ) : Type 0 where
  pub may : MaySend s
  pub none : waiting ≡ []
  pub exists : v < length s.setup.spots

-- One packet alone waits: all copies that wait are of it, they wait in input queues, and each queue stands as often in the list as
-- copies wait in it, or more often.
pub record WaitsAlone (s : State) (waiting : List Waiting) : Type 0 where
  pub kept : MeetsSomeLedger s
  pub packet : ℕ
  pub free : All (λ h. h ≡ None) s.hands
  pub collected : All (λ q. q ≡ []) s.cores
  pub live : All (λ (w : Waiting). IsLiveChip s.setup.machine w.chip) waiting
  pub listed : (i : ℕ) → length (slice_index_or s.inputs i []) ≤ times s.setup.machine i waiting
  pub of_packet : (i : ℕ) → All (λ (k : McCopy). k.packet ≡ packet) (slice_index_or s.inputs i [])

-- the same, but for one chip, whose hand still has to serve these outputs
pub record IsServing (s : State) (waiting : List Waiting) (c : Chip) (outs : List Out) : Type 0 where
  pub kept : MeetsSomeLedger s
  pub copy : McCopy
  pub port : Port
  pub others : List (Option Hand)
  pub free : All (λ h. h ≡ None) others
  pub within : index_of s.setup.machine c < length others
  pub hand : s.hands ≡ slice_set others (index_of s.setup.machine c) (held_for copy port outs)
  pub here : IsLiveChip s.setup.machine c
  pub collected : All (λ q. q ≡ []) s.cores
  pub live : All (λ (w : Waiting). IsLiveChip s.setup.machine w.chip) waiting
  pub listed : (i : ℕ) → length (slice_index_or s.inputs i []) ≤ times s.setup.machine i waiting
  pub of_packet : (i : ℕ) → All (λ (k : McCopy). k.packet ≡ copy.packet) (slice_index_or s.inputs i [])
