-- The flow of a round: what passes the queues of a mesh while its routers and banks of cores take some turns each, at the same
-- time (this project's own; routers, outputs and links as in the SpiNNaker datasheet). No order in time is told between the
-- turns of two chips: only what each queue's two ends tell.
use Rattle.std.specs.Prelude.{◌≡◌, ◌≢◌, ◌⊎◌, ℕ, ◌+◌, ◌*◌, ◌<◌, ◌≤◌, ◌==◌, Bool, false, ◌&&◌, List, [], ◌++◌, map, filter, length, All, None, slice_index_or}
use Rattle.std.specs.List.{list_any, sum_by}
use Rattle.std.specs.List.Sorted.{IsPermutation}
use Rattle.spin_base.specs.Gathered.{gathered}
use Rattle.spin_base.specs.declared.chips.Chip.{Chip}
use Rattle.spin_base.specs.declared.chips.Spot.{Spot}
use Rattle.spin_base.specs.declared.chips.Dir.{Dir}
use Rattle.spin_base.specs.declared.chips.Port.{Port}
use Rattle.spin_base.specs.declared.chips.Port.TheVariants.{Link as ByLink, Local}
use Rattle.spin_base.specs.declared.routes.Out.{Out}
use Rattle.spin_base.specs.declared.copies.McCopy.{McCopy}
use Rattle.spin_base.specs.declared.copies.Delivery.{Delivery}
use Rattle.spin_base.specs.declared.copies.DumpRec.{DumpRec}
use Rattle.spin_base.specs.Equality.{chip_eq, out_eq}
use Rattle.spin_base.specs.Outputs.{IsOutput}
use Rattle.spin_base.specs.Hops.{last_hop, onward}
use Rattle.machine_desc.specs.Live.{is_live_chip, is_live_link, IsInside, IsLiveChip}
use Rattle.mesh_core.specs.State.{Setup, State, IsMesh, Queue, input, core, nowhere, behind, queue_at}
use Rattle.mesh_core.specs.Step.{outputs}
use Rattle.mesh_core.specs.Ledger.{all_ports}

-- What passes in a round: of each queue the copies that entered it and those that left it, each in their order, and the
-- moments at which a push found it full, each as the numbers of copies that had entered and left by then; of each vertex the
-- copies that it sent; and the new deliveries and dump records.
pub record Flow : Type 0 where
  pub entered : Queue → List McCopy
  pub left : Queue → List McCopy
  pub fulls : Queue → List (ℕ × ℕ)
  pub sent : ℕ → List McCopy
  pub delivered : List Delivery
  pub dumped : List DumpRec

-- what a queue holds; where there is no queue, nothing
abbrev pub held_in : State → Queue → List McCopy
held_in s (input i) = slice_index_or s.inputs i []
held_in s (core v) = slice_index_or s.cores v []
held_in s nowhere = []

-- how many copies a queue holds at most; where there is no queue, none
abbrev pub capacity_of : Setup → Queue → ℕ
capacity_of u (input i) = u.capacity
capacity_of u (core v) = u.capacity
capacity_of u nowhere = 0

-- the input queue of a chip's port
abbrev pub at_port : Setup → Chip → Port → Queue
at_port u c port = input (queue_at u.machine c port)

-- whether a copy that came to a chip by a port leaves by this output, too
abbrev pub leaves_by : Setup → Chip → Out → Port → McCopy → Bool
leaves_by u c o port k = list_any (out_eq o) (outputs u c port k)

-- the copies that a chip's router took from its ports and that lookup gives this output
abbrev pub taken_for : Setup → Flow → Chip → Out → List McCopy
taken_for u f c o = gathered (λ i port. filter (leaves_by u c o port) (f.left (at_port u c port))) 0 all_ports

-- the copies of the new dump records of an output of a chip
abbrev pub dumped_at : Flow → Chip → Out → List McCopy
dumped_at f c o = map (λ (r : DumpRec). r.copy) (filter (λ (r : DumpRec). chip_eq r.chip c && out_eq r.out o) f.dumped)

-- the new deliveries to a vertex
abbrev pub delivered_to : Flow → ℕ → List McCopy
delivered_to f v = map (λ (d : Delivery). d.copy) (filter (λ (d : Delivery). d.vertex == v) f.delivered)

-- the copies of a vertex, where it stands on this chip
abbrev pub of_chip : Chip → Spot → List McCopy → List McCopy
of_chip c spot copies = filter (λ k. chip_eq spot.chip c) copies

-- the copies that the vertices of a chip sent
abbrev pub sent_on : Setup → Flow → Chip → List McCopy
sent_on u f c = gathered (λ v spot. of_chip c spot (f.sent v)) 0 u.spots

-- the copies that the vertices of a chip got
abbrev pub got_on : Setup → Flow → Chip → List McCopy
got_on u f c = gathered (λ v spot. of_chip c spot (delivered_to f v)) 0 u.spots

-- a moment at which a queue was found full: as many copies had entered and left by then as leave it with its capacity
abbrev pub WasFullAt : State → Flow → Queue → ℕ × ℕ → Type 0
WasFullAt m f q e = (e.0 ≤ length (f.entered q)) × (e.1 ≤ length (f.left q)) × (length (held_in m q) + e.0 ≡ e.1 + capacity_of m.setup q)

-- no router holds a copy in hand
abbrev pub HasNoHand : State → Type 0
HasNoHand s = All (λ h. h ≡ None) s.hands

-- What passed the queues, for a mesh before and one after, neither with a hand. Each queue gives its copies in the order in which
-- it got them, and none comes or goes otherwise. What the vertices of a chip sent entered its injection queue. What the router
-- of a chip took and lookup gives an output is, one hop on, what entered the queue behind the output and what was dumped
-- there: each copy once, in whatever order. Hop numbers are of 32 bits. Nothing enters a queue of a dead chip or port, nor where there is no queue. The
-- vertices' deliveries are what left their queues.
pub record Passes (m : State) (f : Flow) (n : State) : Type 0 where
  pub setup : n.setup ≡ m.setup
  pub none_before : HasNoHand m
  pub none_after : HasNoHand n
  pub in_order : (q : Queue) → held_in m q ++ f.entered q ≡ f.left q ++ held_in n q
  pub nowhere_empty : f.entered nowhere ≡ []
  pub hops : (q : Queue) → All (λ k. k.hop ≤ last_hop) (f.left q)
  pub dead_ports : (c : Chip) (d : Dir) → IsInside m.setup.machine c → is_live_link m.setup.machine c d ≡ false → f.entered (at_port m.setup c (ByLink d)) ≡ []
  pub dead_chips : (c : Chip) → IsInside m.setup.machine c → is_live_chip m.setup.machine c ≡ false → f.entered (at_port m.setup c Local) ≡ []
  pub unsent : (v : ℕ) → v < length m.setup.spots → slice_index_or m.unsent v [] ≡ f.sent v ++ slice_index_or n.unsent v []
  pub injected : (c : Chip) → IsLiveChip m.setup.machine c → IsPermutation (sent_on m.setup f c) (f.entered (at_port m.setup c Local))
  pub routed : (c : Chip) (o : Out) → IsLiveChip m.setup.machine c → IsOutput o →
      IsPermutation (map onward (taken_for m.setup f c o)) (f.entered (behind m.setup c o) ++ map onward (dumped_at f c o))
  pub delivered : n.delivered ≡ m.delivered ++ f.delivered
  pub to_vertices : All (λ (d : Delivery). d.vertex < length m.setup.spots) f.delivered
  pub collected : (v : ℕ) → v < length m.setup.spots → delivered_to f v ≡ f.left (core v)
  pub dumped : n.dumped ≡ m.dumped ++ f.dumped
  pub at_outputs : All (λ (r : DumpRec). IsLiveChip m.setup.machine r.chip × IsOutput r.out × (r.copy.hop < last_hop)) f.dumped

-- The flow of a round, for a patience and a number of turns: what passed the queues; behind each dump record stand as many
-- moments as the patience at which the queue behind its output was full; and no router takes, no vertices of a chip send, and
-- none get more copies than there are turns.
pub record IsRound (patience turns : ℕ) (m : State) (f : Flow) (n : State) : Type 0 where
  pub passes : Passes m f n
  pub full : (q : Queue) → All (WasFullAt m f q) (f.fulls q)
  pub patient : (c : Chip) (o : Out) → IsLiveChip m.setup.machine c → IsOutput o → patience * length (dumped_at f c o) ≤ length (f.fulls (behind m.setup c o))
  pub takes : (c : Chip) → IsLiveChip m.setup.machine c → sum_by (λ port. length (f.left (at_port m.setup c port))) all_ports ≤ turns
  pub sends : (c : Chip) → IsLiveChip m.setup.machine c → length (sent_on m.setup f c) ≤ turns
  pub gets : (c : Chip) → IsLiveChip m.setup.machine c → length (got_on m.setup f c) ≤ turns

-- whether a mesh has this queue
abbrev pub IsQueueOf : State → Queue → Type 0
IsQueueOf m (input i) = i < length m.inputs
IsQueueOf m (core v) = v < length m.cores
IsQueueOf m nowhere = ⊥

-- a round moves a copy where one left a queue of the mesh or was sent
abbrev pub HasMoved : State → Flow → Type 0
HasMoved m f = ((q : Queue) × IsQueueOf m q × (f.left q ≢ [])) ⊎ ((v : ℕ) × (v < length m.setup.spots) × (f.sent v ≢ []))

-- A mesh is reached from another by rounds, each from mesh to mesh with its flow.
pub data HasRounds (patience turns : ℕ) (m : State) : State → Type 0 where
  none : HasRounds patience turns m m
  more : (f : Flow) (k n : State) → HasRounds patience turns m k → IsMesh n → IsRound patience turns k f n → HasRounds patience turns m n
