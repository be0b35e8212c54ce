-- What holds of a run part for its graph (this project's own).
use Rattle.std.specs.Prelude.{ℕ, ◌<◌, ◌≤◌, List, length, slice_index, map, All}
use Rattle.spin_base.specs.declared.copies.Packet.{Packet}
use Rattle.spin_base.specs.declared.copies.Event.{Event}
use Rattle.spin_base.specs.declared.copies.Event.TheVariants.{Inject, Take, Send, Dump, Collect}
use Rattle.spin_base.specs.Outputs.{IsOutput}
use Rattle.app_graph.specs.declared.graphs.Net.{Net}
use Rattle.app_graph.specs.declared.graphs.Graph.{Graph}
use Rattle.app_graph.specs.declared.graphs.RunPart.{RunPart}

-- how many keys the net at a position has
unfoldable pub key_count_of : List Net → ℕ → ℕ
key_count_of nets i = slice_index (map (λ (n : Net). n.keys) nets) i

-- A packet's net is one of the nets, and its index below the net's number of keys.
abbrev pub IsPacketOf : List Net → Packet → Type 0
IsPacketOf nets p = (p.net < length nets) × (p.index < key_count_of nets p.net)

-- A vertex of an event is one of n, and an output of an event is a link or a core.
abbrev pub IsEventOf : ℕ → Event → Type 0
IsEventOf n (Inject v) = v < n
IsEventOf n (Take c p) = Unit {0}
IsEventOf n (Send c o) = IsOutput o
IsEventOf n (Dump c o) = IsOutput o
IsEventOf n (Collect v) = v < n

-- The run part of a graph: each number within its limits, and each packet and each event one of the graph's.
pub record IsRunOf (graph : Graph) (run : RunPart) : Type 0 where
  pub queue : (1 ≤ run.queue) × (run.queue ≤ 65536)
  pub patience : (1 ≤ run.patience) × (run.patience ≤ 255)
  pub workers : (1 ≤ run.workers) × (run.workers ≤ 64)
  pub turns : (1 ≤ run.turns) × (run.turns ≤ 64)
  pub target : run.target ≤ 1024
  pub few_packets : length run.packets ≤ 65536
  pub packets : All (IsPacketOf graph.nets) run.packets
  pub events : All (IsEventOf (length graph.vertices)) run.events
