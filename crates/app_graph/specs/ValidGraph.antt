-- Which graphs are within the limits (this project's own).
use Rattle.std.specs.Prelude.{◌≡◌, ◌≢◌, ℕ, ◌+◌, ◌^◌, ◌<◌, ◌≤◌, List, length, All, AllPairs, None, Some, IfSome, slice_get, bit_and}
use Rattle.spin_base.specs.declared.blocks.Block.{Block}
use Rattle.machine_desc.specs.declared.trees.Edge.{Edge}
use Rattle.app_graph.specs.declared.graphs.Vertex.{Vertex}
use Rattle.app_graph.specs.declared.graphs.Net.{Net}
use Rattle.app_graph.specs.declared.graphs.Graph.{Graph}

-- A vertex needs at most the 134,217,728 bytes of a chip's shared memory (SpiNNaker datasheet).
abbrev pub IsValidVertex : Vertex → Type 0
IsValidVertex vertex = vertex.sdram ≤ 134217728

-- A block that is fixed for a net has a mask of ones followed by some number of zeros, and at least as many keys as the net
-- needs.
abbrev pub IsFixedFor : ℕ → Block → Type 0
IsFixedFor keys block = (zeros : ℕ) × (zeros ≤ 32) × (block.mask + 2 ^ zeros ≡ 2 ^ 32) × (keys ≤ 2 ^ zeros)

-- A net has a source and at least one target, all of them among n vertices, needs 1 to 2^32 keys, and its fixed block, if it
-- has one, serves it.
pub record IsValidNet (n : ℕ) (net : Net) : Type 0 where
  pub source : net.source < n
  pub some_target : 0 < length net.targets
  pub targets : All (λ t. t < n) net.targets
  pub some_key : 1 ≤ net.keys
  pub few_keys : net.keys ≤ 4294967296
  pub fixed : IfSome net.fixed (IsFixedFor net.keys)

-- no key of 32 bits is in both blocks
abbrev pub ShareNoKey : Block → Block → Type 0
ShareNoKey a b = (key : ℕ) → key < 2 ^ 32 → bit_and key a.mask ≡ a.key → bit_and key b.mask ≡ b.key → ⊥

-- the fixed blocks of two nets, where both have one, are apart
abbrev pub AreFixedApart : Net → Net → Type 0
AreFixedApart one other = IfSome one.fixed (λ a. IfSome other.fixed (ShareNoKey a))

-- two vertices do not have one device
abbrev pub HaveDifferentDevices : Vertex → Vertex → Type 0
HaveDifferentDevices one other = (device : Edge) → one.device ≡ Some device → other.device ≢ Some device

-- the source of a net is no device
abbrev pub HasSendingSource : List Vertex → Net → Type 0
HasSendingSource vertices net = (source : Vertex) → slice_get vertices net.source ≡ Some source → source.device ≡ None

-- A graph is valid where it has at most 16,384 vertices and 4,096 nets, each of them is valid, no two vertices have one
-- device, no source is a device, and no two fixed blocks share a key.
pub record IsValidGraph (graph : Graph) : Type 0 where
  pub few_vertices : length graph.vertices ≤ 16384
  pub few_nets : length graph.nets ≤ 4096
  pub vertices : All IsValidVertex graph.vertices
  pub nets : All (IsValidNet (length graph.vertices)) graph.nets
  pub devices : AllPairs HaveDifferentDevices graph.vertices
  pub sources : All (HasSendingSource graph.vertices) graph.nets
  pub fixed : AllPairs AreFixedApart graph.nets
