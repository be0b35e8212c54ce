-- Which plans can be loaded (this project's own).
use Rattle.std.specs.Prelude.{◌≡◌, ◌≢◌, ◌+◌, ◌^◌, ◌<◌, ◌≤◌, ◌⊎◌, false, List, All, AllPairs, Contains, IfSome, Some, length, slice_get}
use Rattle.spin_base.specs.declared.chips.Spot.{Spot}
use Rattle.spin_base.specs.declared.copies.Packet.{Packet}
use Rattle.machine_desc.specs.Description.{Description}
use Rattle.machine_desc.specs.Live.{IsUsable}
use Rattle.machine_desc.specs.RoutingTree.{IsRoutingTree}
use Rattle.app_graph.specs.ValidGraph.{IsFixedFor}
use Rattle.app_loads.specs.declared.plans.AppNet.{AppNet}
use Rattle.app_loads.specs.declared.plans.AppPlan.{AppPlan}
use Rattle.app_loads.specs.Host.{Host, is_spot_taken}

-- spots are ordered by x, then y, then core
abbrev pub IsSpotBefore : Spot → Spot → Type 0
IsSpotBefore a b =
    (a.chip.x < b.chip.x)
    ⊎ ((a.chip.x ≡ b.chip.x) × ((a.chip.y < b.chip.y) ⊎ ((a.chip.y ≡ b.chip.y) × (a.core < b.core))))

-- A net of an application has its source and targets among the application's spots, the targets in order, and a routing tree from the
-- source's chip to the targets. It needs 1 to 2^32 keys, and its fixed block, if it has one, has a mask of ones followed by
-- zeros and at least as many keys.
pub record IsAppNet (m : Description) (spots : List Spot) (net : AppNet) : Type 0 where
  pub source : Contains spots net.source
  pub targets : All (Contains spots) net.targets
  pub in_order : AllPairs IsSpotBefore net.targets
  pub root : net.tree.root ≡ net.source.chip
  pub tree : IsRoutingTree m net.tree.root net.tree.edges net.targets
  pub some_key : 1 ≤ net.keys
  pub few_keys : net.keys ≤ 4294967296
  pub fixed : IfSome net.fixed (IsFixedFor net.keys)

-- a packet is of one of the nets, and its index is below the net's keys
abbrev pub IsPacketOfApp : List AppNet → Packet → Type 0
IsPacketOfApp nets p = (net : AppNet) × (slice_get nets p.net ≡ Some net) × (p.index < net.keys)

-- A plan is one for the machine where its spots are different usable cores, with the bytes of memory for each, it has at most 65,536
-- nets, and each of its nets and packets is as above. So it asks the regions for at most 262,144 ranges.
pub record IsPlan (m : Description) (plan : AppPlan) : Type 0 where
  pub different : AllPairs (λ a b. a ≢ b) plan.spots
  pub usable : All (IsUsable m) plan.spots
  pub sdram : length plan.sdram ≡ length plan.spots
  pub few_nets : length plan.nets ≤ 65536
  pub nets : All (IsAppNet m plan.spots) plan.nets
  pub packets : All (IsPacketOfApp plan.nets) plan.packets

-- It can be loaded where, besides, no loaded application has one of its spots, and the numbers of packets do not run out.
pub record MayLoad (h : Host) (plan : AppPlan) : Type 0 where
  pub valid : IsPlan h.mesh.setup.machine plan
  pub free : All (λ s. is_spot_taken h.apps s ≡ false) plan.spots
  pub numbers : h.packets + length plan.packets < 2 ^ 32
