-- What holds of all that a job draws.
use Rattle.std.specs.Prelude.{◌≡◌, ◌<◌, ◌≤◌, List, length, All}
use Rattle.job_gen.specs.declared.draws.DrawnNet.{DrawnNet}
use Rattle.job_gen.specs.declared.draws.DrawnPacket.{DrawnPacket}
use Rattle.job_gen.specs.declared.draws.Drawn.{Drawn}
use Rattle.job_gen.specs.Draws.{keys_at}

-- A net has a source and 1 to 8 targets, all of them among 200 vertices, and 1 to 16 keys.
pub record IsDrawnNet (net : DrawnNet) : Type 0 where
  pub source : net.source < 200
  pub some_target : 1 ≤ length net.targets
  pub few_targets : length net.targets ≤ 8
  pub targets : All (λ t. t < 200) net.targets
  pub some_key : 1 ≤ net.keys
  pub few_keys : net.keys ≤ 16

-- A packet is of one of 300 nets, its index is below the net's number of keys, and its payload has 32 bits.
pub record IsDrawnPacket (nets : List DrawnNet) (p : DrawnPacket) : Type 0 where
  pub net : p.net < 300
  pub index : p.index < keys_at nets p.net
  pub payload : p.payload ≤ 4294967295

-- There are 200 vertices of at most 1,048,576 bytes, 300 nets and 1,200 packets.
pub record IsDrawn (job : Drawn) : Type 0 where
  pub vertices : length job.sdrams ≡ 200
  pub sdrams : All (λ s. s ≤ 1048576) job.sdrams
  pub number_of_nets : length job.nets ≡ 300
  pub nets : All IsDrawnNet job.nets
  pub number_of_packets : length job.packets ≡ 1200
  pub packets : All (IsDrawnPacket job.nets) job.packets
