-- What holds of all that a job draws.
use Rattle.job_gen.proofs.Common.{All, All-get_or, All-map, DrawnNet, IsDrawn, IsDrawnNet, IsDrawnPacket, List, NeedsKey, arith, draw, draws, length, length-map, map, seeded, ℕ, ◌+◌, ◌<◌, ◌≡◌, ◌≤◌}
use Rattle.job_gen.specs.Draws.{drawn, drawn_from, drawn_net, drawn_packet, drawn_sdram, drawn_target, keys_at}
use Rattle.job_gen.proofs.DrawLemmas.{draw_below, length-draws, draws_each}

sdram_few : (i : ℕ) (g : List ℕ) → (drawn_sdram i g).0 ≤ 1048576
unfolding drawn_sdram
sdram_few i g = let below : (draw 1048577 g).0 < 1048577 = draw_below 1048577 g (omega arith) in omega arith

target_below : (i : ℕ) (g : List ℕ) → (drawn_target i g).0 < 200
unfolding drawn_target
target_below i g = draw_below 200 g (omega arith)

-- a net, whatever the words are
pub net_drawn : (i : ℕ) (g : List ℕ) → IsDrawnNet (drawn_net i g).0
unfolding drawn_net
net_drawn i g =
    let source = draw 200 g in
    let more = draw 8 source.1 in
    let targets = draws drawn_target (1 + more.0) more.1 in
    let count : length targets.0 ≡ 1 + more.0 = length-draws drawn_target (1 + more.0) more.1 in
    let few : more.0 < 8 = draw_below 8 source.1 (omega arith) in
    let keys : (draw 16 targets.1).0 < 16 = draw_below 16 targets.1 (omega arith) in
    record {
      source = draw_below 200 g (omega arith);
      some_target = omega (arith, count);
      few_targets = omega (arith, count, few);
      targets = draws_each (λ t. t < 200) drawn_target (1 + more.0) more.1 (λ j h below. target_below j h);
      some_key = omega arith;
      few_keys = omega (arith, keys);
    }

-- a net among others needs a key
pub keys_some : (nets : List DrawnNet) (i : ℕ) → All NeedsKey nets → i < length nets → 0 < keys_at nets i
unfolding keys_at
keys_some nets i all below =
    All-get_or (λ k. 0 < k) (map (λ (net : DrawnNet). net.keys) nets) i 0
    (omega (arith, length-map nets (λ (net : DrawnNet). net.keys), below))
    (All-map (λ k. 0 < k) (λ (net : DrawnNet). net.keys) nets all)

-- a packet of one of 1,200 numbers, whatever the words are
packet_drawn : (nets : List DrawnNet) (i : ℕ) (g : List ℕ) → length nets ≡ 300 → All NeedsKey nets → i < 1200 → IsDrawnPacket nets (drawn_packet nets i g).0
unfolding drawn_packet
packet_drawn nets i g many all below = grind (arith, draw_below, keys_some)

-- nets that are drawn need keys
pub nets_drawn : (n : ℕ) (g : List ℕ) → All IsDrawnNet (draws drawn_net n g).0
nets_drawn n g = draws_each IsDrawnNet drawn_net n g (λ i h below. net_drawn i h)

pub all_keys : (nets : List DrawnNet) → All IsDrawnNet nets → All NeedsKey nets
all_keys nets all = λ k d below. let one = all k d below in omega (arith, one.some_key)

-- all that is drawn from a generator
from_drawn : (g : List ℕ) → IsDrawn (drawn_from g)
unfolding drawn_from
from_drawn g =
    let sdrams = draws drawn_sdram 200 g in
    let nets = draws drawn_net 300 sdrams.1 in
    let each : All IsDrawnNet nets.0 = nets_drawn 300 sdrams.1 in
    let many : length nets.0 ≡ 300 = length-draws drawn_net 300 sdrams.1 in
    record {
      vertices = length-draws drawn_sdram 200 g;
      sdrams = draws_each (λ s. s ≤ 1048576) drawn_sdram 200 g (λ i h below. sdram_few i h);
      number_of_nets = many;
      nets = each;
      number_of_packets = length-draws (drawn_packet nets.0) 1200 nets.1;
      packets = draws_each (IsDrawnPacket nets.0) (drawn_packet nets.0) 1200 nets.1 (λ i h below. packet_drawn nets.0 i h many (all_keys nets.0 each) below);
    }

-- all that the job of a number draws
pub is_drawn : (n : ℕ) → IsDrawn (drawn n)
unfolding drawn
is_drawn n = from_drawn (seeded n)
