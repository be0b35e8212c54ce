-- What a generated job draws (this project's own). The words are those of xoshiro256++, which SplitMix64 seeds from the job's
-- number (Blackman and Vigna, "Scrambled linear pseudorandom number generators").
use Rattle.std.specs.Prelude.{ℕ, zero, suc, ◌+◌, ◌/◌, ◌%◌, ◌<◌, List, [], ◌∷◌, ◌++◌, map, slice_index}
use Rattle.rand_xoshiro.specs.SplitMix64.{splitmix_seed}
use Rattle.rand_xoshiro.specs.Xoshiro256.{of_seed, plus_plus}
use Rattle.job_gen.specs.declared.draws.DrawnNet.{DrawnNet}
use Rattle.job_gen.specs.declared.draws.DrawnPacket.{DrawnPacket}
use Rattle.job_gen.specs.declared.draws.Drawn.{Drawn}

-- the generator that a number seeds
unfoldable pub seeded : ℕ → List ℕ
seeded n = of_seed (splitmix_seed 32 n)

-- A draw below m is the next word modulo m. Beside it stands the generator after it.
unfoldable pub draw : ℕ → List ℕ → ℕ × List ℕ
draw m g = ((plus_plus g).0 % m, (plus_plus g).1)

-- So many things, each drawn after those before it, and the generator after all of them. Things are numbered from 0.
unfoldable pub draws : {A : Type 0} → (ℕ → List ℕ → A × List ℕ) → ℕ → List ℕ → List A × List ℕ
draws f zero g = ([], g)
draws f (suc n) g =
    let before = draws f n g in
    let last = f n before.1 in
    (before.0 ++ last.0 ∷ [], last.1)

-- the memory of a vertex: at most 1,048,576 bytes
unfoldable pub drawn_sdram : ℕ → List ℕ → ℕ × List ℕ
drawn_sdram i g = draw 1048577 g

-- a target of a net: one of 200 vertices
unfoldable pub drawn_target : ℕ → List ℕ → ℕ × List ℕ
drawn_target i g = draw 200 g

-- A net: its source, then how many targets, 1 to 8, then each of them, then how many keys, 1 to 16.
unfoldable pub drawn_net : ℕ → List ℕ → DrawnNet × List ℕ
drawn_net i g =
    let source = draw 200 g in
    let more = draw 8 source.1 in
    let targets = draws drawn_target (1 + more.0) more.1 in
    let keys = draw 16 targets.1 in
    (record { source = source.0; targets = targets.0; keys = 1 + keys.0 }, keys.1)

-- how many keys the net of a number needs
unfoldable pub keys_at : List DrawnNet → ℕ → ℕ
keys_at nets i = slice_index (map (λ (net : DrawnNet). net.keys) nets) i

-- The packet of a number: four packets a net, in the order of the nets. Its index is one of its net's keys, and then comes
-- its payload of 32 bits.
unfoldable pub drawn_packet : List DrawnNet → ℕ → List ℕ → DrawnPacket × List ℕ
drawn_packet nets i g =
    let index = draw (keys_at nets (i / 4)) g in
    let payload = draw 4294967296 index.1 in
    (record { net = i / 4; index = index.0; payload = payload.0 }, payload.1)

-- All of a job, from its generator: first 200 vertices, then 300 nets, then 1,200 packets.
unfoldable pub drawn_from : List ℕ → Drawn
drawn_from g =
    let sdrams = draws drawn_sdram 200 g in
    let nets = draws drawn_net 300 sdrams.1 in
    let packets = draws (drawn_packet nets.0) 1200 nets.1 in
    record { sdrams = sdrams.0; nets = nets.0; packets = packets.0 }

-- what the job of a number draws
unfoldable pub drawn : ℕ → Drawn
drawn n = drawn_from (seeded n)

-- a net that needs a key
abbrev pub NeedsKey : DrawnNet → Type 0
NeedsKey net = 0 < net.keys
