-- A generated job is read without a fault, as its definition gives it.
use Rattle.job_gen.proofs.Common.{Bool, Drawn, DrawnNet, DrawnPacket, IsDrawn, IsDrawnNet, IsDrawnPacket, List, Net, None, Some, TooMany, Vertex, [], ap, arith, codes, count_faults, decimal, drawn}
use Rattle.job_gen.proofs.Common.{generated_net_name, generated_vertex, if◌then◌else◌, le-leb, length, length-map, list_of-items_of, map, name_place_in, next_net_faults, next_vertex_faults, refl}
use Rattle.job_gen.proofs.Common.{slice_index, unwrap_or, vertex_data, vertex_value, ℕ, ◌+◌, ◌-◌, ◌<◌, ◌∙◌, ◌∷◌, ◌≡◌, ◌≤◌}
use Rattle.app_graph.specs.RunPart.{key_count_of}
use Rattle.job_readers.specs.{Items.items_faults, Members.flag_member, Members.flag_member_faults, Members.list_member, Members.number_member, Members.number_member_faults, Members.optional_number}
use Rattle.job_readers.specs.{Members.list_member_faults, Members.long_list_member_faults, Entries.chip_faults, Entries.chip_value, Job.job_own_faults, Job.version_faults, Job.version_value}
use Rattle.job_readers.specs.{Places.reference_faults, Places.reference_value, MachinePart.entries_faults, MachinePart.machine_faults, MachinePart.machine_members, MachinePart.machine_members_faults}
use Rattle.job_readers.specs.{MachinePart.machine_value, GraphPart.graph_faults, GraphPart.graph_members, GraphPart.graph_members_faults, GraphPart.graph_value, GraphPart.name_value}
use Rattle.job_readers.specs.{GraphPart.net_names, GraphPart.net_value, GraphPart.nets_faults, GraphPart.nets_value, GraphPart.vertices_faults, GraphPart.vertices_value, RunPart.events_faults}
use Rattle.job_readers.specs.RunPart.{events_value, packet_faults, packet_net, packet_net_faults, packet_value, packets_faults, packets_value, places_faults, run_faults, run_members_faults}
use Rattle.job_readers.specs.{RunPart.run_members, RunPart.run_value, WholeJob.job_faults, WholeJob.job_value}
use Rattle.job_gen.specs.{Draws.keys_at, Values.dead_pairs, Values.gen_value, Values.graph_data, Values.job_data, Values.machine_data, Values.net_data, Values.numbered, Values.packet_data}
use Rattle.job_gen.specs.{Values.run_data, Board.generated_board, Generated.gen_job, Generated.generated_run, Generated.graph_of, Generated.job_of_drawn, Generated.net_of, Generated.packet_of}
use Rattle.job_gen.proofs.{NameLemmas.found, NameLemmas.named, ListReading.items_clean, ListReading.items_are, ListReading.numbered_are, ListReading.length-numbered, ListReading.following_clean}
use Rattle.job_gen.proofs.GraphReading.{within, vertex_clean, vertex_is, vertex_named, net_clean, net_is, net_named}
use Rattle.job_gen.proofs.{DrawnLaws.is_drawn, Joined.live_chips}

-- a list that is no longer than its limit
few_faults : (path : List ℕ) (limit count : ℕ) → count ≤ limit → count_faults path limit count ≡ []
few_faults path limit count few = ap (λ (b : Bool). if b then [] else TooMany path count ∷ []) (le-leb count limit few)

-- ---- the machine

machine_clean : (path : List ℕ) (job : Drawn) → machine_faults path (job_data job) ≡ []
unfolding machine_faults machine_members_faults entries_faults number_member_faults number_member flag_member_faults long_list_member_faults list_member items_faults chip_faults
    job_data graph_data machine_data run_data dead_pairs
machine_clean path job = refl

machine_is : (job : Drawn) → machine_value (job_data job) ≡ generated_board
unfolding machine_value machine_members number_member flag_member list_member chip_value job_data graph_data machine_data run_data dead_pairs generated_board
machine_is job = refl

-- ---- the graph

net_value_named : (vertices : List Vertex) (i : ℕ) (net : DrawnNet) → (net_value 1 vertices (net_data i net)).name ≡ 110 ∷ decimal i
unfolding net_value name_value net_data
net_value_named vertices i net = refl

net_keys : (i : ℕ) (net : DrawnNet) → (net_of i net).keys ≡ net.keys
unfolding net_of
net_keys i net = refl

keys_numbered : (k : ℕ) (nets : List DrawnNet) → map (λ (n : Net). n.keys) (numbered net_of k nets) ≡ map (λ (n : DrawnNet). n.keys) nets
unfolding numbered
keys_numbered k [] = refl
keys_numbered k (n ∷ nets) = rw (net_keys k n, keys_numbered (k + 1) nets) refl

module _ (job : Drawn) (drawn : IsDrawn job) where
  vertices_clean : (path : List ℕ) → vertices_faults 1 path (graph_data job) ≡ []
  unfolding vertices_faults list_member_faults list_member graph_data
  vertices_clean path =
      rw (
        list_of-items_of (numbered vertex_data 0 job.sdrams),
        few_faults _ 16384 (length (numbered vertex_data 0 job.sdrams)) (omega (arith, length-numbered vertex_data 0 job.sdrams, drawn.vertices)),
        following_clean (λ s. s ≤ 1048576) 118 (λ (v : Vertex). v.name) (next_vertex_faults 1) (vertex_value 1) vertex_data vertex_clean
            (λ i s. ap (λ (v : Vertex). v.name) (vertex_is i s) ∙ vertex_named i s) [] _ 0 0 job.sdrams tt (omega (arith, drawn.vertices)) drawn.sdrams,
      ) refl

  vertices_are : vertices_value 1 (graph_data job) ≡ numbered generated_vertex 0 job.sdrams
  unfolding vertices_value list_member graph_data
  vertices_are =
      ap (map (vertex_value 1)) (list_of-items_of (numbered vertex_data 0 job.sdrams))
      ∙ numbered_are (λ s. s ≤ 1048576) (vertex_value 1) vertex_data generated_vertex (λ i s few. vertex_is i s) 0 job.sdrams drawn.sdrams

  nets_clean : (path : List ℕ) → nets_faults 1 (numbered generated_vertex 0 job.sdrams) path (graph_data job) ≡ []
  unfolding nets_faults list_member_faults list_member graph_data
  nets_clean path =
      rw (
        list_of-items_of (numbered net_data 0 job.nets),
        few_faults _ 4096 (length (numbered net_data 0 job.nets)) (omega (arith, length-numbered net_data 0 job.nets, drawn.number_of_nets)),
        following_clean IsDrawnNet 110 (λ (n : Net). n.name) (next_net_faults 1 (numbered generated_vertex 0 job.sdrams)) (net_value 1 (numbered generated_vertex 0 job.sdrams)) net_data
            (net_clean job.sdrams drawn.vertices) (net_value_named (numbered generated_vertex 0 job.sdrams)) [] _ 0 0 job.nets tt (omega (arith, drawn.number_of_nets)) drawn.nets,
      ) refl

  nets_are : nets_value 1 (numbered generated_vertex 0 job.sdrams) (graph_data job) ≡ numbered net_of 0 job.nets
  unfolding nets_value list_member graph_data
  nets_are =
      ap (map (net_value 1 (numbered generated_vertex 0 job.sdrams))) (list_of-items_of (numbered net_data 0 job.nets))
      ∙ numbered_are IsDrawnNet (net_value 1 (numbered generated_vertex 0 job.sdrams)) net_data net_of (net_is job.sdrams drawn.vertices) 0 job.nets drawn.nets

  graph_clean : (path : List ℕ) → graph_members_faults 1 path (graph_data job) ≡ []
  unfolding graph_members_faults
  graph_clean path = rw (vertices_clean path, vertices_are, nets_clean path) refl

  graph_is : graph_members 1 (graph_data job) ≡ graph_of job
  unfolding graph_members graph_of
  graph_is = rw (vertices_are, nets_are) refl

  -- ---- packets

  net_place : (i : ℕ) → i < 300 → name_place_in (net_names (numbered net_of 0 job.nets)) (generated_net_name i) ≡ Some i
  unfolding net_names
  net_place i below =
      let number : i ≡ 0 + i = omega arith in
      ap (λ j. name_place_in (net_names (numbered net_of 0 job.nets)) (110 ∷ decimal j)) number
      ∙ found 110 (λ (n : Net). n.name) net_of net_named 0 i job.nets (omega (arith, drawn.number_of_nets)) (omega (arith, drawn.number_of_nets))

  same_keys : (i : ℕ) → key_count_of (numbered net_of 0 job.nets) i ≡ keys_at job.nets i
  unfolding key_count_of keys_at
  same_keys i = ap (λ ks. slice_index ks i) (keys_numbered 0 job.nets)

  packet_net_is : (p : DrawnPacket) → p.net < 300 → packet_net (numbered net_of 0 job.nets) (packet_data p) ≡ p.net
  unfolding packet_net reference_value packet_data
  packet_net_is p below = ap (λ o. unwrap_or o 0) (net_place p.net below)

  packet_net_clean : (path : List ℕ) (p : DrawnPacket) → p.net < 300 → packet_net_faults (numbered net_of 0 job.nets) path (packet_data p) ≡ []
  unfolding packet_net_faults reference_faults packet_data
  packet_net_clean path p below = grind (arith, named 110 p.net (omega arith) (omega arith) (omega arith), net_place p.net below)

  index_clean : (path : List ℕ) (p : DrawnPacket) (high : ℕ) → p.index ≤ high → number_member_faults path (codes "index") 0 high None (packet_data p) ≡ []
  unfolding number_member_faults packet_data
  index_clean path p high below = rw (within 0 high p.index (omega arith) below) refl

  payload_clean : (path : List ℕ) (p : DrawnPacket) → p.payload ≤ 4294967295 → number_member_faults path (codes "payload") 0 4294967295 (Some 0) (packet_data p) ≡ []
  unfolding number_member_faults packet_data
  payload_clean path p below = rw (within 0 4294967295 p.payload (omega arith) below) refl

  packet_clean : (path : List ℕ) (p : DrawnPacket) → IsDrawnPacket job.nets p → packet_faults (numbered net_of 0 job.nets) path (packet_data p) ≡ []
  unfolding packet_faults packet_data
  packet_clean path p of_nets = grind (arith, packet_net_is, same_keys, packet_net_clean, index_clean, payload_clean)

  packet_is : (p : DrawnPacket) → IsDrawnPacket job.nets p → packet_value (numbered net_of 0 job.nets) (packet_data p) ≡ packet_of p
  unfolding packet_value number_member optional_number packet_data packet_of
  packet_is p of_nets = rw (packet_net_is p of_nets.net) refl

  packets_clean : (path : List ℕ) → packets_faults (numbered net_of 0 job.nets) path (run_data job.packets) ≡ []
  unfolding packets_faults list_member_faults list_member run_data
  packets_clean path =
      let many : length (map packet_data job.packets) ≡ length job.packets = length-map job.packets packet_data in
      rw (
        list_of-items_of (map packet_data job.packets),
        few_faults _ 65536 (length (map packet_data job.packets)) (omega (arith, many, drawn.number_of_packets)),
        items_clean (IsDrawnPacket job.nets) (packet_faults (numbered net_of 0 job.nets)) packet_data packet_clean _ 0 job.packets drawn.packets,
      ) refl

  packets_are : packets_value (numbered net_of 0 job.nets) (run_data job.packets) ≡ map packet_of job.packets
  unfolding packets_value list_member run_data
  packets_are =
      ap (map (packet_value (numbered net_of 0 job.nets))) (list_of-items_of (map packet_data job.packets))
      ∙ items_are (IsDrawnPacket job.nets) (packet_value (numbered net_of 0 job.nets)) packet_data packet_of packet_is job.packets drawn.packets

  -- ---- the run part

  run_clean : (path : List ℕ) → run_members_faults 48 (graph_of job) path (run_data job.packets) ≡ []
  unfolding run_members_faults number_member_faults number_member events_faults long_list_member_faults list_member items_faults places_faults graph_of run_data
  run_clean path = grind (arith, length-numbered generated_vertex 0 job.sdrams, packets_clean path)

  run_is : run_members (graph_of job) (run_data job.packets) ≡ generated_run job.packets
  unfolding run_members number_member events_value list_member graph_of generated_run run_data
  run_is = rw packets_are refl

  -- ---- the whole job

  graph_part_clean : (path : List ℕ) → graph_faults path 1 (job_data job) ≡ []
  unfolding graph_faults job_data graph_data
  graph_part_clean path = graph_clean _

  graph_part_is : graph_value 1 (job_data job) ≡ graph_of job
  unfolding graph_value job_data graph_data
  graph_part_is = graph_is

  run_part_clean : (path : List ℕ) → run_faults path generated_board (graph_of job) (job_data job) ≡ []
  unfolding run_faults job_data run_data
  run_part_clean path = rw live_chips (run_clean _)

  run_part_is : run_value (graph_of job) (job_data job) ≡ generated_run job.packets
  unfolding run_value job_data run_data
  run_part_is = run_is

  version_is : version_value (job_data job) ≡ 1
  unfolding version_value number_member job_data
  version_is = refl

  version_clean : (path : List ℕ) → version_faults path 3 (job_data job) ≡ []
  unfolding version_faults number_member_faults job_data
  version_clean path = refl

  own_clean : (path : List ℕ) → job_own_faults path (job_data job) ≡ []
  unfolding job_own_faults job_data
  own_clean path = refl

  pub drawn_clean : (path : List ℕ) → job_faults path 3 (job_data job) ≡ []
  unfolding job_faults
  drawn_clean path =
      rw (
        own_clean path,
        version_clean path,
        machine_clean path job,
        version_is,
        graph_part_clean path,
        machine_is job,
        graph_part_is,
        run_part_clean path,
      ) refl

  pub drawn_is : job_value (job_data job) ≡ job_of_drawn job
  unfolding job_value job_of_drawn
  drawn_is = rw (version_is, machine_is job, graph_part_is, run_part_is) refl

-- ---- generated jobs

pub generated_clean : (n : ℕ) → job_faults (codes "job") 3 (gen_value n) ≡ []
unfolding gen_value
generated_clean n = drawn_clean (drawn n) (is_drawn n) (codes "job")

pub generated_is : (n : ℕ) → job_value (gen_value n) ≡ gen_job n
unfolding gen_value gen_job
generated_is n = drawn_is (drawn n) (is_drawn n)
