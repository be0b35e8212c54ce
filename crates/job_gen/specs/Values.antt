-- The JSON value of a generated job (this project's own). The board of 48 chips is that of SpiNNaker's SpiNN-5.
use Rattle.std.specs.Prelude.{ℕ, ◌+◌, List, [], ◌∷◌, ◌++◌, map, codes, decimal}
use Rattle.serde_json.specs.Data.{Data, unsigned, number, string, array, object, item, no_items, member, no_members}
use Rattle.serde_json.specs.View.{items_of}
use Rattle.serde_json.specs.Written.{compact_text}
use Rattle.job_gen.specs.declared.draws.DrawnNet.{DrawnNet}
use Rattle.job_gen.specs.declared.draws.DrawnPacket.{DrawnPacket}
use Rattle.job_gen.specs.declared.draws.Drawn.{Drawn}
use Rattle.job_gen.specs.Draws.{drawn}

-- vertices are v0, v1 and so on, nets n0, n1 and so on
abbrev pub generated_vertex_name : ℕ → List ℕ
generated_vertex_name i = codes "v" ++ decimal i

abbrev pub generated_net_name : ℕ → List ℕ
generated_net_name i = codes "n" ++ decimal i

-- each item with its number, counted from i
unfoldable pub numbered : {A B : Type 0} → (ℕ → A → B) → ℕ → List A → List B
numbered f i [] = []
numbered f i (x ∷ xs) = f i x ∷ numbered f (i + 1) xs

-- a vertex has its name and its memory
unfoldable pub vertex_data : ℕ → ℕ → Data
vertex_data i sdram =
    object (member (codes "name") (string (generated_vertex_name i))
    (member (codes "sdram") (number (unsigned sdram)) no_members))

-- the name of a vertex, as a value
unfoldable pub name_data : ℕ → Data
name_data i = string (generated_vertex_name i)

-- A net has its keys, its name, its source and its targets.
unfoldable pub net_data : ℕ → DrawnNet → Data
net_data i net =
    object (member (codes "keys") (number (unsigned net.keys))
    (member (codes "name") (string (generated_net_name i))
    (member (codes "source") (name_data net.source)
    (member (codes "targets") (array (items_of (map name_data net.targets))) no_members))))

-- A packet has its index, its net and its payload.
unfoldable pub packet_data : DrawnPacket → Data
packet_data p =
    object (member (codes "index") (number (unsigned p.index))
    (member (codes "net") (string (generated_net_name p.net))
    (member (codes "payload") (number (unsigned p.payload)) no_members)))

-- a chip is [x,y]
abbrev pub chip_data : ℕ → ℕ → Data
chip_data x y = array (item (number (unsigned x)) (item (number (unsigned y)) no_items))

abbrev pub pair_data : ℕ × ℕ → Data
pair_data p = chip_data p.0 p.1

-- The chips of a grid of 8 by 8 that a board of 48 chips does not have, by x, then y.
unfoldable pub dead_pairs : List (ℕ × ℕ)
dead_pairs =
    (0, 4) ∷ (0, 5) ∷ (0, 6) ∷ (0, 7) ∷ (1, 5) ∷ (1, 6) ∷ (1, 7) ∷ (2, 6) ∷ (2, 7) ∷ (3, 7)
    ∷ (5, 0) ∷ (6, 0) ∷ (6, 1) ∷ (7, 0) ∷ (7, 1) ∷ (7, 2) ∷ []

unfoldable pub machine_data : Data
machine_data =
    object (member (codes "dead_chips") (array (items_of (map pair_data dead_pairs)))
    (member (codes "height") (number (unsigned 8))
    (member (codes "width") (number (unsigned 8)) no_members)))

unfoldable pub graph_data : Drawn → Data
graph_data job =
    object (member (codes "nets") (array (items_of (numbered net_data 0 job.nets)))
    (member (codes "vertices") (array (items_of (numbered vertex_data 0 job.sdrams))) no_members))

-- Queues have room for all packets, and tables are joined as far as they can be.
unfoldable pub run_data : List DrawnPacket → Data
run_data packets =
    object (member (codes "packets") (array (items_of (map packet_data packets)))
    (member (codes "patience") (number (unsigned 16))
    (member (codes "queue") (number (unsigned 1200))
    (member (codes "target") (number (unsigned 0))
    (member (codes "turns") (number (unsigned 64))
    (member (codes "workers") (number (unsigned 4)) no_members))))))

unfoldable pub job_data : Drawn → Data
job_data job =
    object (member (codes "graph") (graph_data job)
    (member (codes "machine") machine_data
    (member (codes "run") (run_data job.packets)
    (member (codes "version") (number (unsigned 1)) no_members))))

-- the value of the job of a number, and its text: JSON without a space, the members of each object in the order of their names
unfoldable pub gen_value : ℕ → Data
gen_value n = job_data (drawn n)

unfoldable pub gen_text_of : ℕ → List ℕ
gen_text_of n = compact_text (gen_value n)
