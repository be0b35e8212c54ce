-- The job that is generated from a number (this project's own).
use Rattle.std.specs.Prelude.{ℕ, List, [], map, None, Some}
use Rattle.spin_base.specs.declared.copies.Packet.{Packet}
use Rattle.app_graph.specs.declared.graphs.Vertex.{Vertex}
use Rattle.app_graph.specs.declared.graphs.Net.{Net}
use Rattle.app_graph.specs.declared.graphs.Graph.{Graph}
use Rattle.app_graph.specs.declared.graphs.RunPart.{RunPart}
use Rattle.job_readers.specs.declared.jobs.Job.{Job}
use Rattle.job_gen.specs.declared.draws.DrawnNet.{DrawnNet}
use Rattle.job_gen.specs.declared.draws.DrawnPacket.{DrawnPacket}
use Rattle.job_gen.specs.declared.draws.Drawn.{Drawn}
use Rattle.job_gen.specs.Draws.{drawn}
use Rattle.job_gen.specs.Values.{generated_vertex_name, generated_net_name, numbered}
use Rattle.job_gen.specs.Board.{generated_board}

-- a vertex may stand anywhere
unfoldable pub generated_vertex : ℕ → ℕ → Vertex
generated_vertex i sdram = record { name = generated_vertex_name i; sdram = sdram; at = None; device = None }

-- a net may have any keys
unfoldable pub net_of : ℕ → DrawnNet → Net
net_of i net = record { name = generated_net_name i; source = net.source; targets = net.targets; keys = net.keys; fixed = None }

unfoldable pub packet_of : DrawnPacket → Packet
packet_of p = record { net = p.net; index = p.index; payload = Some p.payload }

unfoldable pub graph_of : Drawn → Graph
graph_of job = record { vertices = numbered generated_vertex 0 job.sdrams; nets = numbered net_of 0 job.nets }

-- Queues have room for all packets. Tables are joined as far as they can be.
unfoldable pub generated_run : List DrawnPacket → RunPart
generated_run packets = record {
  queue = 1200;
  patience = 16;
  workers = 4;
  turns = 64;
  target = 0;
  packets = map packet_of packets;
  events = [];
}

-- the job of what was drawn
unfoldable pub job_of_drawn : Drawn → Job
job_of_drawn job = record { machine = generated_board; graph = graph_of job; run = generated_run job.packets }

-- the job of a number
unfoldable pub gen_job : ℕ → Job
gen_job n = job_of_drawn (drawn n)
