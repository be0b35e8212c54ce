use Rattle.job_readers.proofs.Common.{All, AllPairs, HaveDifferentDevices, IsValidVertex, [], devices_of, drop, following_faults, length, map, next_vertex_faults, path_text, take, vertex_names_of}
use Rattle.job_readers.proofs.Common.{vertex_value, view, ◌≡◌}
use Rattle.job_readers.proofs.graph_parts.each_vertex.Given as goal

abbrev pub invariant-loop-i : goal.invariant-loop-i
invariant-loop-i l = record {
  left : following_faults (next_vertex_faults l.version) (vertex_value l.version) l.vertices (path_text l.path) l.i (map view (drop l.i l.items)) ≡ following_faults (next_vertex_faults l.version) (vertex_value l.version) [] (path_text l.path) 0 (map view l.items);
  read : l.vertices ≡ map (vertex_value l.version) (map view (take l.i l.items));
  counted : length l.names ≡ l.i;
  named : l.names ≡ vertex_names_of l.vertices;
  hung : l.devices ≡ devices_of l.vertices;
  valid : All IsValidVertex l.vertices;
  different : AllPairs HaveDifferentDevices l.vertices;
}
