use Rattle.job_readers.proofs.Common.{All, AllPairs, AreFixedApart, HasSendingSource, IsValidNet, [], drop, fixed_blocks_of, following_faults, length, map, net_names, net_value, next_net_faults}
use Rattle.job_readers.proofs.Common.{path_text, take, view, ◌≡◌}
use Rattle.job_readers.proofs.graph_parts.each_net.Given as goal

abbrev pub invariant-loop-i : goal.invariant-loop-i
invariant-loop-i l = record {
  left : following_faults (next_net_faults l.version l.among.vertices.now) (net_value l.version l.among.vertices.now) l.nets (path_text l.path) l.i (map view (drop l.i l.items))
      ≡ following_faults (next_net_faults l.version l.among.vertices.now) (net_value l.version l.among.vertices.now) [] (path_text l.path) 0 (map view l.items);
  read : l.nets ≡ map (net_value l.version l.among.vertices.now) (map view (take l.i l.items));
  counted : length l.names ≡ l.i;
  called : l.names ≡ net_names l.nets;
  held : l.blocks ≡ fixed_blocks_of l.nets;
  valid : All (IsValidNet (length l.among.vertices.now)) l.nets;
  sources : All (HasSendingSource l.among.vertices.now) l.nets;
  fixed : AllPairs AreFixedApart l.nets;
}
