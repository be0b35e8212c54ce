use Rattle.job_readers.proofs.Common.{All, drop, items_faults, map, path_text, take, view, ◌≡◌}
use Rattle.job_readers.proofs.items.each_item.Given as goal

abbrev pub invariant-loop-i : goal.invariant-loop-i
invariant-loop-i g l = record {
  left : items_faults (g.R.ItemReader.faults l.reader) (path_text l.path) l.i (map view (drop l.i l.items)) ≡ items_faults (g.R.ItemReader.faults l.reader) (path_text l.path) 0 (map view l.items);
  read : l.found ≡ map (g.R.ItemReader.value l.reader) (map view (take l.i l.items));
  holds : All (g.R.ItemReader.Holds l.reader) l.found;
}
