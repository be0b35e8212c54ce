use Rattle.job_requests.proofs.Common.{All, IsValidStep, drop, first_machine_alone, is_load, items_faults, length, list_any, map, path_text, step_faults, step_value, take, view, ◌≡◌}
use Rattle.job_requests.proofs.steps.each_step.Given as goal

-- The steps so far are read, and it is known whether one of them is a load.
abbrev pub invariant-loop-i : goal.invariant-loop-i
invariant-loop-i l = record {
  left : items_faults step_faults (path_text l.path) l.i (map view (drop l.i l.items)) ≡ items_faults step_faults (path_text l.path) 0 (map view l.items);
  read : l.steps ≡ first_machine_alone (map step_value (map view (take l.i l.items)));
  loaded : l.loaded ≡ list_any is_load (map step_value (map view (take l.i l.items)));
  counted : length l.steps ≡ l.i;
  valid : All IsValidStep l.steps;
}
