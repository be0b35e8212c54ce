-- The whole job: all its faults in the order of reading, and what it is (this project's own).
use Rattle.std.specs.Prelude.{ℕ, List, ◌++◌}
use Rattle.serde_json.specs.Data.{Data}
use Rattle.job_text.specs.declared.faults.JobFault.{JobFault}
use Rattle.job_text.specs.Reading.{◌▹◌}
use Rattle.job_readers.specs.Job.{job_own_faults, version_faults, version_value}
use Rattle.job_readers.specs.MachinePart.{machine_faults, machine_value}
use Rattle.job_readers.specs.GraphPart.{graph_faults, graph_value}
use Rattle.job_readers.specs.RunPart.{run_faults, run_value}
use Rattle.job_readers.specs.declared.jobs.Job.{Job}

-- The faults of the job at a path, of a version up to the greatest that is read. What is no object has that fault alone.
-- Else the version, the machine, the graph and the run part are read in order; the version says which members the graph has.
unfoldable pub job_faults : List ℕ → ℕ → Data → List JobFault
job_faults path greatest d =
    job_own_faults path d
    ▹ (version_faults path greatest d
    ++ (machine_faults path d
    ++ (graph_faults path (version_value d) d
    ++ run_faults path (machine_value d) (graph_value (version_value d) d) d)))

unfoldable pub job_value : Data → Job
job_value d = record {
  machine = machine_value d;
  graph = graph_value (version_value d) d;
  run = run_value (graph_value (version_value d) d) d;
}
