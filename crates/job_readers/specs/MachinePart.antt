-- The machine of a job: its faults in the order of reading, and what it is (this project's own). Where a part has
-- faults, its value is what could be read, and 0 or nothing in place of the rest.
use Rattle.std.specs.Prelude.{ℕ, List, ◌++◌, false, Some, None, map, codes}
use Rattle.serde_json.specs.Data.{Data}
use Rattle.machine_desc.specs.Description.{Description}
use Rattle.job_text.specs.declared.faults.JobFault.{JobFault}
use Rattle.job_text.specs.Reading.{◌▹◌}
use Rattle.job_text.specs.Members.{member_of}
use Rattle.job_text.specs.Paths.{member_at}
use Rattle.job_text.specs.Fields.{object_faults, object_value}
use Rattle.job_readers.specs.Items.{items_faults}
use Rattle.job_readers.specs.Members.{number_member_faults, number_member, flag_member_faults, flag_member, long_list_member_faults, list_member}
use Rattle.job_readers.specs.Entries.{chip_faults, chip_value, core_faults, core_value, link_faults, link_value}

-- a list of entries that may be absent
unfoldable pub entries_faults : (List ℕ → Data → List JobFault) → List ℕ → List ℕ → Data → List JobFault
entries_faults f path name d =
    long_list_member_faults path name false d ++ items_faults f (member_at path name) 0 (list_member name d)

-- the members of a machine, in order
unfoldable pub machine_members_faults : List ℕ → Data → List JobFault
machine_members_faults path d =
    let width = number_member (codes "width") None d in
    let height = number_member (codes "height") None d in
    number_member_faults path (codes "width") 1 64 None d
    ++ (number_member_faults path (codes "height") 1 64 None d
    ++ (flag_member_faults path (codes "wrap") d
    ++ (number_member_faults path (codes "sdram") 0 134217728 (Some 134217728) d
    ++ (entries_faults (chip_faults width height) path (codes "dead_chips") d
    ++ (entries_faults (core_faults width height) path (codes "dead_cores") d
    ++ entries_faults (link_faults width height) path (codes "dead_links") d)))))

unfoldable pub machine_members : Data → Description
machine_members d = record {
  width = number_member (codes "width") None d;
  height = number_member (codes "height") None d;
  wrap = flag_member (codes "wrap") false d;
  sdram = number_member (codes "sdram") (Some 134217728) d;
  dead_chips = map chip_value (list_member (codes "dead_chips") d);
  dead_cores = map core_value (list_member (codes "dead_cores") d);
  dead_links = map link_value (list_member (codes "dead_links") d);
}

-- The machine stands in the job's member `machine`, which must be an object.
unfoldable pub machine_faults : List ℕ → Data → List JobFault
machine_faults path job =
    object_faults (member_at path (codes "machine")) (member_of (codes "machine") job)
    ▹ machine_members_faults (member_at path (codes "machine")) (object_value (member_of (codes "machine") job))

unfoldable pub machine_value : Data → Description
machine_value job = machine_members (object_value (member_of (codes "machine") job))
