-- A request to check tables: all its faults in the order of reading, and what it is (this project's own).
use Rattle.std.specs.Prelude.{ℕ, List, ◌++◌, ◌==◌, true, Some, None, map, length, codes, is_some}
use Rattle.serde_json.specs.Data.{Data}
use Rattle.machine_desc.specs.declared.trees.Edge.{Edge}
use Rattle.job_text.specs.declared.faults.JobFault.{JobFault}
use Rattle.job_text.specs.Reading.{◌▹◌}
use Rattle.job_text.specs.Members.{member_of}
use Rattle.job_text.specs.Paths.{member_at}
use Rattle.job_text.specs.Fields.{object_value, list_faults, list_value, number_faults, number_value, range_unless, shape_unless}
use Rattle.job_readers.specs.Items.{items_faults}
use Rattle.job_readers.specs.Entries.{link_faults, link_value}
use Rattle.job_readers.specs.WholeJob.{job_faults, job_value}
use Rattle.job_requests.specs.declared.requests.Request.{Request}

-- A request has a member `job`. What is no object has none, and null is none.
unfoldable pub request_own_faults : List ℕ → Data → List JobFault
request_own_faults path d = shape_unless (is_some (member_of (codes "job") d)) path

unfoldable pub job_member : Data → Data
job_member d = object_value (member_of (codes "job") d)

-- A tree is a list of links [x,y,d], each of a chip inside the grid.
unfoldable pub tree_faults : ℕ → ℕ → List ℕ → Data → List JobFault
tree_faults width height path d = list_faults path true (Some d) ▹ items_faults (link_faults width height) path 0 (list_value (Some d))

unfoldable pub tree_value : Data → List Edge
tree_value d = map link_value (list_value (Some d))

-- There is exactly one tree for each net, else Range of the list.
abbrev pub one_each_faults : ℕ → List ℕ → List Data → List JobFault
one_each_faults nets path trees = range_unless (length trees == nets) path

unfoldable pub trees_faults : ℕ → ℕ → ℕ → List ℕ → Data → List JobFault
trees_faults nets width height path d =
    list_faults (member_at path (codes "trees")) true (member_of (codes "trees") d)
    ▹ (one_each_faults nets (member_at path (codes "trees")) (list_value (member_of (codes "trees") d))
    ▹ items_faults (tree_faults width height) (member_at path (codes "trees")) 0 (list_value (member_of (codes "trees") d)))

unfoldable pub trees_value : Data → List (List Edge)
trees_value d = map tree_value (list_value (member_of (codes "trees") d))

-- The image is a list of bytes: numbers from 0 to 255.
abbrev pub byte_faults : List ℕ → Data → List JobFault
byte_faults path d = number_faults path 0 255 None (Some d)

abbrev pub byte_value : Data → ℕ
byte_value d = number_value None (Some d)

unfoldable pub image_faults : List ℕ → Data → List JobFault
image_faults path d =
    list_faults (member_at path (codes "image")) true (member_of (codes "image") d)
    ▹ items_faults byte_faults (member_at path (codes "image")) 0 (list_value (member_of (codes "image") d))

unfoldable pub image_value : Data → List ℕ
image_value d = map byte_value (list_value (member_of (codes "image") d))

-- The request stands at the path `in`, and its job, of versions 1 to 3, at the path `job`. After the request's own fault come
-- those of the job, then those of the trees and of the image.
unfoldable pub request_faults : Data → List JobFault
request_faults d =
    let job = job_value (job_member d) in
    request_own_faults (codes "in") d
    ▹ (job_faults (codes "job") 3 (job_member d)
    ++ (trees_faults (length job.graph.nets) job.machine.width job.machine.height (codes "in") d
    ++ image_faults (codes "in") d))

unfoldable pub request_value : Data → Request
request_value d = record {
  job = job_value (job_member d);
  trees = trees_value d;
  image = image_value d;
}
