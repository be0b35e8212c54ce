-- A job of version 1 or 2 has no device.
use Rattle.job_requests.proofs.Common.{All, All-each, Bool, Contains-unmap, Data, List, None, Option, Some, Vertex, [], and_parts, arith, codes, job_own_faults, leb-true, list_member, lt-leb}
use Rattle.job_requests.proofs.Common.{member_at, member_of, none_first, none_inside, number_faults, number_value, object_value, range_unless, subst, true, ℕ, ◌≡◌, ◌≤◌}
use Rattle.job_readers.specs.{GraphPart.device_value, GraphPart.graph_members, GraphPart.graph_value, GraphPart.vertex_value, GraphPart.vertices_value, Job.version_faults, Job.version_value}
use Rattle.job_readers.specs.{Members.member_since, Members.number_member, Members.number_member_faults, WholeJob.job_faults, WholeJob.job_value}

-- a number without a fault is no greater than the greatest
no_more : (path : List ℕ) (low high : ℕ) (o : Option Data) → number_faults path low high None o ≡ [] → number_value None o ≤ high
no_more path low high None none = absurd cc
no_more path low high (Some d) none = grind (arith, leb-true, and_parts, by_test)
  where
    by_test : (b : Bool) → range_unless b path ≡ [] → b ≡ true
    by_test b clear = grind arith

low_version : (path : List ℕ) (d : Data) → version_faults path 2 d ≡ [] → version_value d ≤ 2
unfolding version_faults version_value number_member_faults number_member
low_version path d none = no_more (member_at path (codes "version")) 1 2 (member_of (codes "version") d) none

no_device : (version : ℕ) (d : Data) → version ≤ 2 → device_value version d ≡ None
unfolding device_value member_since
no_device version d low = grind (arith, lt-leb 3 version (omega (arith, low)))

no_devices : (version : ℕ) (d : Data) → version ≤ 2 → All (λ (v : Vertex). v.device ≡ None) (vertices_value version d)
unfolding vertices_value vertex_value
no_devices version d low =
    All-each (λ (v : Vertex). v.device ≡ None) (vertices_value version d) (λ v has.
    let from = Contains-unmap (vertex_value version) (list_member (codes "vertices") d) v has in
    subst (λ (w : Vertex). w.device ≡ None) from.2 (no_device version from.0 low))

pub job_of_cores : (path : List ℕ) (d : Data) → job_faults path 2 d ≡ [] → All (λ (v : Vertex). v.device ≡ None) (job_value d).graph.vertices
unfolding job_faults job_value graph_value graph_members
job_of_cores path d none = no_devices (version_value d) (object_value (member_of (codes "graph") d)) (low_version path d (none_first (version_faults path 2 d) _ (none_inside (job_own_faults path d) _ none)))
