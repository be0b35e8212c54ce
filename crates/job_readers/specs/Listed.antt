-- What a contract sees of devices in order, and what their set keeps.
use Rattle.std.specs.Prelude.{◌≡◌, List, Bool, ◌&&◌, ◌==◌}
use Rattle.std.specs.List.{list_any}
use Rattle.std.specs.HashSet.{contains_by}
use Rattle.spin_base.specs.Equality.{chip_eq}
use Rattle.spin_base.specs.Links.{dir_number}
use Rattle.machine_desc.specs.declared.trees.Edge.{Edge}
use Rattle.job_readers.specs.declared.devices.Anchor.{Anchor}
use Rattle.job_readers.specs.declared.devices.Devices.TheInside.{Inside}

-- where a device hangs
abbrev pub anchor_of : Edge → Anchor
anchor_of e = record { chip = e.chip; link = dir_number e.dir }

abbrev pub anchor_eq : Anchor → Anchor → Bool
anchor_eq a b = chip_eq a.chip b.chip && (a.link == b.link)

abbrev pub listed_of : Inside → List Edge
listed_of s = s.listed.items

-- The set has the anchors of the list's devices.
pub record IsListed (s : Inside) : Type 0 where
  pub told : (q : Anchor) → contains_by (anchor_eq q) s.known ≡ list_any (λ e. anchor_eq (anchor_of e) q) (listed_of s)
