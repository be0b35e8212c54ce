-- The walk of a displacement that goes the longest dimension first.
use Rattle.std.specs.Prelude.{Bool, true, false, nat_le, if◌then◌else◌, suc, ℤ, pos, negsuc, ◌-ℤ◌, neg_ℤ, List, [], ◌∷◌, replicate}
use Rattle.std.specs.Int.{int_max, int_min}
use Rattle.std.specs.List.{flat_map, count_by}
use Rattle.spin_base.specs.declared.chips.Dir.{Dir}
use Rattle.spin_base.specs.declared.chips.Dir.TheVariants.{East, North, SouthWest}
use Rattle.spin_base.specs.Links.{opposite_of}
use Rattle.machine_desc.specs.declared.steps.Step.{Step}
use Rattle.machine_desc.specs.declared.steps.Step.TheVariants.{Back, Stay, Ahead}
use Rattle.machine_desc.specs.Live.{x_step, y_step}
use Rattle.ner_trees.specs.{declared.displacements.Disp.Disp, declared.walks.Run.Run}

-- the one of three numbers that stands between the others
abbrev pub median : ℤ → ℤ → ℤ → ℤ
median a b c = int_max (int_min a b) (int_min (int_max a b) c)

-- so many steps by a link, or by the opposite link where the number is negative
abbrev pub link_run_of : Dir → ℤ → Run
link_run_of d (pos n) = record { dir = d; count = n }
link_run_of d (negsuc n) = record { dir = opposite_of d; count = suc n }

-- One step by each of East, North and South-West leads nowhere, so a displacement (a, b) is (a, b, 0) along these three,
-- and so is that with one number taken off all three. With the median taken off, one of the three is 0, and the steps
-- are as few as can be (Navaridas and others, 2015).
abbrev pub runs_of : Disp → List Run
runs_of d =
    let m : ℤ = median d.a d.b (pos 0) in
    link_run_of East (d.a -ℤ m) ∷ link_run_of North (d.b -ℤ m) ∷ link_run_of SouthWest (neg_ℤ m) ∷ []

-- a run put before those that are not longer
abbrev pub put_run : Run → List Run → List Run
put_run r [] = r ∷ []
put_run r (s ∷ rs) = if nat_le s.count r.count then r ∷ s ∷ rs else s ∷ put_run r rs

-- Longer runs come first, and of equal ones that which stood before (this project's own).
abbrev pub longest_first : List Run → List Run
longest_first [] = []
longest_first (r ∷ rs) = put_run r (longest_first rs)

abbrev pub run_links : Run → List Dir
run_links r = replicate r.count r.dir

-- The steps of a displacement, the longest run first.
unfoldable pub ldf_of : Disp → List Dir
ldf_of d = flat_map run_links (longest_first (runs_of d))

abbrev pub is_ahead : Step → Bool
is_ahead Ahead = true
is_ahead Stay = false
is_ahead Back = false

abbrev pub is_back : Step → Bool
is_back Ahead = false
is_back Stay = false
is_back Back = true

-- What steps add up to, along each axis: those ahead less those back.
abbrev pub sum_of : List Dir → Disp
sum_of ds = record {
  a = pos (count_by (λ d. is_ahead (x_step d)) ds) -ℤ pos (count_by (λ d. is_back (x_step d)) ds);
  b = pos (count_by (λ d. is_ahead (y_step d)) ds) -ℤ pos (count_by (λ d. is_back (y_step d)) ds);
}
