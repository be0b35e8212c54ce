-- The spots where vertices can stand.
use Rattle.machine_desc.proofs.Common.{Description, Dir, IsLiveChip, IsSite, IsUsable, Link, Spot, and_parts, arith, dir_at, dir_at-dir_number, false, is_device_place, is_live_link, leb-true}
use Rattle.machine_desc.proofs.Common.{ltb-true, not-true, or_cases, or_left, out_of, same_number, spot_of_link, true, ◌-◌, ◌<◌, ◌≡◌, ◌≤◌, ◌⊎◌}
use Rattle.machine_desc.proofs.Same.{same_spot}

-- a usable core is one of 1 to 17 of a live chip
pub usable_parts : (m : Description) (s : Spot) → IsUsable m s → IsLiveChip m s.chip × (1 ≤ s.core) × (s.core ≤ 17)
usable_parts m s h = grind (arith, and_parts, leb-true)

-- the place of a device is one of 18 to 23 of a live chip, and the link is not live
pub device_parts : (m : Description) (s : Spot) → is_device_place m s ≡ true →
    IsLiveChip m s.chip × (18 ≤ s.core) × (s.core < 24) × (is_live_link m s.chip (dir_at (s.core - 18)) ≡ false)
device_parts m s h = grind (arith, and_parts, leb-true, ltb-true, not-true)

pub site_cases : (m : Description) (s : Spot) → IsSite m s → IsUsable m s ⊎ (is_device_place m s ≡ true)
site_cases m s h = or_cases _ _ h

-- a usable core is a site
pub usable_site : (m : Description) (s : Spot) → IsUsable m s → IsSite m s
usable_site m s h = or_left _ _ h

-- a site stands on a live chip, with a number below 24
pub site_parts : (m : Description) (s : Spot) → IsSite m s → IsLiveChip m s.chip × (s.core < 24)
site_parts m s h = grind (arith, site_cases m s h, usable_parts, device_parts)

-- the link that leads to a site, where it is not a core, is not live
pub end_is_no_live_link : (m : Description) (s : Spot) (d : Dir) → IsSite m s → out_of s.core ≡ Link d → is_live_link m s.chip d ≡ false
end_is_no_live_link m s d h e = grind (arith, spot_of_link s.core d (site_parts m s h).1 e, site_parts m s h, site_cases m s h, dir_at-dir_number d, usable_parts, device_parts)

-- sites of one chip to which one output leads are one site
pub same_site : (m : Description) (s t : Spot) → IsSite m s → IsSite m t → s.chip ≡ t.chip → out_of s.core ≡ out_of t.core → s ≡ t
same_site m s t h k chips outs = grind (arith, same_spot, same_number, site_parts)
