-- How ranges are taken from regions and given back, as the private functions say it.
use Rattle.std.specs.Prelude.{◌≡◌, ℕ, ◌+◌, ◌%◌, ◌<◌, ◌≤◌, ◌==◌, List, [], ◌∷◌, ◌++◌, All, AllPairs, Some, IfSome, count_by, length, map, replicate, slice_get}
use Rattle.machine_desc.specs.Description.{Description}
use Rattle.range_store.specs.Views.{Region}
use Rattle.app_loads.specs.declared.loaded.Claim.{Claim}
use Rattle.app_loads.specs.declared.loaded.Range.{Range}
use Rattle.app_loads.specs.declared.answers.LoadErr.{LoadErr}
use Rattle.app_loads.specs.declared.answers.LoadErr.TheVariants.{Memory, Refused}
use Rattle.app_loads.specs.Host.{Free}
use Rattle.app_loads.specs.Regions.{AreFreeBeside, IsFreeBeside, IsRangeWithin, IsRegion, ShareNoPlace, place_of, region_size}
use Rattle.app_loads.specs.Claims.{AreFirstServed, AreServed, IsLeastOpenRange, IsRefusedClaim, IsRefusalDue}

-- a region, but for the room that is made in its list of holes
abbrev pub free_places_in : Region → Free
free_places_in r = record { size = r.size; holes = r.holes }

abbrev pub frees : List Region → List Free
frees regions = map free_places_in regions

-- A claim is fair where it asks a region that is there for at least one place, and a fixed range lies within the region.
pub record IsFair (m : Description) (regions : ℕ) (claim : Claim) : Type 0 where
  pub region : IsRegion m claim.region
  pub there : place_of m claim.region < regions
  pub some : 0 < claim.size
  pub step : 0 < claim.align
  pub fixed : IfSome claim.fixed (λ p. (p % claim.align ≡ 0) × (p + claim.size ≤ region_size m (place_of m claim.region)))

-- some ranges are taken of the regions, apart from each other
pub record AreRegionsOf (m : Description) (regions : List Region) : Type 0 where
  pub taken : List Range
  pub apart : AllPairs ShareNoPlace taken
  pub free : AreFreeBeside m taken (frees regions)

-- a claim asks the region for at least one place, and a fixed range lies within the region
pub record IsFairFor (claim : Claim) (region : Region) : Type 0 where
  pub some : 0 < claim.size
  pub step : 0 < claim.align
  pub fixed : IfSome claim.fixed (λ p. (p % claim.align ≡ 0) × (p + claim.size ≤ region.size))

-- the regions are those of a machine, for which the claims are fair
abbrev pub CanServe : Description → List Claim → List Region → Type 0
CanServe m claims regions = AreRegionsOf m regions × All (IsFair m (length regions)) claims

-- they can be served, and are no more than a plan can ask for
pub record CanServeAll (m : Description) (claims : List Claim) (regions : List Region) : Type 0 where
  pub can : CanServe m claims regions
  pub few : length claims ≤ 262144

-- besides, no range is counted or listed yet, and the list has room for one of each claim
pub record CanServeEach (m : Description) (claims : List Claim) (regions : List Region) (counted : List ℕ) (listed : List Range) (capacity : ℕ) : Type 0 where
  pub can : CanServe m claims regions
  pub few : length claims ≤ 262144
  pub counts : counted ≡ replicate (length regions) 0
  pub none : listed ≡ []
  pub room : length claims ≤ capacity

-- one claim can be served, and the ranges of its region that were taken before are no more than a plan can ask for
pub record CanServeOne (claim : Claim) (held : ℕ) (region : Region) : Type 0 where
  pub fair : IsFairFor claim region
  pub few : held ≤ 262144

-- each range is of one of the regions, and they are no more than a plan can ask for
pub record AreFewOf (regions : ℕ) (ranges : List Range) : Type 0 where
  pub there : All (λ (range : Range). range.region < regions) ranges
  pub few : length ranges ≤ 262144

-- the regions' lists of holes have room for so many more as there are ranges of each region
abbrev pub HaveRoom : List Range → List Region → Type 0
HaveRoom ranges regions = (i : ℕ) (r : Region) → slice_get regions i ≡ Some r → count_by (λ (range : Range). range.region == i) ranges ≤ r.spare

-- Ranges that were taken beside others: each lies within its region, no two of all share a place, and the regions have the
-- other places free.
pub record AreTaken (m : Description) (others ranges : List Range) (regions : List Region) : Type 0 where
  pub within : All (IsRangeWithin m (length regions)) ranges
  pub apart : AllPairs ShareNoPlace (others ++ ranges)
  pub free : AreFreeBeside m (others ++ ranges) (frees regions)

-- whatever was taken before, these ranges are taken beside it
abbrev pub AreTakenAlways : Description → List Region → List Range → List Region → Type 0
AreTakenAlways m old ranges new =
    (taken : List Range) → AllPairs ShareNoPlace taken → AreFreeBeside m taken (frees old) → AreTaken m taken ranges new

-- whatever was taken before, and nothing besides, is taken again
abbrev pub AreFreeAgain : Description → List Region → List Region → Type 0
AreFreeAgain m old new =
    (taken : List Range) → AllPairs ShareNoPlace taken → AreFreeBeside m taken (frees old) → AreFreeBeside m taken (frees new)

-- whatever the ranges were taken beside is taken still, and nothing besides
abbrev pub AreGivenBack : Description → List Range → List Region → List Region → Type 0
AreGivenBack m ranges old new = (others : List Range) → AreTaken m others ranges old → AreFreeBeside m others (frees new)

-- the ranges are taken beside some others
abbrev pub AreTakenBesideSome : List Range → List Region → Type 0
AreTakenBesideSome ranges regions = (m : Description) × (others : List Range) × AreTaken m others ranges regions

-- the ranges are taken, and the regions have room for them
pub record CanGiveAll (ranges : List Range) (regions : List Region) : Type 0 where
  pub taken : AreTakenBesideSome ranges regions
  pub room : HaveRoom ranges regions

-- whatever was taken before, the claims got these ranges beside it
abbrev pub AreServedAlways : Description → List Claim → List Region → List Range → Type 0
AreServedAlways m claims old ranges =
    (taken : List Range) → AllPairs ShareNoPlace taken → AreFreeBeside m taken (frees old) → AreServed m taken claims ranges

-- the same of the first claims
pub record HaveServed (m : Description) (claims : List Claim) (old : List Region) (ranges : List Range) (new : List Region) : Type 0 where
  pub served : (taken : List Range) → AllPairs ShareNoPlace taken → AreFreeBeside m taken (frees old) → AreFirstServed m taken claims ranges
  pub taken : AreTakenAlways m old ranges new
  pub room : HaveRoom ranges new
  pub long : length new ≡ length old

-- whatever was taken before, a refusal is due; want of memory is free
abbrev pub IsDueAlways : Description → List Claim → List Region → LoadErr → Type 0
IsDueAlways m claims old (Refused refusal) =
    (taken : List Range) → AllPairs ShareNoPlace taken → AreFreeBeside m taken (frees old) → IsRefusalDue m taken claims refusal
IsDueAlways m claims old Memory = Unit {0}

-- the range of a claim from a place on
abbrev pub range_at : Description → Claim → ℕ → Range
range_at m claim place = record { region = place_of m claim.region; place = place; size = claim.size }

-- whatever else is taken of a region, the range from this place on is the least for the claim, and is taken besides
abbrev pub ServesClaim : Claim → Region → Region → ℕ → Type 0
ServesClaim claim before after place =
    (m : Description) (taken : List Range) → IsFreeBeside m taken (place_of m claim.region) (free_places_in before) →
    IsLeastOpenRange m taken claim (range_at m claim place) × IsFreeBeside m (taken ++ range_at m claim place ∷ []) (place_of m claim.region) (free_places_in after)

-- whatever else is taken of a region, it has no range for the claim
abbrev pub RefusesClaim : Claim → Region → Type 0
RefusesClaim claim before = (m : Description) (taken : List Range) → IsFreeBeside m taken (place_of m claim.region) (free_places_in before) → IsRefusedClaim m taken claim

-- the refusal is that of one claim, for which the region has no range; want of memory is free
abbrev pub IsDueOf : Claim → Region → LoadErr → Type 0
IsDueOf claim before (Refused refusal) = (refusal ≡ claim.refusal) × RefusesClaim claim before
IsDueOf claim before Memory = Unit {0}
