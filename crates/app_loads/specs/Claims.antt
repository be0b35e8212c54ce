-- What a plan asks the regions for, and which ranges it gets (this project's own).
use Rattle.std.specs.Prelude.{◌≡◌, ℕ, ◌+◌, ◌%◌, ◌^◌, ◌≤◌, ◌==◌, Bool, true, false, ◌||◌, nat_le, List, [], ◌∷◌, ◌++◌, Option, Some, None, IfSome, length, map, take, zip, find, unwrap_or, count_by, slice_get, if◌then◌else◌}
use Rattle.std.specs.Option.{option_map_or}
use Rattle.std.specs.List.{list_any, flat_map, range_with_len}
use Rattle.spin_base.specs.Gathered.{gathered}
use Rattle.spin_base.specs.declared.blocks.Block.{Block}
use Rattle.spin_base.specs.declared.chips.Chip.{Chip}
use Rattle.spin_base.specs.declared.chips.Spot.{Spot}
use Rattle.spin_base.specs.Equality.{chip_eq}
use Rattle.machine_desc.specs.declared.trees.Edge.{Edge}
use Rattle.machine_desc.specs.Description.{Description}
use Rattle.machine_desc.specs.Live.{chip_of}
use Rattle.machine_desc.specs.RoutingTree.{end_of}
use Rattle.range_store.specs.Regions.{in_range}
use Rattle.key_alloc.specs.KeyBlocks.{size_of}
use Rattle.app_loads.specs.declared.answers.LoadRefusal.{LoadRefusal}
use Rattle.app_loads.specs.declared.answers.LoadRefusal.TheVariants.{MemoryOut, KeysOut, RowsOut}
use Rattle.app_loads.specs.declared.plans.AppNet.{AppNet}
use Rattle.app_loads.specs.declared.plans.AppPlan.{AppPlan}
use Rattle.app_loads.specs.declared.loaded.Claim.{Claim}
use Rattle.app_loads.specs.declared.loaded.Range.{Range}
use Rattle.app_loads.specs.declared.places.Region.TheVariants.{Keys, Memory, Rows}
use Rattle.app_loads.specs.Regions.{region_size, is_taken, chip_count, place_of}

-- A vertex asks for its bytes in the memory of its chip, and for nothing where it needs none.
abbrev pub memory_claim : ℕ → Spot × ℕ → List Claim
memory_claim vertex need =
    if need.1 == 0 then [] else record { region = Memory need.0.chip; size = need.1; align = 1; fixed = None; refusal = MemoryOut vertex } ∷ []

-- A net with a fixed block asks for that block's keys.
abbrev pub fixed_claim : ℕ → Option Block → List Claim
fixed_claim net (Some block) = record { region = Keys; size = size_of block; align = 1; fixed = Some block.key; refusal = KeysOut net } ∷ []
fixed_claim net None = []

-- the least power of two, up to 2^32, that is not below a number of keys
abbrev pub size_for : ℕ → ℕ
size_for keys = unwrap_or (find (nat_le keys) (map (λ n. 2 ^ n) (range_with_len 0 33))) 0

-- Any other net asks for so many keys from a multiple of their number on.
abbrev pub key_claim : ℕ → ℕ → Option Block → List Claim
key_claim net keys (Some block) = []
key_claim net keys None = record { region = Keys; size = size_for keys; align = size_for keys; fixed = None; refusal = KeysOut net } ∷ []

-- whether a net's tree has the chip
abbrev pub has_chip : Description → Chip → AppNet → Bool
has_chip m c net = chip_eq c net.tree.root || list_any (λ (e : Edge). option_map_or (chip_eq c) (end_of m e) false) net.tree.edges

-- So many entries of the chip of an index are asked for, where there are any.
abbrev pub entries_claim : Description → ℕ → ℕ → List Claim
entries_claim m i rows =
    if rows == 0 then [] else record { region = Rows (chip_of m i); size = rows; align = 1; fixed = None; refusal = RowsOut (chip_of m i) } ∷ []

-- A chip is asked for as many entries as nets have it in their trees.
abbrev pub row_claim : Description → List AppNet → ℕ → List Claim
row_claim m nets i = entries_claim m i (count_by (has_chip m (chip_of m i)) nets)

-- A plan asks for memory vertex by vertex, for the fixed blocks of its nets, for the blocks of its other nets, and for entries
-- chip by chip, in that order.
abbrev pub claims_of : Description → AppPlan → List Claim
claims_of m plan =
    gathered memory_claim 0 (zip plan.spots plan.sdram)
    ++ (gathered (λ j (net : AppNet). fixed_claim j net.fixed) 0 plan.nets
    ++ (gathered (λ j (net : AppNet). key_claim j net.keys net.fixed) 0 plan.nets
    ++ flat_map (row_claim m plan.nets) (range_with_len 0 (chip_count m))))

-- A claim may get the range from a place on, where other ranges are taken, if the place is a multiple of the claim's alignment and the
-- fixed one, if one is fixed, and the range lies in its region and shares no place with those.
pub record IsOpenRange (m : Description) (taken : List Range) (claim : Claim) (place : ℕ) : Type 0 where
  pub aligned : place % claim.align ≡ 0
  pub fixed : IfSome claim.fixed (λ p. place ≡ p)
  pub within : place + claim.size ≤ region_size m (place_of m claim.region)
  pub untaken : (k : ℕ) → in_range place claim.size k ≡ true → is_taken taken (place_of m claim.region) k ≡ false

-- It gets the least such range.
pub record IsLeastOpenRange (m : Description) (taken : List Range) (claim : Claim) (range : Range) : Type 0 where
  pub region : range.region ≡ place_of m claim.region
  pub size : range.size ≡ claim.size
  pub may : IsOpenRange m taken claim range.place
  pub least : (q : ℕ) → IsOpenRange m taken claim q → range.place ≤ q

-- and is refused where there is none
abbrev pub IsRefusedClaim : Description → List Range → Claim → Type 0
IsRefusedClaim m taken claim = (q : ℕ) → IsOpenRange m taken claim q → ⊥

-- The first claims, as many as there are ranges, got these ranges: each the least one beside those that were taken and those of
-- the claims before it.
pub record AreFirstServed (m : Description) (taken : List Range) (claims : List Claim) (ranges : List Range) : Type 0 where
  pub few : length ranges ≤ length claims
  pub each : (i : ℕ) (claim : Claim) (range : Range) → slice_get claims i ≡ Some claim → slice_get ranges i ≡ Some range →
      IsLeastOpenRange m (taken ++ take i ranges) claim range

-- all claims got these ranges
pub record AreServed (m : Description) (taken : List Range) (claims : List Claim) (ranges : List Range) : Type 0 where
  pub first : AreFirstServed m taken claims ranges
  pub all : length ranges ≡ length claims

-- A refusal is due where it is that of the first claim that cannot be served.
pub record IsRefusalDue (m : Description) (taken : List Range) (claims : List Claim) (refusal : LoadRefusal) : Type 0 where
  pub ranges : List Range
  pub before : AreFirstServed m taken claims ranges
  pub claim : Claim
  pub is : slice_get claims (length ranges) ≡ Some claim
  pub refused : IsRefusedClaim m (taken ++ ranges) claim
  pub refusal_is : claim.refusal ≡ refusal

-- The block of a net is the range that its claim got: it begins where the range does, and has as many keys.
pub record IsBlockOf (claims : List Claim) (ranges : List Range) (net : ℕ) (block : Block) : Type 0 where
  pub at : ℕ
  pub claim : Claim
  pub range : Range
  pub is : slice_get claims at ≡ Some claim
  pub its : claim.refusal ≡ KeysOut net
  pub got : slice_get ranges at ≡ Some range
  pub key : block.key ≡ range.place
  pub mask : block.mask + range.size ≡ 2 ^ 32

-- each net has its block
pub record AreBlocks (claims : List Claim) (ranges : List Range) (nets : List AppNet) (blocks : List Block) : Type 0 where
  pub all : length blocks ≡ length nets
  pub each : (net : ℕ) (block : Block) → slice_get blocks net ≡ Some block → IsBlockOf claims ranges net block
