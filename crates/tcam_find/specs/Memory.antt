-- The lookup memory of a router.
use Rattle.std.specs.Prelude.{◌≡◌, ℕ, ◌-◌, ◌*◌, ◌≤◌, ◌<◌, ◌/◌, ◌==◌, false, List, [], ◌∷◌, ◌++◌, All, Some, bit_and, length, replicate, flat_map, slice_get, slice_index_or}
use Rattle.spin_base.specs.declared.routes.Route.{Route}
use Rattle.spin_base.specs.declared.sizes.TheConstants.{ROUTER_ENTRIES}
use Rattle.spin_base.specs.declared.blocks.Entry.{Entry}
use Rattle.spin_base.specs.Lookup.{matches}
use Rattle.spin_base.specs.Outputs.{nothing}
use Rattle.tcam_find.specs.declared.groups.Group.{Group}

-- An entry that isn't used matches no key: its key has bits that its mask lacks (SpiNNaker datasheet).
abbrev pub unused : Entry
unused = record { key = 0xffff_ffff; mask = 0; route = nothing }

-- the memory whose entries are all unused: 1,024 of them
unfoldable pub empty_memory : List Entry
empty_memory = replicate ROUTER_ENTRIES unused

-- the entries whose keys, masks and routes stand in three rows
abbrev pub entries_of : List ℕ → List ℕ → List Route → List Entry
entries_of [] masks routes = []
entries_of (key ∷ keys) [] routes = []
entries_of (key ∷ keys) (mask ∷ masks) [] = []
entries_of (key ∷ keys) (mask ∷ masks) (route ∷ routes) =
    record { key = key; mask = mask; route = route } ∷ entries_of keys masks routes

-- a group's entries
abbrev pub entries_in : Group → List Entry
entries_in g = entries_of g.keys g.masks g.routes

-- the entries of several groups, one group after the other
abbrev pub entries_of_groups : List Group → List Entry
entries_of_groups groups = flat_map entries_in groups

-- the entries of a memory of which these are the first groups: behind them none is used
abbrev pub entries_held : List Group → List Entry
entries_held groups = entries_of_groups groups ++ replicate (ROUTER_ENTRIES - 8 * length groups) unused

-- a memory with room for the places below a number
pub record Roomy : Type 0 where
  pub entries : List Entry
  pub room : ℕ

-- no entry matches the key
abbrev pub NoneMatches : ℕ → List Entry → Type 0
NoneMatches key entries = All (λ e. matches e key ≡ false) entries

-- a key has other values at the bits that a place of two rows tells
abbrev pub Misses : List ℕ → List ℕ → ℕ → ℕ → Type 0
Misses common values i key = (bit_and key (slice_index_or common i 0) == slice_index_or values i 0) ≡ false

-- Each group behind the first has bits in common, with values: no entry of a group matches a key that misses it.
abbrev pub HaveInCommon : List Group → List ℕ → List ℕ → Type 0
HaveInCommon groups common values = (i key : ℕ) (g : Group) → 1 ≤ i → slice_get groups i ≡ Some g → Misses common values i key → NoneMatches key (entries_in g)

-- So has each block of eight groups: a key that misses a block misses each group of it.
abbrev pub TellOfGroups : List ℕ → List ℕ → List ℕ → List ℕ → Type 0
TellOfGroups common values block_common block_values = (i key : ℕ) → i < 128 → Misses block_common block_values (i / 8) key → Misses common values i key

-- More groups have the same entries, and have in common what those had that were there.
pub record AreLengthened (old new : List Group) : Type 0 where
  pub few : length old ≤ 128 → length new ≤ 128
  pub held : entries_held new ≡ entries_held old
  pub others : (common values : List ℕ) → HaveInCommon old common values → HaveInCommon new common values
