-- The cores of a chip that are free, as bits, and the room of its memory.
use Rattle.std.specs.Prelude.{◌≡◌, ◌≢◌, ℕ, ◌+◌, ◌^◌, ◌<◌, ◌==◌, Bool, if◌then◌else◌}
use Rattle.std.specs.Int.{bit_at}
use Rattle.spin_base.specs.declared.chips.Chip.{Chip}
use Rattle.spin_base.specs.declared.chips.Spot.{Spot}
use Rattle.place_fit.specs.Placement.{core_spot}

-- The bits below 32 are 1 at those cores of a chip that pass a test.
abbrev pub AreCores : (Spot → Bool) → Chip → ℕ → Type 0
AreCores test c cores = (p : ℕ) → p < 32 → bit_at cores p ≡ (if test (core_spot c p) then 1 else 0)

-- the room of a chip with these free cores, of whose memory so many bytes are left
abbrev pub room_left : ℕ → ℕ → ℕ
room_left cores left = if cores == 0 then 0 else left + 1

-- the least of some cores, and the others
pub record IsParted (cores least others : ℕ) : Type 0 where
  pub low : least < 18
  pub had : bit_at cores least ≡ 1
  pub none : (p : ℕ) → p < least → bit_at cores p ≡ 0
  pub few : others < 2 ^ 18
  pub gone : bit_at others least ≡ 0
  pub same : (p : ℕ) → p < 32 → p ≢ least → bit_at others p ≡ bit_at cores p

-- some cores, and one
pub record IsJoined (cores core all : ℕ) : Type 0 where
  pub few : all < 2 ^ 18
  pub here : bit_at all core ≡ 1
  pub same : (p : ℕ) → p ≢ core → bit_at all p ≡ bit_at cores p
