-- Lookup, entry by entry.
use Rattle.std.proofs.Common.{◌≡◌, ℕ, true, false, List, ◌∷◌, arith}
use Rattle.spin_base.specs.{declared.blocks.Entry.Entry, declared.chips.Port.Port, Lookup.matches, Lookup.lookup}

-- an entry that matches decides
pub lookup_hit : (e : Entry) (rows : List Entry) (key : ℕ) (port : Port) → matches e key ≡ true → lookup (e ∷ rows) key port ≡ e.route
lookup_hit e rows key port hit = grind arith

-- one that does not leaves it to those after it
pub lookup_miss : (e : Entry) (rows : List Entry) (key : ℕ) (port : Port) → matches e key ≡ false → lookup (e ∷ rows) key port ≡ lookup rows key port
lookup_miss e rows key port miss = grind arith
