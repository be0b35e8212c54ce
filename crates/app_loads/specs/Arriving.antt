-- An arrival put at the back of a list, or not.
use Rattle.std.specs.Prelude.{◌≡◌, Bool, true, false, List, [], ◌∷◌, ◌++◌}
use Rattle.app_loads.specs.declared.arrivals.Arrival.{Arrival}

-- it was put there exactly where a test held
abbrev pub HasArrived : Bool → Arrival → List Arrival → List Arrival → Type 0
HasArrived true a old new = new ≡ old ++ a ∷ []
HasArrived false a old new = new ≡ old
