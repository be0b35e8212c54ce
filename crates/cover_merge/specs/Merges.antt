-- The sets of places of a list of merges.
use Rattle.std.specs.Prelude.{ℕ, List, map}
use Rattle.cover_merge.specs.declared.covering.Merge.{Merge}

abbrev pub sets_of : List Merge → List (List ℕ)
sets_of merges = map (λ (m : Merge). m.places) merges
