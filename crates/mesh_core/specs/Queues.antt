-- The front of a queue, and the queue behind it.
use Rattle.std.specs.Prelude.{ℕ, List, [], ◌∷◌, Option, Some, None, slice_set}
use Rattle.spin_base.specs.declared.copies.McCopy.{McCopy}

-- the copy at a queue's front
abbrev pub front_of : Option (List McCopy) → Option McCopy
front_of (Some (k ∷ rest)) = Some k
front_of (Some []) = None
front_of None = None

-- the lists without the first item of the list at a place
abbrev pub drop_front : List (List McCopy) → ℕ → Option (List McCopy) → List (List McCopy)
drop_front lists i (Some (k ∷ rest)) = slice_set lists i rest
drop_front lists i (Some []) = lists
drop_front lists i None = lists
