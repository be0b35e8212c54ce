-- How the path of a part is written (this project's own): `job`, `.name` for a member, `[i]` for an item of a list,
-- counted from 0.
use Rattle.std.specs.Prelude.{ℕ, List, [], ◌∷◌, ◌++◌, decimal}
use Rattle.job_text.specs.declared.paths.Path.{Path, Member', Item'}
use Rattle.job_text.specs.declared.paths.Path.TheVariants.{Whole}

-- the path of a member
abbrev pub member_at : List ℕ → List ℕ → List ℕ
member_at path name = path ++ 46 ∷ name

-- the path of an item of a list
abbrev pub item_at : List ℕ → ℕ → List ℕ
item_at path i = path ++ 91 ∷ decimal i ++ 93 ∷ []

-- the text of a path
abbrev pub path_text : Path → List ℕ
path_text (Whole name) = name.now
path_text (Member' p above name) = member_at (path_text above) name.now
path_text (Item' p above i) = item_at (path_text above) i
