-- The words of the command line (this project's own).
use Rattle.std.specs.Prelude.{ℕ, ◌^◌, ◌==◌, ◌&&◌, Bool, not, nat_lt, if◌then◌else◌, List, [], ◌∷◌, length, map, String, string_bytes, codes, Option, Some, None, slice_index}
use Rattle.std.specs.List.{list_all}
use Rattle.std.specs.Option.{option_map}
use Rattle.std.specs.Char.{is_ascii_digit}
use Rattle.std.specs.Str.{bytes_eq}
use Rattle.std.specs.Str.Parse.{digits_value}
use Rattle.std.specs.declared.alloc.Global.{Global}
use Rattle.spin_words.specs.declared.commands.Command.{Command}
use Rattle.spin_words.specs.declared.commands.Command.TheVariants.{OfJob, Check, Apps}
use Rattle.spin_words.specs.declared.commands.JobWord.{JobWord}
use Rattle.spin_words.specs.declared.commands.JobWord.TheVariants.{Run, Reinject, Trace, Compile, Tables, Gen}

-- the words as texts
abbrev pub texts_of : List (String Global) → List (List ℕ)
texts_of words = map string_bytes words

-- digits, of which the first is 0 only where it is the only one
abbrev pub is_numeral : List ℕ → Bool
is_numeral word = nat_lt 0 (length word) && (list_all is_ascii_digit word && not (slice_index word 0 == 48 && nat_lt 1 (length word)))

-- The number that a word writes: `0`, or decimal digits without a leading 0, below 2^64.
unfoldable pub number_in : List ℕ → Option ℕ
number_in word = if is_numeral word && nat_lt (digits_value 10 word) (2 ^ 64) then Some (digits_value 10 word) else None

-- the command of one word
abbrev pub plain_command : List ℕ → Option Command
plain_command word =
    if bytes_eq word (codes "run") then Some (OfJob Run)
    else if bytes_eq word (codes "reinject") then Some (OfJob Reinject)
    else if bytes_eq word (codes "trace") then Some (OfJob Trace)
    else if bytes_eq word (codes "compile") then Some (OfJob Compile)
    else if bytes_eq word (codes "tables") then Some (OfJob Tables)
    else if bytes_eq word (codes "check") then Some Check
    else if bytes_eq word (codes "apps") then Some Apps
    else None

-- the command of a word and a number
abbrev pub numbered_command : List ℕ → List ℕ → Option Command
numbered_command word number = if bytes_eq word (codes "gen") then option_map (λ n. OfJob (Gen n)) (number_in number) else None

-- Which command words are: `run`, `reinject`, `trace`, `compile`, `tables`, `check`, `apps`, or `gen` and a number, exactly. Other words
-- are none.
abbrev pub spelled : List (List ℕ) → Option Command
spelled [] = None
spelled (word ∷ []) = plain_command word
spelled (word ∷ (number ∷ [])) = numbered_command word number
spelled (word ∷ (number ∷ (more ∷ words))) = None

-- All words of a job but `gen` read one.
abbrev pub ReadsJob : JobWord → Type 0
ReadsJob Run = Unit {0}
ReadsJob Reinject = Unit {0}
ReadsJob Trace = Unit {0}
ReadsJob Compile = Unit {0}
ReadsJob Tables = Unit {0}
ReadsJob (Gen n) = ⊥
