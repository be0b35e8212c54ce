-- The JSON value that bytes are.
use Rattle.std.specs.Prelude.{ℕ, List, Option, None, if◌then◌else◌}
use Rattle.std.specs.Str.{is_utf8}
use Rattle.serde_json.specs.Data.{Data}
use Rattle.serde_json.specs.Read.{read}

-- What serde_json reads: UTF-8 alone is read, by the grammar of RFC 8259, at most 127 lists and objects deep. Where
-- an object has a member twice, the last counts. None where the bytes are no such text.
unfoldable pub json_of : List ℕ → Option Data
json_of bytes = if is_utf8 bytes then read bytes else None
