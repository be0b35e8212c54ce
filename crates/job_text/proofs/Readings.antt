-- When bytes are JSON, by whether they are UTF-8.
use Rattle.std.proofs.Common.{arith, ◌≡◌, ℕ, List, None, refl}
use Rattle.std.specs.Str.{IsUtf8}
use Rattle.std.proofs.lemmas.Str.{IsUtf8-from_is_utf8, is_utf8-from_IsUtf8}
use Rattle.serde_json.specs.Read.{read}
use Rattle.job_text.specs.Json.{json_of}

-- text is read by serde_json
pub json_of-utf8 : (bytes : List ℕ) → IsUtf8 bytes → json_of bytes ≡ read bytes
unfolding json_of
json_of-utf8 bytes text = rw (is_utf8-from_IsUtf8 bytes text) refl

-- what is no text is no JSON
pub json_of-not_utf8 : (bytes : List ℕ) → (IsUtf8 bytes → ⊥) → json_of bytes ≡ None
unfolding json_of
json_of-not_utf8 bytes broken = grind (arith, IsUtf8-from_is_utf8)
