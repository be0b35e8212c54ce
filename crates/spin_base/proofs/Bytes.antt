-- Laws of bytes that are given and taken piece by piece.
use Rattle.std.proofs.Common.{◌≡◌, ℕ, ◌+◌, ◌<◌, ◌≤◌, List, [], ◌∷◌, ◌++◌, length, take, Option, Some, refl, ap, sym, ◌∙◌, arith, append_assoc, length-append, length-take-le, length-drop, drop, ◌-◌}
use Rattle.std.proofs.{Math.Seq.take-add, Math.Seq.take-length, lemmas.List.take-append-le, lemmas.List.take-append-drop, lemmas.List.drop-drop}
use Rattle.spin_base.specs.Outside.{FaultsRose, GivesFirst, GivesAll, HasMoreThan, LosesAtMost, LosesMoreThan, Takes, Reads}

-- before the first read nothing was given
pub gives_nothing : (a : Option (List ℕ)) → GivesFirst a [] a
gives_nothing a = grind arith

-- what two reads give is given in order
pub gives_then : (a b c : Option (List ℕ)) (g h : List ℕ) → GivesFirst a g b → GivesFirst b h c → GivesFirst a (g ++ h) c
gives_then a b c g h first second = grind (arith, append_assoc)

-- more than the limit was given, so more was to come
pub gives_more : (a b : Option (List ℕ)) (g : List ℕ) (limit : ℕ) → GivesFirst a g b → limit < length g → HasMoreThan limit a
gives_more a b g limit gives more = grind (arith, length-append)

-- what two writes take is taken in order
pub takes_then : (a b c : Option (List ℕ)) (g h : List ℕ) → Takes a g b → Takes b h c → Takes a (g ++ h) c
takes_then a b c g h first second = grind (arith, append_assoc)

-- a fault that shows against a later count shows against an earlier one
pub rose_since : (early late after : ℕ) → early ≤ late → FaultsRose late after → FaultsRose early after
rose_since early late after before h2 = grind arith

-- at the end of input all has been given
pub gives_end : (a b c : Option (List ℕ)) (g : List ℕ) (n : ℕ) (buffer : List ℕ) → GivesFirst a g b → Reads b n buffer c → n ≡ 0 → GivesAll a g c
gives_end a b c g n buffer given reads none = grind arith

-- one read past the limit
pub loses_too_many : (a b c : Option (List ℕ)) (g buffer : List ℕ) (n limit : ℕ) → GivesFirst a g b → GivesFirst b (take n buffer) c → n ≤ length buffer → limit - length g < n → LosesMoreThan limit a c
loses_too_many a b c g buffer n limit first second within past = grind (arith, length-append g (take n buffer), length-take-le n buffer within, gives_then a b c g (take n buffer) first second)

pub gives_too_many : (a b c : Option (List ℕ)) (g buffer : List ℕ) (n limit : ℕ) → GivesFirst a g b → GivesFirst b (take n buffer) c → n ≤ length buffer → limit - length g < n → HasMoreThan limit a
gives_too_many a b c g buffer n limit first second within past = grind (arith, loses_too_many, gives_more)

-- one read that stays within the limit
pub loses_few : (a b c : Option (List ℕ)) (g buffer : List ℕ) (n limit : ℕ) → GivesFirst a g b → GivesFirst b (take n buffer) c → n ≤ length buffer → length g + n ≤ limit → LosesAtMost limit a c
loses_few a b c g buffer n limit first second within few = grind (arith, length-append g (take n buffer), length-take-le n buffer within, gives_then a b c g (take n buffer) first second)

-- what a write takes of the bytes after the first d
pub takes_from : (a b c : Option (List ℕ)) (s : List ℕ) (d n : ℕ) → Takes a (take d s) b → Takes b (take n (take (length s - d) (drop d s))) c → Takes a (take (d + n) s) c
takes_from a b c s d n first second = grind (arith, length-drop d s, take-length (drop d s), take-add, takes_then)

no_items : (s : List ℕ) → length s ≡ 0 → s ≡ []
no_items [] e = refl
no_items (x ∷ s) e = absurd (omega arith)

-- a read of the next n bytes of a list in memory
pub reads_next : (bytes list buffer copied : List ℕ) (p n : ℕ) → list ≡ bytes → copied ≡ take n (take (length list - p) (drop p list)) → n ≤ length bytes - p → (n ≡ 0 → length bytes - p ≡ 0) → Reads (Some (drop p bytes)) n (copied ++ drop n buffer) (Some (drop (p + n) bytes))
reads_next bytes list buffer copied p n is_list is_copied within none =
    let left : length (drop p bytes) ≡ length bytes - p = length-drop p bytes in
    let rest : take (length bytes - p) (drop p bytes) ≡ drop p bytes =
    ap (λ k. take k (drop p bytes)) (sym left) ∙ take-length (drop p bytes)
    in
    let is_front : copied ≡ take n (drop p bytes) =
    is_copied ∙ ap (λ (l : List ℕ). take n (take (length l - p) (drop p l))) is_list ∙ ap (λ l. take n l) rest
    in
    let size : length copied ≡ n = ap length is_front ∙ length-take-le n (drop p bytes) (omega arith) in
    let front : take n (copied ++ drop n buffer) ≡ copied =
    take-append-le n copied (drop n buffer) (omega arith) ∙ ap (λ k. take k copied) (sym size) ∙ take-length copied
    in
    record {
      gives = rw (front, is_front, ← drop-drop n p bytes) (sym (take-append-drop n (drop p bytes)));
      end_of_input = λ zero. no_items (drop p bytes) (left ∙ none zero);
    }
