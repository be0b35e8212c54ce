-- A number that is read is the number that was written, and what was written is read again.
use Rattle.std.proofs.Common.{◌≡◌, ℕ, ◌+◌, ◌^◌, ◌<◌, ◌≤◌, Bool, true, false, cond, ltb, List, [], ◌∷◌, ◌++◌, length, take, drop, Result, Ok, Err, refl, sym, ap, subst, ◌∙◌, append_assoc, arith}
use Rattle.std.specs.Int.{Width, w8, w16, w32, byte_len, from_le_bytes, to_le_bytes}
use Rattle.std.proofs.{Math.Nat.mod-eq_of_lt, lemmas.Bool.cases_lt, lemmas.Bool.ltb-false, lemmas.Bool.le-ltb, lemmas.List.take_at, lemmas.List.drop_at, lemmas.List.take-append-drop}
use Rattle.std.proofs.lemmas.{List.length-append, List.length-take, List.get_or-drop, List.get_or-take, List.get_or_past, Nat.le_bytes_2, Nat.le_bytes_4, Nat.from_le_bytes-to_le_bytes_2}
use Rattle.std.proofs.lemmas.Nat.{from_le_bytes-to_le_bytes_4}
use Rattle.table_load.specs.Reading.{◌>>=◌, AreBytes, number, field}

bytes_drop : (n : ℕ) (bytes : List ℕ) → AreBytes bytes → AreBytes (drop n bytes)
bytes_drop n bytes h i = rw get_or-drop (h (n + i))

bytes_take : (n : ℕ) (bytes : List ℕ) → AreBytes bytes → AreBytes (take n bytes)
bytes_take n bytes h i = grind (arith, cases_lt, get_or-take, get_or_past, length-take)

-- ---- steps that did not fail

pub bind_ok : {A B : Type 0} (r : Result A ℕ) (f : A → Result B ℕ) (y : B) → (r >>= f) ≡ Ok y → (x : A) × (r ≡ Ok x) × (f x ≡ Ok y)
bind_ok (Ok x) f y e = (x, refl, e)
bind_ok (Err d) f y e = absurd cc

pub if_ok : {A : Type 0} (b : Bool) (d : ℕ) (x y : A) → cond b (Ok x) (Err d) ≡ Ok y → (b ≡ true) × (x ≡ y)
if_ok true d x y e = (refl, cc)
if_ok false d x y e = absurd cc

pub unless_ok : {A : Type 0} (b : Bool) (d : ℕ) (x y : A) → cond b (Err d) (Ok x) ≡ Ok y → (b ≡ false) × (x ≡ y)
unless_ok true d x y e = absurd cc
unless_ok false d x y e = (refl, cc)

abbrev done : {A : Type 0} → A → Result A ℕ
done x = Ok x

pub ok_is : {A : Type 0} (x y : A) → done x ≡ done y → x ≡ y
ok_is x y e = cc

-- what a reader took from the front
pub record Takes (bytes text rest : List ℕ) : Type 0 where
  pub parts : bytes ≡ text ++ rest
  pub rest_fits : AreBytes rest

pub Takes-then : (a x b y c : List ℕ) → Takes a x b → Takes b y c → Takes a (x ++ y) c
Takes-then a x b y c p q = record { parts = p.parts ∙ ap (λ (t : List ℕ). x ++ t) q.parts ∙ sym (append_assoc x y c); rest_fits = q.rest_fits }

-- ---- numbers

pub record IsWide (w : Width) (limit : ℕ) : Type 0 where
  pub len : (n : ℕ) → length (to_le_bytes w n) ≡ byte_len w
  pub back : (bytes : List ℕ) → length bytes ≡ byte_len w → AreBytes bytes → to_le_bytes w (from_le_bytes w bytes) ≡ bytes
  pub again : (n : ℕ) → n < limit → from_le_bytes w (to_le_bytes w n) ≡ n
  pub below : (bytes : List ℕ) → AreBytes bytes → from_le_bytes w bytes < limit

-- a byte is spelled by itself
pub byte_is : (n : ℕ) → n < 256 → to_le_bytes w8 n ≡ n ∷ []
byte_is n lt = ap (λ (k : ℕ). k ∷ []) (mod-eq_of_lt lt)

one_byte : (bytes : List ℕ) → length bytes ≡ 1 → AreBytes bytes → to_le_bytes w8 (from_le_bytes w8 bytes) ≡ bytes
one_byte [] len fits = absurd (omega arith)
one_byte (b ∷ []) len fits = byte_is b (fits 0)
one_byte (b ∷ c ∷ cs) len fits = absurd (omega arith)

pub wide8 : IsWide w8 (2 ^ 8)
wide8 = grind (arith, one_byte, mod-eq_of_lt)

pub wide16 : IsWide w16 (2 ^ 16)
wide16 = grind (arith, le_bytes_2, from_le_bytes-to_le_bytes_2)

pub wide32 : IsWide w32 (2 ^ 32)
wide32 = record {
  len = λ n. refl;
  back = λ bytes len fits. le_bytes_4 bytes _ len fits refl;
  again = λ n lt. from_le_bytes-to_le_bytes_4 n lt;
  below = λ bytes fits. omega (arith, fits 0, fits 1, fits 2, fits 3);
}

pub number_takes : (w : Width) (limit : ℕ) (wide : IsWide w limit) (bytes : List ℕ) (x : ℕ × List ℕ) → AreBytes bytes → number w bytes ≡ Ok x → Takes bytes (to_le_bytes w x.0) x.1 × (x.0 < limit)
unfolding number
number_takes w limit wide bytes x fits e =
    let g = unless_ok (ltb (length bytes) (byte_len w)) (length bytes) (from_le_bytes w (take (byte_len w) bytes), drop (byte_len w) bytes) x e in
    let long : byte_len w ≤ length bytes = ltb-false _ _ g.0 in
    let front : to_le_bytes w (from_le_bytes w (take (byte_len w) bytes)) ≡ take (byte_len w) bytes =
    wide.back (take (byte_len w) bytes) (omega (arith, length-take (byte_len w) bytes)) (bytes_take (byte_len w) bytes fits) in
    subst (λ (p : ℕ × List ℕ). Takes bytes (to_le_bytes w p.0) p.1 × (p.0 < limit)) g.1 (
      record { parts = rw front (sym (take-append-drop (byte_len w) bytes)); rest_fits = bytes_drop (byte_len w) bytes fits },
      wide.below (take (byte_len w) bytes) (bytes_take (byte_len w) bytes fits),
    )

pub number_again : (w : Width) (limit : ℕ) (wide : IsWide w limit) (n : ℕ) (rest : List ℕ) → n < limit → number w (to_le_bytes w n ++ rest) ≡ Ok (n, rest)
unfolding number
number_again w limit wide n rest lt =
    let len = wide.len n in
    let long : ltb (length (to_le_bytes w n ++ rest)) (byte_len w) ≡ false = le-ltb _ _ (omega (arith, length-append (to_le_bytes w n) rest)) in
    rw (long, take_at (to_le_bytes w n) rest (byte_len w) len, drop_at (to_le_bytes w n) rest (byte_len w) len, wide.again n lt) refl

-- ---- fields

pub field_takes : (w : Width) (limit : ℕ) (wide : IsWide w limit) (allowed : ℕ → Bool) (bytes : List ℕ) (x : ℕ × List ℕ) → AreBytes bytes → field w allowed bytes ≡ Ok x → Takes bytes (to_le_bytes w x.0) x.1 × (x.0 < limit) × (allowed x.0 ≡ true)
unfolding field
field_takes w limit wide allowed bytes x fits e =
    let b = bind_ok (number w bytes) (λ n. cond (allowed n.0) (Ok n) (Err (length bytes))) x e in
    let g = if_ok (allowed b.0.0) (length bytes) b.0 x b.2 in
    let t = number_takes w limit wide bytes b.0 fits b.1 in
    subst (λ (p : ℕ × List ℕ). Takes bytes (to_le_bytes w p.0) p.1 × (p.0 < limit) × (allowed p.0 ≡ true)) g.1 (t.0, t.1, g.0)

pub field_again : (w : Width) (limit : ℕ) (wide : IsWide w limit) (allowed : ℕ → Bool) (n : ℕ) (rest : List ℕ) → n < limit → allowed n ≡ true → field w allowed (to_le_bytes w n ++ rest) ≡ Ok (n, rest)
unfolding field
field_again w limit wide allowed n rest lt good = rw (number_again w limit wide n rest lt, good) refl

-- what was read passed the test
pub field_allows : (w : Width) (allowed : ℕ → Bool) (bytes : List ℕ) (x : ℕ × List ℕ) → field w allowed bytes ≡ Ok x → allowed x.0 ≡ true
unfolding field
field_allows w allowed bytes x e = grind (arith, bind_ok, if_ok)

-- ---- items read one after the other

-- what was read before, and what is still read
abbrev pub with_front : {X : Type 0} → List X → Result (List X × List ℕ) ℕ → Result (List X × List ℕ) ℕ
with_front front read = read >>= λ x. Ok (front ++ x.0, x.1)

-- one item more is read before
pub front_more : {X : Type 0} (front : List X) (t : X) (read : Result (List X × List ℕ) ℕ) →
    with_front front (read >>= λ x. Ok (t ∷ x.0, x.1)) ≡ with_front (front ++ t ∷ []) read
front_more {X} front t (Ok x) = ap (λ (ts : List X). Ok (ts, x.1)) (simp append_assoc)
front_more front t (Err f) = refl
