-- An image that is read is spelled by the bytes, and one that is spelled is read; so no spelling begins another.
use Rattle.std.proofs.Common.{◌≡◌, ℕ, zero, suc, ◌*◌, ◌^◌, ◌<◌, ◌≤◌, Bool, true, false, cond, eqb, List, [], ◌∷◌, ◌++◌, length, Some, None, Result, Ok, Err, refl, sym, ap, subst, ◌∙◌, append_assoc}
use Rattle.std.proofs.Common.{arith}
use Rattle.std.specs.{Prelude.if◌then◌else◌, List.flat_map, List.AllByRecursion, List.AllPairs, Int.w8, Int.w16, Int.w32, Int.to_le_bytes}
use Rattle.std.proofs.{Math.Nat.mod-eq_of_lt, Math.Nat.mul-le-mul, lemmas.Bool.eqb-true, lemmas.Bool.ne_eqb, lemmas.List.append-nil, lemmas.List.nil_from_length, lemmas.List.length-append}
use Rattle.std.proofs.lemmas.List.Elements.{All-from_recursion, recursion_from_All}
use Rattle.table_load.specs.{declared.faults.Stop.Stop, declared.tables.Image.Image, Images.IsTable, Images.Spells, Images.table_bytes, Reading.◌>>=◌, Reading.StopsAt, Reading.AreBytes, Reading.field}
use Rattle.table_load.specs.Reading.{between, read_tables, read_image, fault_place_in, fault_of}
use Rattle.table_load.specs.declared.faults.Stop.TheVariants as stops
use Rattle.spin_base.specs.declared.blocks.ChipTable.{ChipTable}
use Rattle.table_load.proofs.Numbers.{bind_ok, if_ok, ok_is, Takes-then, wide8, wide16, wide32, field_takes, field_again}
use Rattle.table_load.proofs.{Rows.between_is, Rows.between_from, TableReads.Earlier, TableReads.tables_take, TableReads.tables_again, TableReads.pairs_from_order, TableReads.order_from_pairs}

-- ---- what is read after each field

abbrev letters : ℕ
letters = 0x544e5053

abbrev made : ℕ → ℕ → ℕ → List ChipTable → Image
made w h wrap ts = record { width = w; height = h; wrap = eqb wrap 1; chips = ts }

abbrev after_tables : ℕ → ℕ → ℕ → List ChipTable × List ℕ → Result Image ℕ
after_tables w h wrap ts = cond (eqb (length ts.1) 0) (Ok (made w h wrap ts.0)) (Err (length ts.1))

abbrev after_count : ℕ → ℕ → ℕ → ℕ × List ℕ → Result Image ℕ
after_count w h wrap n = read_tables w h n.0 None n.1 >>= after_tables w h wrap

abbrev after_wrap : ℕ → ℕ → ℕ × List ℕ → Result Image ℕ
after_wrap w h wrap = field w16 (between 0 (w * h)) wrap.1 >>= after_count w h wrap.0

abbrev after_height : ℕ → ℕ × List ℕ → Result Image ℕ
after_height w h = field w8 (between 0 1) h.1 >>= after_wrap w h.0

abbrev after_width : ℕ × List ℕ → Result Image ℕ
after_width w = field w8 (between 1 64) w.1 >>= after_height w.0

abbrev after_version : ℕ × List ℕ → Result Image ℕ
after_version version = field w8 (between 1 64) version.1 >>= after_width

abbrev after_letters : ℕ × List ℕ → Result Image ℕ
after_letters l = field w8 (between 1 1) l.1 >>= after_version

by_steps : (bytes : List ℕ) → read_image bytes ≡ (field w32 (between letters letters) bytes >>= after_letters)
unfolding read_image
by_steps bytes = refl

-- ---- the head

wrap_back : (n : ℕ) → n ≤ 1 → (if eqb n 1 then 1 else 0) ≡ n
wrap_back zero le = refl
wrap_back (suc zero) le = refl
wrap_back (suc (suc n)) le = absurd (omega arith)

wrap_again : (b : Bool) → eqb (if b then 1 else 0) 1 ≡ b
wrap_again true = refl
wrap_again false = refl

wrap_small : (b : Bool) → (if b then 1 else 0) ≤ 1
wrap_small true = omega arith
wrap_small false = omega arith

-- the letters, the version and three bytes, as numbers
abbrev head : ℕ → ℕ → ℕ → ℕ → ℕ → List ℕ
head l version w h wrap = (((to_le_bytes w32 l ++ to_le_bytes w8 version) ++ to_le_bytes w8 w) ++ to_le_bytes w8 h) ++ to_le_bytes w8 wrap

abbrev plain_head : ℕ → ℕ → ℕ → List ℕ
plain_head w h wrap = (0x53 ∷ 0x50 ∷ 0x4e ∷ 0x54 ∷ []) ++ (1 ∷ w ∷ h ∷ wrap ∷ [])

abbrev three : ℕ → ℕ → ℕ → List ℕ
three w h wrap = 0x53 ∷ 0x50 ∷ 0x4e ∷ 0x54 ∷ 1 ∷ w ∷ h ∷ wrap ∷ []

head_is : (w h wrap : ℕ) → w < 256 → h < 256 → wrap < 256 → head letters 1 w h wrap ≡ plain_head w h wrap
head_is w h wrap p q r = grind (arith, mod-eq_of_lt)

head_of : (l version w h wrap : ℕ) → l ≡ letters → version ≡ 1 → w < 256 → h < 256 → wrap < 256 → head l version w h wrap ≡ plain_head w h wrap
head_of l version w h wrap e f p q r = ap (λ (x : ℕ). head x version w h wrap) e ∙ ap (λ (x : ℕ). head letters x w h wrap) f ∙ head_is w h wrap p q r

-- ---- what is read is spelled

pub image_takes : (bytes : List ℕ) (v : Image) → AreBytes bytes → read_image bytes ≡ Ok v → Spells v bytes
image_takes bytes v fits e =
    let l = bind_ok (field w32 (between letters letters) bytes) after_letters v (sym (by_steps bytes) ∙ e) in
    let n = bind_ok (field w8 (between 1 1) l.0.1) after_version v l.2 in
    let w = bind_ok (field w8 (between 1 64) n.0.1) after_width v n.2 in
    let h = bind_ok (field w8 (between 1 64) w.0.1) (after_height w.0.0) v w.2 in
    let r = bind_ok (field w8 (between 0 1) h.0.1) (after_wrap w.0.0 h.0.0) v h.2 in
    let c = bind_ok (field w16 (between 0 (w.0.0 * h.0.0)) r.0.1) (after_count w.0.0 h.0.0 r.0.0) v r.2 in
    let t = bind_ok (read_tables w.0.0 h.0.0 c.0.0 None c.0.1) (after_tables w.0.0 h.0.0 r.0.0) v c.2 in
    let g = if_ok (eqb (length t.0.1) 0) (length t.0.1) (made w.0.0 h.0.0 r.0.0 t.0.0) v t.2 in
    let tl = field_takes w32 (2 ^ 32) wide32 (between letters letters) bytes l.0 fits l.1 in
    let tn = field_takes w8 (2 ^ 8) wide8 (between 1 1) l.0.1 n.0 tl.0.rest_fits n.1 in
    let tw = field_takes w8 (2 ^ 8) wide8 (between 1 64) n.0.1 w.0 tn.0.rest_fits w.1 in
    let th = field_takes w8 (2 ^ 8) wide8 (between 1 64) w.0.1 h.0 tw.0.rest_fits h.1 in
    let tr = field_takes w8 (2 ^ 8) wide8 (between 0 1) h.0.1 r.0 th.0.rest_fits r.1 in
    let tc = field_takes w16 (2 ^ 16) wide16 (between 0 (w.0.0 * h.0.0)) r.0.1 c.0 tr.0.rest_fits c.1 in
    let tt' = tables_take w.0.0 h.0.0 c.0.0 None c.0.1 t.0 tc.0.rest_fits t.1 in
    let bl = between_is letters letters l.0.0 tl.2 in
    let bn = between_is 1 1 n.0.0 tn.2 in
    let bw = between_is 1 64 w.0.0 tw.2 in
    let bh = between_is 1 64 h.0.0 th.2 in
    let br = between_is 0 1 r.0.0 tr.2 in
    let bc = between_is 0 (w.0.0 * h.0.0) c.0.0 tc.2 in
    let h2 = Takes-then bytes (to_le_bytes w32 l.0.0) l.0.1 (to_le_bytes w8 n.0.0) n.0.1 tl.0 tn.0 in
    let h3 = Takes-then bytes (to_le_bytes w32 l.0.0 ++ to_le_bytes w8 n.0.0) n.0.1 (to_le_bytes w8 w.0.0) w.0.1 h2 tw.0 in
    let h4 = Takes-then bytes ((to_le_bytes w32 l.0.0 ++ to_le_bytes w8 n.0.0) ++ to_le_bytes w8 w.0.0) w.0.1 (to_le_bytes w8 h.0.0) h.0.1 h3 th.0 in
    let h5 = Takes-then bytes (((to_le_bytes w32 l.0.0 ++ to_le_bytes w8 n.0.0) ++ to_le_bytes w8 w.0.0) ++ to_le_bytes w8 h.0.0) h.0.1 (to_le_bytes w8 r.0.0) r.0.1 h4 tr.0 in
    subst (λ (u : Image). Spells u bytes) g.1
    (whole bytes w.0.0 h.0.0 r.0.0 l.0.0 n.0.0 c.0.0 r.0.1 c.0.1 t.0.1 t.0.0 bw bh br (omega (arith, bl)) (omega (arith, bn)) bc.1 h5.parts tc.0.parts tt'.0.parts tt'.1 tt'.2
    (pairs_from_order None t.0.0 tt'.3) (nil_from_length t.0.1 (eqb-true _ _ g.0)))
  where
    whole : (bytes : List ℕ) (w h wrap l version n : ℕ) (r c t : List ℕ) (ts : List ChipTable) → (1 ≤ w) × (w ≤ 64) → (1 ≤ h) × (h ≤ 64) → (0 ≤ wrap) × (wrap ≤ 1) → l ≡ letters → version ≡ 1
        → n ≤ w * h → bytes ≡ head l version w h wrap ++ r → r ≡ to_le_bytes w16 n ++ c → c ≡ flat_map table_bytes ts ++ t → length ts ≡ n
        → AllByRecursion (IsTable w h) ts → AllPairs Earlier ts → t ≡ [] → Spells (made w h wrap ts) bytes
    whole bytes w h wrap l version n r c t ts bw bh br el en few e0 e1 e2 long tables ordered nothing = record {
      valid = record {
        across = (bw.0, bw.1);
        down = (bh.0, bh.1);
        few = omega (arith, long, few);
        tables = All-from_recursion (IsTable w h) ts tables;
        ordered = ordered;
      };
      fields =
          let rest : r ≡ to_le_bytes w16 (length ts) ++ flat_map table_bytes ts =
          e1 ∙ ap (λ (x : List ℕ). to_le_bytes w16 n ++ x) (e2 ∙ ap (λ (x : List ℕ). flat_map table_bytes ts ++ x) nothing ∙ append-nil (flat_map table_bytes ts))
          ∙ ap (λ (k : ℕ). to_le_bytes w16 k ++ flat_map table_bytes ts) (sym long) in
          let first : head l version w h wrap ≡ plain_head w h (if eqb wrap 1 then 1 else 0) =
          head_of l version w h wrap el en (omega (arith, bw)) (omega (arith, bh)) (omega (arith, br)) ∙ ap (plain_head w h) (sym (wrap_back wrap br.1)) in
          e0 ∙ ap (λ (x : List ℕ). head l version w h wrap ++ x) rest ∙ ap (λ (x : List ℕ). x ++ (to_le_bytes w16 (length ts) ++ flat_map table_bytes ts)) first
          ∙ sym (append_assoc (plain_head w h (if eqb wrap 1 then 1 else 0)) (to_le_bytes w16 (length ts)) (flat_map table_bytes ts));
    }

-- ---- what is spelled is read

-- what is read where a spelling stands in front
abbrev pub read_before : Image → List ℕ → Result Image ℕ
read_before v more = cond (eqb (length more) 0) (Ok v) (Err (length more))

pub image_again : (v : Image) (bytes more : List ℕ) → Spells v bytes → read_image (bytes ++ more) ≡ read_before v more
image_again v bytes more spells =
    let valid = spells.valid in
    let across = valid.across in
    let down = valid.down in
    let wide = mul-le-mul across.1 down.1 in
    let few = valid.few in
    let wrap : ℕ = if v.wrap then 1 else 0 in
    let small : wrap ≤ 1 = wrap_small v.wrap in
    let n = to_le_bytes w16 (length v.chips) in
    let ts = flat_map table_bytes v.chips in
    let start : bytes ++ more ≡ head letters 1 v.width v.height wrap ++ (n ++ (ts ++ more)) =
    ap (λ (x : List ℕ). x ++ more) spells.fields
    ∙ append_assoc (plain_head v.width v.height wrap ++ n) ts more
    ∙ append_assoc (plain_head v.width v.height wrap) n (ts ++ more)
    ∙ ap (λ (x : List ℕ). x ++ (n ++ (ts ++ more))) (sym (head_is v.width v.height wrap (omega arith) (omega arith) (omega arith))) in
    let r5 = n ++ (ts ++ more) in
    let r4 = to_le_bytes w8 wrap ++ r5 in
    let r3 = to_le_bytes w8 v.height ++ r4 in
    let r2 = to_le_bytes w8 v.width ++ r3 in
    let r1 = to_le_bytes w8 1 ++ r2 in
    let spread : head letters 1 v.width v.height wrap ++ r5 ≡ to_le_bytes w32 letters ++ r1 = refl in
    let e0 : field w32 (between letters letters) (to_le_bytes w32 letters ++ r1) ≡ Ok (letters, r1) = field_again w32 (2 ^ 32) wide32 (between letters letters) letters r1 (omega arith) refl in
    let e1 : field w8 (between 1 1) r1 ≡ Ok (1, r2) = field_again w8 (2 ^ 8) wide8 (between 1 1) 1 r2 (omega arith) refl in
    let e2 : field w8 (between 1 64) r2 ≡ Ok (v.width, r3) = field_again w8 (2 ^ 8) wide8 (between 1 64) v.width r3 (omega arith) (between_from 1 64 v.width (omega arith) across.1) in
    let e3 : field w8 (between 1 64) r3 ≡ Ok (v.height, r4) = field_again w8 (2 ^ 8) wide8 (between 1 64) v.height r4 (omega arith) (between_from 1 64 v.height (omega arith) down.1) in
    let e4 : field w8 (between 0 1) r4 ≡ Ok (wrap, r5) = field_again w8 (2 ^ 8) wide8 (between 0 1) wrap r5 (omega arith) (between_from 0 1 wrap (omega arith) small) in
    let e5 : field w16 (between 0 (v.width * v.height)) r5 ≡ Ok (length v.chips, ts ++ more) =
    field_again w16 (2 ^ 16) wide16 (between 0 (v.width * v.height)) (length v.chips) (ts ++ more) (omega (arith, few, wide)) (between_from 0 (v.width * v.height) (length v.chips) (omega arith) few) in
    let e6 : read_tables v.width v.height (length v.chips) None (ts ++ more) ≡ Ok (v.chips, more) =
    tables_again v.width v.height None v.chips more across.1 down.1 (recursion_from_All (IsTable v.width v.height) v.chips valid.tables) (order_from_pairs v.chips valid.ordered) in
    by_steps (bytes ++ more)
    ∙ ap (λ (x : List ℕ). field w32 (between letters letters) x >>= after_letters) (start ∙ spread)
    ∙ ap (λ (x : Result (ℕ × List ℕ) ℕ). x >>= after_letters) e0
    ∙ ap (λ (x : Result (ℕ × List ℕ) ℕ). x >>= after_version) e1
    ∙ ap (λ (x : Result (ℕ × List ℕ) ℕ). x >>= after_width) e2
    ∙ ap (λ (x : Result (ℕ × List ℕ) ℕ). x >>= after_height v.width) e3
    ∙ ap (λ (x : Result (ℕ × List ℕ) ℕ). x >>= after_wrap v.width v.height) e4
    ∙ ap (λ (x : Result (ℕ × List ℕ) ℕ). x >>= after_count v.width v.height wrap) e5
    ∙ ap (λ (x : Result (List ChipTable × List ℕ) ℕ). x >>= after_tables v.width v.height wrap) e6
    ∙ ap (λ (b : Bool). let u : Image = record { width = v.width; height = v.height; wrap = b; chips = v.chips } in read_before u more) (wrap_again v.wrap)

pub image_read : (v : Image) (bytes : List ℕ) → Spells v bytes → read_image bytes ≡ Ok v
image_read v bytes spells = ap read_image (sym (append-nil bytes)) ∙ image_again v bytes [] spells

-- ---- faults

pub spelled_has_none : (v : Image) (bytes : List ℕ) → Spells v bytes → fault_of bytes ≡ None
spelled_has_none v bytes spells = ap (fault_place_in (length bytes)) (image_read v bytes spells)

no_fault : (n : ℕ) (r : Result Image ℕ) → fault_place_in n r ≡ None → (v : Image) × (r ≡ Ok v)
no_fault n (Ok v) e = (v, refl)
no_fault n (Err left) e = absurd cc

pub none_is_spelled : (bytes : List ℕ) → AreBytes bytes → fault_of bytes ≡ None → (v : Image) × Spells v bytes
none_is_spelled bytes fits e = let found = no_fault (length bytes) (read_image bytes) e in (found.0, image_takes bytes found.0 fits found.1)

pub more_is_fault : (v : Image) (bytes more : List ℕ) → Spells v bytes → 0 < length more → fault_of (bytes ++ more) ≡ Some (length bytes)
more_is_fault v bytes more spells some =
    let tested : eqb (length more) 0 ≡ false = ne_eqb (length more) 0 (λ e. absurd (omega (arith, e))) in
    let left : read_image (bytes ++ more) ≡ Err (length more) = image_again v bytes more spells ∙ rw tested refl in
    ap (fault_place_in (length (bytes ++ more))) left ∙ ap Some (omega (arith, length-append bytes more))

pub one_spelling : (v : Image) (a b : List ℕ) → Spells v a → Spells v b → a ≡ b
one_spelling v a b p q = p.fields ∙ sym q.fields

pub no_longer : (v w : Image) (bytes more : List ℕ) → Spells v bytes → Spells w (bytes ++ more) → (more ≡ []) × (v ≡ w)
no_longer v w bytes more p q =
    let g = if_ok (eqb (length more) 0) (length more) v w (sym (image_again v bytes more p) ∙ image_read w (bytes ++ more) q) in
    (nil_from_length more (eqb-true _ _ g.0), g.1)

-- what was read is the only image that the bytes spell
pub read_is : (v w : Image) (bytes : List ℕ) → read_image bytes ≡ Ok w → Spells v bytes → w ≡ v
read_is v w bytes read spells = ok_is w v (sym read ∙ image_read v bytes spells)

pub read_fails : (v : Image) (bytes : List ℕ) (s : Stop) (left : ℕ) → s ≡ stops.Left left → StopsAt s (read_image bytes) → Spells v bytes → ⊥
read_fails v bytes stops.Memory left is read spells = absurd cc
read_fails v bytes (stops.Left n) left is read spells = let e = image_read v bytes spells in let f = read in cc
