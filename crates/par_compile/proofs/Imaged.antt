-- The image of final tables is valid, has the entries of each chip, and loads them.
use Rattle.par_compile.proofs.Common.{All, All-append, All-cons, All-head, All-nil, All-tail, AllPairs, AllPairs-cons, AllPairs-nil, CanBeImaged, Chip, ChipTable, Description, Entry, FillTables}
use Rattle.par_compile.proofs.Common.{Final, HasSize, Image, ImageErr, IsChipBefore, IsLoaded, IsRow, IsTable, IsValid, KeepsRows, List, MatchResult, NoMemory, Ok, Result, Some, Spells, [], ap}
use Rattle.par_compile.proofs.Common.{append-nil, arith, cases_order, chip_of, chip_of-inside, cond-false, cond-true, eq-eqb, eqb-true, false_from_ne_true, gathered_more, get_or, image_in, index_of}
use Rattle.par_compile.proofs.Common.{index_of-chip_of, inside_parts, length, length-append, length-map, listed, loaded, loaded_of, map, mod_below, mul-le, refl, rows_of_index, rules, slice_get}
use Rattle.par_compile.proofs.Common.{slice_get-get_or, slice_get-mapped, slice_get_there, slice_get_within, subst, suc, sym, tables_from, take, take_all, zero, ℕ, ◌*◌, ◌++◌, ◌+◌, ◌/◌, ◌<◌, ◌==◌, ◌∙◌}
use Rattle.par_compile.proofs.Common.{◌∷◌, ◌≡◌, ◌≤◌}

abbrev IsShort : Final → Type 0
IsShort f = length f.entries ≤ 1024

-- ---- one chip's table

-- a chip's table is valid where it has rows
listed_valid : (w h : ℕ) (c : Chip) (es : List Entry) → c.x < w → c.y < h → length es ≤ 1024 → All IsRow es → All (IsTable w h) (listed c es)
listed_valid w h c es across up few rows = grind (arith, All-nil, All-cons)

few_listed : (c : Chip) (es : List Entry) → length (listed c es) ≤ 1
few_listed c es = grind arith

-- what is listed is of that chip
listed_of : (P : ChipTable → Type 0) (c : Chip) (es : List Entry) → ((t : ChipTable) → t.chip ≡ c → P t) → All P (listed c es)
listed_of P c es of = grind (arith, All-nil, All-cons)

-- ---- all tables

-- chips of lesser indices come before
before : (m : Description) (i j : ℕ) → 0 < m.height → i < j → IsChipBefore (chip_of m i) (chip_of m j)
before m i j some less = grind (arith, index_of-chip_of m i, index_of-chip_of m j, mod_below i m.height some, mod_below j m.height some, cases_order (i / m.height) (j / m.height), mul-le)

module _ (m : Description) (some : 0 < m.height) where
  abbrev at_place : ℕ → Final → List ChipTable
  at_place j f = listed (chip_of m j) f.entries

  few_tables : (n : ℕ) (fs : List Final) → length (tables_from m n fs) ≤ length fs
  few_tables n [] = omega arith
  few_tables n (f ∷ fs) = grind (arith, few_listed (chip_of m n) f.entries, few_tables (n + 1) fs, length-append (at_place n f) (tables_from m (n + 1) fs))

  valid_tables : (n : ℕ) (fs : List Final) → n + length fs ≤ m.width * m.height → All KeepsRows fs → All IsShort fs → All (IsTable m.width m.height) (tables_from m n fs)
  valid_tables n [] below keep short = All-nil (IsTable m.width m.height)
  valid_tables n (f ∷ fs) below keep short =
      let parts = inside_parts m (chip_of m n) (chip_of-inside m n (omega (arith, below))) in
      All-append (IsTable m.width m.height) (at_place n f) (tables_from m (n + 1) fs)
      (listed_valid m.width m.height (chip_of m n) f.entries parts.0 parts.1
      (All-head IsShort f fs short) (All-head KeepsRows f fs keep).rows)
      (valid_tables (n + 1) fs (omega (arith, below)) (All-tail KeepsRows f fs keep) (All-tail IsShort f fs short))

  -- a chip of a lesser index comes before all tables
  before_all : (i n : ℕ) (fs : List Final) → i < n → All (λ (t : ChipTable). IsChipBefore (chip_of m i) t.chip) (tables_from m n fs)
  before_all i n [] less = All-nil (λ (t : ChipTable). IsChipBefore (chip_of m i) t.chip)
  before_all i n (f ∷ fs) less = grind (arith, before_all i (n + 1) fs (omega (arith, less)), before m i n some less, All-append, listed_of)

  abbrev Ordered : ChipTable → ChipTable → Type 0
  Ordered s t = IsChipBefore s.chip t.chip

  in_order : (n : ℕ) (fs : List Final) → AllPairs Ordered (tables_from m n fs)
  in_order n [] = AllPairs-nil Ordered
  in_order n (f ∷ fs) = by f.entries (in_order (n + 1) fs)
    where
      by : (es : List Entry) → AllPairs Ordered (tables_from m (n + 1) fs) → AllPairs Ordered (listed (chip_of m n) es ++ tables_from m (n + 1) fs)
      by [] rest = rest
      by (e ∷ es) rest =
          AllPairs-cons Ordered (record { chip = chip_of m n; entries = e ∷ es }) (tables_from m (n + 1) fs)
          (before_all n (n + 1) fs (omega arith)) rest

  -- no table is of an earlier chip
  none_before : (i n : ℕ) (fs : List Final) → i < n → rows_of_index m.height (tables_from m n fs) i ≡ []
  none_before i n [] less = refl
  none_before i n (f ∷ fs) less = by f.entries (none_before i (n + 1) fs (omega (arith, less)))
    where
      by : (es : List Entry) → rows_of_index m.height (tables_from m (n + 1) fs) i ≡ [] → rows_of_index m.height (listed (chip_of m n) es ++ tables_from m (n + 1) fs) i ≡ []
      by es rest = grind (arith, index_of-chip_of, false_from_ne_true, eqb-true, cond-false)

  -- the rows of a chip are the entries of its final table
  rows_there : (n k i : ℕ) (fs : List Final) (g : Final) → n + k ≡ i → slice_get fs k ≡ Some g → rows_of_index m.height (tables_from m n fs) i ≡ g.entries
  rows_there n k i [] g at is = cc
  rows_there n zero i (f ∷ fs) g at is = by f.entries (ap (λ (x : Final). x.entries) same)
    where
      same : f ≡ g
      same = cc

      by : (es : List Entry) → es ≡ g.entries → rows_of_index m.height (listed (chip_of m n) es ++ tables_from m (n + 1) fs) i ≡ g.entries
      by [] are = none_before i (n + 1) fs (omega (arith, at)) ∙ are
      by (e ∷ es) are =
          let place : index_of m (chip_of m n) ≡ i = index_of-chip_of m n ∙ omega (arith, at) in
          cond-true (index_of m (chip_of m n) == i) (e ∷ es) (rows_of_index m.height (tables_from m (n + 1) fs) i) (eq-eqb (index_of m (chip_of m n)) i place) ∙ are
  rows_there n (suc k) i (f ∷ fs) g at is = by f.entries (rows_there (n + 1) k i fs g (omega (arith, at)) is)
    where
      by : (es : List Entry) → rows_of_index m.height (tables_from m (n + 1) fs) i ≡ g.entries → rows_of_index m.height (listed (chip_of m n) es ++ tables_from m (n + 1) fs) i ≡ g.entries
      by es rest = grind (arith, index_of-chip_of, false_from_ne_true, eqb-true, cond-false)

-- ---- the image

pub same_image : (v w : Image) → v.width ≡ w.width → v.height ≡ w.height → v.wrap ≡ w.wrap → v.chips ≡ w.chips → v ≡ w
same_image v w width height wrap chips = λ i. record { width = width i; height = height i; wrap = wrap i; chips = chips i }

module _ (m : Description) (size : HasSize m) (finals : List Final) (many : length finals ≡ m.width * m.height) (v : Image)
    (width : v.width ≡ m.width) (height : v.height ≡ m.height) (tables : v.chips ≡ tables_from m 0 finals) where
  pub image_valid : All KeepsRows finals → All IsShort finals → IsValid v
  image_valid keep short = search (rules, few_tables, valid_tables, in_order)

  pub image_rows : (i : ℕ) (f : Final) → slice_get finals i ≡ Some f → rows_of_index v.height v.chips i ≡ f.entries
  image_rows i f at = search (rules, rows_there)

-- one more chip
pub image_more : (m : Description) (finals : List Final) (i : ℕ) (f : Final) (c : Chip) (old new : List ChipTable) → slice_get finals i ≡ Some f → c ≡ chip_of m i →
    old ≡ tables_from m 0 (take i finals) → new ≡ old ++ listed c f.entries → new ≡ tables_from m 0 (take (i + 1) finals)
image_more m finals i f c old new at chip so_far is =
    is
    ∙ (ap (λ (k : Chip). old ++ listed k f.entries) chip
    ∙ (ap (λ (ts : List ChipTable). ts ++ listed (chip_of m i) f.entries) so_far
    ∙ sym (gathered_more (λ j (g : Final). listed (chip_of m j) g.entries) 0 finals i i f at (omega arith))))

-- ---- what it loads

-- lists of one length with the same item at each place are the same
same_lists : {X : Type 0} (xs ys : List X) → length xs ≡ length ys → ((i : ℕ) (y : X) → slice_get ys i ≡ Some y → slice_get xs i ≡ Some y) → xs ≡ ys
same_lists [] [] long each = refl
same_lists [] (y ∷ ys) long each = absurd (omega (arith, long))
same_lists (x ∷ xs) [] long each = absurd (omega (arith, long))
same_lists {X} (x ∷ xs) (y ∷ ys) long each =
    let heads : Some x ≡ Some y = each 0 y refl in
    let same : x ≡ y = cc in
    ap (λ (z : X). z ∷ xs) same ∙ ap (λ (l : List X). y ∷ l) (same_lists xs ys (omega (arith, long)) (λ i. each (suc i)))

pub all_loaded : (m : Description) (finals : List Final) (v : Image) (memories : List (List Entry)) → length finals ≡ m.width * m.height → v.width ≡ m.width → v.height ≡ m.height →
    ((i : ℕ) (f : Final) → slice_get finals i ≡ Some f → rows_of_index v.height v.chips i ≡ f.entries) → IsLoaded v memories → memories ≡ map loaded_of finals
all_loaded m finals v memories many width height rows is = grind (arith, same_lists, each, size, length-map)
  where
    size : v.width * v.height ≡ length finals
    size = ap (λ w. w * v.height) width ∙ (ap (λ h. m.width * h) height ∙ sym many)

    each : (i : ℕ) (y : List Entry) → slice_get (map loaded_of finals) i ≡ Some y → slice_get memories i ≡ Some y
    each i y at =
        let below : i < length finals = subst (λ n. i < n) (length-map finals loaded_of) (slice_get_within (map loaded_of finals) i y at) in
        let f = slice_get_there finals i below in
        is.each i (subst (λ n. i < n) (sym size) below)
        ∙ (ap (λ (es : List Entry). Some (loaded es)) (rows i f.0 f.1)
        ∙ (sym (slice_get-mapped loaded_of finals i f.0 f.1) ∙ at))

-- an image with these rows loads them
has_loaded : (m : Description) (finals : List Final) (v : Image) → length finals ≡ m.width * m.height → v.width ≡ m.width → v.height ≡ m.height →
    ((i : ℕ) (f : Final) → slice_get finals i ≡ Some f → rows_of_index v.height v.chips i ≡ f.entries) → IsLoaded v (map loaded_of finals)
has_loaded m finals v many width height rows = record {
  count = length-map finals loaded_of ∙ sym size;
  each = λ i below.
      let f = slice_get_there finals i (subst (λ n. i < n) size below) in
      slice_get-mapped loaded_of finals i f.0 f.1 ∙ ap (λ (es : List Entry). Some (loaded es)) (sym (rows i f.0 f.1));
}
  where
    size : v.width * v.height ≡ length finals
    size = ap (λ w. w * v.height) width ∙ (ap (λ h. m.width * h) height ∙ sym many)

-- from the bytes of the image of final tables their memories are filled, and no other ones, since bytes spell one image
pub fill_tables : ((v w : Image) (bytes more : List ℕ) → Spells v bytes → Spells w (bytes ++ more) → (more ≡ []) × (v ≡ w)) →
    (m : Description) (finals : List Final) (bytes : List ℕ) → CanBeImaged m finals → Spells (image_in m finals) bytes → FillTables bytes finals
fill_tables apart m finals bytes can spelled = record {
  filled = record { image = image_in m finals; spelled = spelled; loaded = has_loaded m finals (image_in m finals) can.one_each refl refl rows };
  only = λ memories filled.
      let same : filled.image ≡ image_in m finals = (apart filled.image (image_in m finals) bytes [] filled.spelled (subst (Spells (image_in m finals)) (sym (append-nil bytes)) spelled)).1 in
      all_loaded m finals (image_in m finals) memories can.one_each refl refl rows (subst (λ (v : Image). IsLoaded v memories) same filled.loaded);
}
  where
    size : HasSize m
    size = record {
      width_from_one = spelled.valid.across.0;
      width_to_64 = spelled.valid.across.1;
      height_from_one = spelled.valid.down.0;
      height_to_64 = spelled.valid.down.1;
    }

    rows : (i : ℕ) (f : Final) → slice_get finals i ≡ Some f → rows_of_index m.height (tables_from m 0 finals) i ≡ f.entries
    rows = image_rows m size finals can.one_each (image_in m finals) refl refl refl

-- ---- the loop over the chips

-- the final table that was read
pub found_at : (finals items : List Final) (i : ℕ) (f : Final) → items ≡ finals → i < length items → f ≡ get_or items i f → slice_get finals i ≡ Some f
found_at finals items i f same below read = ap (λ (l : List Final). slice_get l i) (sym same) ∙ (slice_get-get_or items i f below ∙ ap Some (sym read))

-- all were read
pub all_read : (m : Description) (finals items : List Final) (i : ℕ) (chips : List ChipTable) → items ≡ finals → length items ≤ i → chips ≡ tables_from m 0 (take i finals) →
    chips ≡ tables_from m 0 finals
all_read m finals items i chips same past so_far = grind (arith, take_all)

-- a place is a number of 32 bits
pub small_place : (m : Description) (finals items : List Final) (i chips : ℕ) → chips ≤ 4096 → chips ≡ m.width * m.height → length finals ≡ m.width * m.height → items ≡ finals → i < length items →
    i < 4294967296
small_place m finals items i chips few total many same below = grind arith

-- what is read of the bytes that spell an image is the image
pub read_again : (v : Image) (bytes slice : List ℕ) (result : Result Image ImageErr) (read : Image) → Spells v bytes → slice ≡ bytes → result ≡ Ok read →
    ((w : Image) → Spells w slice → MatchResult result (λ x. x ≡ w) (λ e. e ≡ NoMemory)) → read ≡ v
read_again v bytes slice result read spelled same is only = grind arith
