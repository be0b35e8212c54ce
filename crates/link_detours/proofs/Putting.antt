-- Chips put into a set, one after the other.
use Rattle.link_detours.proofs.Common.{AreRoadsOf, Chip, Contains-push, Description, Edge, HasBitOf, IsIn, IsInside, IsTreeChip, List, None, Roads, Some, [], ap, arith, bit_at, bit_at-zero}
use Rattle.link_detours.proofs.Common.{bit_at_set_other, bit_at_set_same, bit_or, bits, cases_eq, cases_lt, end_of, get_or, get_or-replicate, get_or-set_other, get_or-set_same, get_or_past, inl, inr}
use Rattle.link_detours.proofs.Common.{inside_parts, length, length-replicate, more_chips, replicate, same_Some, same_chip, set, subst, sym, take, take_more, tree_end, tree_push_cases, w64, ℕ, ◌%◌}
use Rattle.link_detours.proofs.Common.{◌*◌, ◌++◌, ◌+◌, ◌<◌, ◌^◌, ◌↔◌, ◌∙◌, ◌∷◌, ◌≡◌, ◌≢◌}
use Rattle.link_detours.proofs.Searching.{cases_chip}

-- a chip inside the grid has a bit in a set of the machine's chips
pub bit_of : (m : Description) (roads : Roads) (set : List ℕ) (c : Chip) → AreRoadsOf m roads → length set ≡ m.width → IsInside m c → HasBitOf set c
bit_of m roads set c are long inside = grind (arith, inside_parts m c inside)

-- the set after a chip is put into it
pub put_here : (old : List ℕ) (c : Chip) (place : ℕ) → place ≡ c.x → c.x < length old → c.y < 64 →
    IsIn (set old place (bit_or (get_or old place 0) (1 * 2 ^ c.y % 2 ^ bits w64))) c
put_here old c place is within few = grind (arith, bit_at_set_same w64 (get_or old place 0) c.y few, get_or old place 0, get_or-set_same)

pub put_other : (old : List ℕ) (c : Chip) (place : ℕ) → place ≡ c.x → c.x < length old → c.y < 64 → (e : Chip) → e ≢ c →
    bit_at (get_or (set old place (bit_or (get_or old place 0) (1 * 2 ^ c.y % 2 ^ bits w64))) e.x 0) e.y ≡ bit_at (get_or old e.x 0) e.y
put_other old c place is within few e other = elim (cases_eq e.x place) [
  | inl column ↦
      let apart : e.y ≢ c.y = λ same. other (same_chip e c (column ∙ is) same) in
      ap (λ n. bit_at n e.y) (ap (λ k. get_or (set old place (bit_or (get_or old place 0) (1 * 2 ^ c.y % 2 ^ bits w64))) k 0) column
      ∙ get_or-set_same old place (bit_or (get_or old place 0) (1 * 2 ^ c.y % 2 ^ bits w64)) 0 (subst (λ k. k < length old) (sym is) within))
      ∙ (bit_at_set_other w64 (get_or old place 0) c.y few e.y apart ∙ ap (λ k. bit_at (get_or old k 0) e.y) (sym column))
  | inr beside ↦ ap (λ n. bit_at n e.y) (get_or-set_other old place e.x (bit_or (get_or old place 0) (1 * 2 ^ c.y % 2 ^ bits w64)) 0 beside)
]

-- the set has the chips of a tree
abbrev pub TellsTree : Description → Chip → List Edge → List ℕ → Type 0
TellsTree m root edges chips = (c : Chip) → IsIn chips c ↔ IsTreeChip m root edges c

-- no chip is in a set of words that are 0
pub none_in : (words : List ℕ) (n : ℕ) → words ≡ replicate n 0 → (c : Chip) → IsIn words c → ⊥
none_in words n e c bit = grind (arith, cases_lt, get_or, get_or-replicate, bit_at-zero, get_or_past, length-replicate)

-- one edge more, into this chip
pub TellsTree-push : (m : Description) (root : Chip) (tree : List Edge) (old chips : List ℕ) (f : Edge) (far : Chip) → end_of m f ≡ Some far →
    IsIn chips far → ((e : Chip) → e ≢ far → bit_at (get_or chips e.x 0) e.y ≡ bit_at (get_or old e.x 0) e.y) →
    TellsTree m root tree old → TellsTree m root (tree ++ f ∷ []) chips
TellsTree-push m root tree old chips f far leads here others told c = (
  λ bit. elim (cases_chip c far) [
    | inl same ↦ tree_end m root (tree ++ f ∷ []) f c (Contains-push tree f) (leads ∙ ap Some (sym same))
    | inr other ↦ more_chips m root tree (f ∷ []) c ((told c).0 (sym (others c other) ∙ bit))
  ],
  λ on. elim (cases_chip c far) [
    | inl same ↦ subst (λ (x : Chip). IsIn chips x) (sym same) here
    | inr other ↦ others c other ∙ (told c).1 (elim (tree_push_cases m root tree f c on) [ inl was ↦ was | inr at ↦ absurd (other (sym (same_Some far c (sym leads ∙ at)))) ])
  ],
)

-- one edge more that leads nowhere
pub TellsTree-skip : (m : Description) (root : Chip) (tree : List Edge) (chips : List ℕ) (f : Edge) → None ≡ end_of m f →
    TellsTree m root tree chips → TellsTree m root (tree ++ f ∷ []) chips
TellsTree-skip m root tree chips f leads told c = (
  λ bit. more_chips m root tree (f ∷ []) c ((told c).0 bit),
  λ on. (told c).1 (elim (tree_push_cases m root tree f c on) [ inl was ↦ was | inr at ↦ (let none : None ≡ Some c = leads ∙ at in cc) ]),
)

-- a prefix of a list, and one item more
pub TellsTree-taken : (m : Description) (root : Chip) (edges : List Edge) (i : ℕ) (d : Edge) (chips : List ℕ) → i < length edges →
    TellsTree m root (take i edges ++ get_or edges i d ∷ []) chips → TellsTree m root (take (i + 1) edges) chips
TellsTree-taken m root edges i d chips within = subst (λ es. TellsTree m root es chips) (sym (take_more edges i d within))
