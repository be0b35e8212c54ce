-- The nearest chip of a tree, found by going over its chips.
use Rattle.ner_trees.proofs.Common.{All, All-contains, AreAllOn, AreOn, Bool, Chip, Contains, Contains-append_left, Contains-cases, Contains-first, Contains-later, Contains-none, Contains-push}
use Rattle.ner_trees.proofs.Common.{Contains-push_cases, Description, Edge, HasSize, IsInside, IsLeastNearness, IsNear, IsTreeChip, List, TellsTree, [], arith, cases_eq, cases_lt, distance_of, get_or}
use Rattle.ner_trees.proofs.Common.{index_below, index_of, inl, inr, is_on, length, min, mul-le, nearness, props, same_index, subst, sym, take, take_more, true, ℕ, ∥∥₁_elim, ◌%◌, ◌*◌, ◌++◌, ◌+◌, ◌<◌}
use Rattle.ner_trees.proofs.Common.{◌∙◌, ◌∷◌, ◌≡◌, ◌≤◌, ◌⊎◌}
use Rattle.ner_trees.proofs.Growing.{on_inside}

one_is : (a b n : ℕ) → n ≡ min a b → (n ≡ a) ⊎ (n ≡ b)
one_is a b n e = elim (cases_eq n a) [ inl is ↦ inl is | inr other ↦ inr (omega (arith, e, other)) ]

not_above_first : (a b n : ℕ) → n ≡ min a b → n ≤ a
not_above_first a b n e = omega (arith, e)

not_above_second : (a b n : ℕ) → n ≡ min a b → n ≤ b
not_above_second a b n e = omega (arith, e)

-- of numbers of two digits the order of the first digits decides, then that of the second
digits_ordered : (d i e j : ℕ) → i < 4096 → j < 4096 → d * 4096 + i ≤ e * 4096 + j → (d < e) ⊎ ((d ≡ e) × (i ≤ j))
digits_ordered d i e j p q low = grind (arith, cases_lt d e)

first_digit : (d i n : ℕ) → n ≡ d * 4096 + i → n < 21 * 4096 → d ≤ 20
first_digit d i n e low = omega (arith, e, low)

too_great : (d i n : ℕ) → n ≤ d * 4096 + i → i < 4096 → d ≤ 20 → n < 21 * 4096
too_great d i n low p near = omega (arith, low, p, near)

last_digit : (d i n : ℕ) → n ≡ d * 4096 + i → i < 4096 → n % 4096 ≡ i
last_digit d i n e p = omega (arith, e, p)

-- the least number of some chips
pub record IsLeastOf (m : Description) (t : Chip) (chips : List Chip) (least : ℕ) : Type 0 where
  pub chip : Chip
  pub among : Contains chips chip
  pub is : least ≡ nearness m t chip
  pub first : (e : Chip) → Contains chips e → least ≤ nearness m t e

module _ (m : Description) (root t : Chip) where
  -- the root alone
  pub least_start : (least : ℕ) → least ≡ nearness m t root → IsLeastOf m t (root ∷ []) least
  least_start least is = grind (arith, Contains-first root, Contains-cases root, Contains-none)

  -- one chip more
  least_with : (chips : List Chip) (c : Chip) (old new : ℕ) → IsLeastOf m t chips old → new ≡ min old (nearness m t c) → IsLeastOf m t (chips ++ c ∷ []) new
  least_with chips c old new known is = elim (one_is old (nearness m t c) new is) [
    | inl same ↦ record { chip = known.chip; among = Contains-append_left chips (c ∷ []) known.chip known.among; is = same ∙ known.is; first = first }
    | inr same ↦ record { chip = c; among = Contains-push chips c; is = same; first = first }
  ]
    where
      first : (e : Chip) → Contains (chips ++ c ∷ []) e → new ≤ nearness m t e
      first e has = grind (arith, Contains-push_cases chips c e has, not_above_first old (nearness m t c) new is, not_above_second old (nearness m t c) new is)

  pub least_more : (chips : List Chip) (i : ℕ) (d : Chip) (old new : ℕ) → i < length chips → IsLeastOf m t (root ∷ take i chips) old → new ≡ min old (nearness m t (get_or chips i d)) →
      IsLeastOf m t (root ∷ take (i + 1) chips) new
  least_more chips i d old new within known is = grind (arith, take_more chips i d within, least_with (root ∷ take i chips) (get_or chips i d) old new known is, get_or chips i d)

  -- of the chips that a table has, this is the least number of the tree
  pub least_of_tree : (tree : List Edge) (on : List Bool) (chips : List Chip) (least : ℕ) → IsInside m root → All (λ e. IsInside m e.chip) tree → TellsTree m root on tree → AreOn m on chips →
      AreAllOn m on chips → IsLeastOf m t (root ∷ chips) least → IsLeastNearness m root tree t least
  least_of_tree tree on chips least root_in inside tells listed all_listed known = record {
    chip = known.chip;
    on = elim (Contains-cases root chips known.chip known.among) [
      | inl here ↦ inl (sym here)
      | inr later ↦ let at = All-contains (λ c. IsInside m c × (is_on m on c ≡ true)) chips known.chip listed later in (tells known.chip at.0).0 at.1
    ];
    is = known.is;
    first = λ e there.
        let e_in : IsInside m e = on_inside m root tree root_in inside e there in
        ∥∥₁_elim (all_listed e e_in ((tells e e_in).1 there)) (search props) (λ has. known.first e (Contains-later root chips e has));
  }

  -- The least number tells the chip to which the target is joined
  module _ (tree : List Edge) (least : ℕ) (size : HasSize m) (root_in : IsInside m root) (inside : All (λ e. IsInside m e.chip) tree)
      (known : IsLeastNearness m root tree t least) where
    index_few : (c : Chip) → IsTreeChip m root tree c → index_of m c < 4096
    index_few c on =
        grind (arith, mul-le m.width m.height 64 64 size.width_to_64 size.height_to_64, index_below m c (on_inside m root tree root_in inside c on), on_inside m root tree root_in inside c on)

    pub index_told : least % 4096 ≡ index_of m known.chip
    index_told = last_digit (distance_of m known.chip t) (index_of m known.chip) least known.is (index_few known.chip known.on)

    pub index_owed : least % 4096 < m.width * m.height
    index_owed = subst (λ n. n < m.width * m.height) (sym index_told) (index_below m known.chip (on_inside m root tree root_in inside known.chip known.on))

    pub near_chip_is : (c : Chip) → least < 21 * 4096 → IsInside m c → index_of m c ≡ least % 4096 → IsNear m root tree t c
    near_chip_is c low c_inside is =
        let same : known.chip ≡ c = same_index m known.chip c (on_inside m root tree root_in inside known.chip known.on) c_inside (sym (is ∙ index_told)) in
        subst (λ (x : Chip). IsNear m root tree t x) same (
        inl (
          (known.on, first_digit (distance_of m known.chip t) (index_of m known.chip) least known.is low),
          λ e w.
              digits_ordered (distance_of m known.chip t) (index_of m known.chip) (distance_of m e t) (index_of m e) (index_few known.chip known.on) (index_few e w.0)
              (subst (λ n. n ≤ nearness m t e) known.is (known.first e w.0)),
        ))

    pub near_root_is : 21 * 4096 ≤ least → IsNear m root tree t root
    near_root_is high = grind (arith, too_great, index_few)
