-- Of original blocks those that do not go straight on, gathered some nets at a time.
use Rattle.net_tables.proofs.Common.{AreBlocksOf, AreOriginals, Chip, Description, IsInside, List, Mark, NetPlan, Original, [], ap, append_assoc, arith, cases_lt, drop, drop_split, filter}
use Rattle.net_tables.proofs.Common.{filter-append, get_or, get_or-replicate, get_or_past, index_below, index_of, length, length-replicate, map, map-append, original_of, replicate, subst, sym, take}
use Rattle.net_tables.proofs.Common.{turns, ℕ, ◌*◌, ◌++◌, ◌-◌, ◌<◌, ◌∙◌, ◌≡◌, ◌≤◌}
use Rattle.net_tables.proofs.Marking.{originals_append}

-- the lists have, of the original blocks of these nets, those that do not go straight on
abbrev pub HaveTurning : Description → List NetPlan → List (List Mark) → Type 0
HaveTurning m nets lists = (c : Chip) → IsInside m c →
    (marks : List Mark) × AreOriginals m c nets (map original_of marks) × (get_or lists (index_of m c) [] ≡ filter turns marks)

pub turning_none : (m : Description) (n : ℕ) (kept : List (List Mark)) → kept ≡ replicate n [] → HaveTurning m [] kept
turning_none m n kept is c inside = grind (arith, get_or, cases_lt, get_or-replicate, get_or_past, length-replicate)

pub turning_more : (m : Description) (front part : List NetPlan) (lists kept new : List (List Mark)) → AreBlocksOf m part lists → length kept ≡ m.width * m.height →
    ((i : ℕ) → i < length kept → get_or new i [] ≡ get_or kept i [] ++ filter turns (get_or lists i [])) → HaveTurning m front kept → HaveTurning m (front ++ part) new
turning_more m front part lists kept new are long each so_far c inside =
    let before = so_far c inside in
    let more : List Mark = get_or lists (index_of m c) [] in (
      before.0 ++ more,
      subst (λ (l : List Original). AreOriginals m c (front ++ part) l) (sym (map-append original_of before.0 more))
          (originals_append m c front part (map original_of before.0) (map original_of more) before.1 (are.blocks c inside)),
      each (index_of m c) (subst (λ n. index_of m c < n) (sym long) (index_below m c inside))
          ∙ (ap (λ l. l ++ filter turns more) before.2 ∙ sym (filter-append turns before.0 more)),
    )

-- what stands once the lists up to a place were added
pub record IsAddedTo (lists old kept : List (List Mark)) (n : ℕ) : Type 0 where
  pub long : length kept ≡ length old
  pub added : (i : ℕ) → i < n → get_or kept i [] ≡ get_or old i [] ++ filter turns (get_or lists i [])
  pub left : (i : ℕ) → n ≤ i → get_or kept i [] ≡ get_or old i []

-- the nets in front, and those behind them
pub front_more : (nets front : List NetPlan) (done end : ℕ) → done ≤ end → front ++ drop done nets ≡ nets →
    (front ++ take (end - done) (drop done nets)) ++ drop end nets ≡ nets
front_more nets front done end up whole = grind (arith, append_assoc front (take (end - done) (drop done nets)) (drop end nets), drop_split nets done end up)
