-- Lists of original blocks, as they grow net by net.
use Rattle.net_tables.proofs.Common.{AreOriginals, Chip, Description, GainsMark, List, Mark, NetPlan, Original, [], ap, append-nil, arith, get_or, inl, inr, length, map, map_push, original_of, refl}
use Rattle.net_tables.proofs.Common.{subst, sym, take, take_more, ℕ, ◌++◌, ◌+◌, ◌<◌, ◌∷◌, ◌≡◌}

-- the original blocks of nets and of more nets
pub originals_append : (m : Description) (c : Chip) (xs ys : List NetPlan) (os ps : List Original) → AreOriginals m c xs os → AreOriginals m c ys ps →
    AreOriginals m c (xs ++ ys) (os ++ ps)
originals_append m c [] ys os ps none more = subst (λ (l : List Original). AreOriginals m c ys (l ++ ps)) (sym none) more
originals_append m c (n ∷ xs) ys os ps (inl on) more =
    inl (on.0, on.1, on.2, on.3 ++ ps, ap (λ l. l ++ ps) on.4, originals_append m c xs ys on.3 ps on.5 more)
originals_append m c (n ∷ xs) ys os ps (inr off) more = inr (off.0, originals_append m c xs ys os ps off.1 more)

pub originals_more : (m : Description) (c : Chip) (nets : List NetPlan) (i : ℕ) (net : NetPlan) (before after : List Mark) → i < length nets → net ≡ get_or nets i net →
    GainsMark m net c before after → AreOriginals m c (take i nets) (map original_of before) →
    AreOriginals m c (take (i + 1) nets) (map original_of after)
originals_more m c nets i net before after within is (inl on) so_far =
    let more = originals_append m c (take i nets) (net ∷ []) (map original_of before) (original_of on.1 ∷ []) so_far (inl (on.0, original_of on.1, on.2, [], refl, refl)) in
    grind (arith, take_more nets i net within, map_push original_of before on.1, more)
originals_more m c nets i net before after within is (inr off) so_far =
    let same = originals_append m c (take i nets) (net ∷ []) (map original_of before) [] so_far (inr (off.0, refl)) in
    grind (arith, take_more nets i net within, append-nil (map original_of before), same)
