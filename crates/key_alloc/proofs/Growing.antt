-- One block more; and what right blocks are for: they are apart, and have enough keys.
use Rattle.key_alloc.proofs.Common.{All-contains, AllPairs, AllZip, AreFirstBlocks, AreRightBlocks, Block, Contains, Contains-append_left, Contains-append_right, Contains-at, Contains-filter_map}
use Rattle.key_alloc.proofs.Common.{HasKeys, Intersects, Intersects-sym, IsBlockFor, IsLeastBlock, List, MatchOption, MissesRange, Net, None, Option, Some, [], ap, arith, fixed_of, get_or}
use Rattle.key_alloc.proofs.Common.{get_or-take, get_or_from_slice_get, length, length-take, length_push, refl, size_of, slice_get, slice_get-get_or, slice_get-push_cases, slice_get_there}
use Rattle.key_alloc.proofs.Common.{slice_get_within, subst, suc, sym, take, take-append-le, take_at, ℕ, ◌++◌, ◌+◌, ◌<◌, ◌^◌, ◌∙◌, ◌∷◌, ◌≡◌, ◌≤◌}
use Rattle.key_alloc.proofs.{BlockRanges.IsRange, BlockRanges.range_of_block, BlockRanges.apart_missed, FixedBlocks.HaveFixed, FixedBlocks.serves_at, FixedBlocks.apart_at}

pub one_more : (nets : List Net) (blocks : List Block) (i : ℕ) (net : Net) (b : Block) → AreFirstBlocks nets blocks → length blocks ≡ i → slice_get nets i ≡ Some net
    → IsBlockFor (fixed_of nets ++ blocks) net b → AreFirstBlocks nets (blocks ++ b ∷ [])
one_more nets blocks i net b first here is right = grind (arith, length_push blocks b, slice_get_within nets i net is, slice_get nets, slice_get-push_cases, take-append-le, take_at)

zip_from_places : (nets : List Net) (blocks : List Block) → length nets ≡ length blocks
    → ((i : ℕ) (net : Net) (b : Block) → slice_get nets i ≡ Some net → slice_get blocks i ≡ Some b → HasKeys net b) → AllZip HasKeys nets blocks
zip_from_places [] [] same each = tt
zip_from_places [] (b ∷ bs) same each = absurd (omega arith)
zip_from_places (n ∷ ns) [] same each = absurd (omega arith)
zip_from_places (n ∷ ns) (b ∷ bs) same each = (each 0 n b refl refl, zip_from_places ns bs (omega arith) (λ i net c. each (suc i) net c))

module _ (nets : List Net) (blocks : List Block) (fixed : HaveFixed nets) (right : AreRightBlocks nets blocks) where
  -- the net of a block, and what the two are to each other
  record HasNet (j : ℕ) (b : Block) : Type 0 where
    net : Net
    is : slice_get nets j ≡ Some net
    block : IsBlockFor (fixed_of nets ++ take j blocks) net b
    range : IsRange b
    enough : net.keys ≤ size_of b

  net_at : (j : ℕ) (b : Block) → slice_get blocks j ≡ Some b → HasNet j b
  net_at j b is =
      let net = slice_get_there nets j (omega (arith, slice_get_within blocks j b is, right.all)) in
      let mine = right.first.each j net.0 b net.1 is in
      let range = range_of_block (fixed_of nets ++ take j blocks) net.0 b (serves_at nets fixed j net.0 net.1) mine in
      record { net = net.0; is = net.1; block = mine; range = range.0; enough = range.1 }

  module _ (i j : ℕ) (a b : Block) (ord : i < j) (at_a : slice_get blocks i ≡ Some a) (at_b : slice_get blocks j ≡ Some b) where
    first : HasNet i a
    first = net_at i a at_a

    second : HasNet j b
    second = net_at j b at_b

    a_before : Contains (fixed_of nets ++ take j blocks) a
    a_before =
        let within : i < length (take j blocks) = omega (arith, length-take j blocks, slice_get_within blocks j b at_b) in
        Contains-append_right (fixed_of nets) (take j blocks) a
        (Contains-at (take j blocks) i a (slice_get-get_or (take j blocks) i a within ∙ ap Some (get_or-take j blocks i a ord ∙ get_or_from_slice_get blocks i a a at_a)))

    fixed_taken : (g : Block) → second.net.fixed ≡ Some g → Contains (fixed_of nets ++ take i blocks) g
    fixed_taken g is =
        Contains-append_left (fixed_of nets) (take i blocks) g
        (Contains-filter_map (λ (n : Net). n.fixed) nets second.net g (Contains-at nets j second.net second.is) is)

    by_fixed : (o p : Option Block) → first.net.fixed ≡ o → second.net.fixed ≡ p → MatchOption o (IsLeastBlock (fixed_of nets ++ take i blocks) first.net.keys a) (λ f. a ≡ f)
        → MatchOption p (IsLeastBlock (fixed_of nets ++ take j blocks) second.net.keys b) (λ g. b ≡ g) → Intersects a b → ⊥
    by_fixed o None is_o is_p mine least =
        apart_missed a b first.range second.range (All-contains (MissesRange b.key (size_of b)) (fixed_of nets ++ take j blocks) a least.may.apart a_before)
    by_fixed None (Some g) is_o is_p least its = λ meet.
        let taken = subst (Contains (fixed_of nets ++ take i blocks)) (sym its) (fixed_taken g is_p) in
        apart_missed b a second.range first.range (All-contains (MissesRange a.key (size_of a)) (fixed_of nets ++ take i blocks) b least.may.apart taken) (Intersects-sym a b meet)
    by_fixed (Some f) (Some g) is_o is_p mine its = grind (arith, apart_at nets fixed i j first.net second.net f g ord first.is second.is is_o is_p)

    pub two_apart : Intersects a b → ⊥
    two_apart = by_fixed first.net.fixed second.net.fixed refl refl first.block second.block

  pub blocks_apart : AllPairs (λ a b. Intersects a b → ⊥) blocks
  blocks_apart i j d ord inside =
      two_apart i j (get_or blocks i d) (get_or blocks j d) ord (slice_get-get_or blocks i d (omega arith)) (slice_get-get_or blocks j d inside)

  pub keys_enough : AllZip HasKeys nets blocks
  keys_enough = zip_from_places nets blocks (sym right.all) (λ i net b is_net is_block index few.
      let has = net_at i b is_block in
      let same : has.net ≡ net = cc in
      let many : net.keys ≤ size_of b = subst (λ (n : Net). n.keys ≤ size_of b) same has.enough in
      let small : b.key + index < 2 ^ 32 = omega (arith, has.range.within, many) in
      (small, (has.range.keys (b.key + index) small).1 (omega arith, omega (arith, many))))
