-- The fixed blocks of nets: each is a range of enough keys, and no two share a key.
use Rattle.key_alloc.proofs.Common.{All, All-at, All-contains, All-each, All-permutation, All-weaker, AllPairs, AllPairs-cons, AllPairs-head, AllPairs-nil, AllPairs-permutation, AllPairs-tail}
use Rattle.key_alloc.proofs.Common.{AreDownwards, AreFixedApart, Block, Contains, Contains-append_left, Contains-at, Contains-filter_map, Contains-from_filter_map, Graph, HaveRanges, IfSome}
use Rattle.key_alloc.proofs.Common.{IsFixedFor, IsPermutation, IsValidGraph, List, Net, None, Option, ShareNoKey, Some, [], arith, cases_lt, cons_option, fixed_of, get_or, get_or_from_slice_get, refl}
use Rattle.key_alloc.proofs.Common.{rules, size_of, slice_get, slice_get_within, subst, ℕ, ◌++◌, ◌+◌, ◌<◌, ◌∷◌, ◌≡◌, ◌≤◌}
use Rattle.key_alloc.proofs.BlockRanges.{IsRange, range_of_fixed}

pub record HaveFixed (nets : List Net) : Type 0 where
  pub serve : All (λ (n : Net). IfSome n.fixed (IsFixedFor n.keys)) nets
  pub apart : AllPairs AreFixedApart nets

module _ (nets : List Net) (fixed : HaveFixed nets) where
  pub serves_at : (i : ℕ) (n : Net) → slice_get nets i ≡ Some n → IfSome n.fixed (IsFixedFor n.keys)
  serves_at i n is = All-at (λ (n : Net). IfSome n.fixed (IsFixedFor n.keys)) nets i n fixed.serve is

  pub apart_at : (i j : ℕ) (n m : Net) (f g : Block) → i < j → slice_get nets i ≡ Some n → slice_get nets j ≡ Some m → n.fixed ≡ Some f → m.fixed ≡ Some g → ShareNoKey f g
  apart_at i j n m f g ord is_n is_m is_f is_g =
      let pair = fixed.apart i j n ord (slice_get_within nets j m is_m) in
      let one : AreFixedApart n m =
      subst (λ (x : Net). AreFixedApart x m) (get_or_from_slice_get nets i n n is_n)
      (subst (λ (y : Net). AreFixedApart (get_or nets i n) y) (get_or_from_slice_get nets j m n is_m) pair) in
      subst (λ (o : Option Block). IfSome o (ShareNoKey f)) is_g (subst (λ (o : Option Block). IfSome o (λ x. IfSome m.fixed (ShareNoKey x))) is_f one)

-- each fixed block is a range of keys
pub fixed_ranges : (nets : List Net) → HaveFixed nets → All IsRange (fixed_of nets)
fixed_ranges nets fixed = All-each IsRange (fixed_of nets) (λ b has.
    let (n, in_nets, is) = Contains-from_filter_map (λ (n : Net). n.fixed) nets b has in
    let serves = All-contains (λ (n : Net). IfSome n.fixed (IsFixedFor n.keys)) nets n fixed.serve in_nets in
    range_of_fixed n.keys b (subst (λ (o : Option Block). IfSome o (IsFixedFor n.keys)) is serves))

-- no two fixed blocks share a key
pub fixed_apart : (nets : List Net) → AllPairs AreFixedApart nets → AllPairs ShareNoKey (fixed_of nets)
fixed_apart [] apart = AllPairs-nil ShareNoKey
fixed_apart (n ∷ ns) apart = by_fixed (fixed_apart ns (AllPairs-tail AreFixedApart n ns apart)) n.fixed refl
  where
    from_first : (f : Block) → n.fixed ≡ Some f → (g : Block) → Contains (fixed_of ns) g → ShareNoKey f g
    from_first f is_f g has =
        let (m, in_ns, is_g) = Contains-from_filter_map (λ (m : Net). m.fixed) ns g has in
        let one = All-contains (AreFixedApart n) ns m (AllPairs-head AreFixedApart n ns apart) in_ns in
        subst (λ (o : Option Block). IfSome o (ShareNoKey f)) is_g (subst (λ (o : Option Block). IfSome o (λ x. IfSome m.fixed (ShareNoKey x))) is_f one)

    by_fixed : AllPairs ShareNoKey (fixed_of ns) → (o : Option Block) → n.fixed ≡ o → AllPairs ShareNoKey (cons_option o (fixed_of ns))
    by_fixed rest o is = search (rules, AllPairs-cons, All-each, from_first)

apart_back : (a b : Block) → ShareNoKey a b → ShareNoKey b a
apart_back a b apart k small in_b in_a = apart k small in_a in_b

-- of two blocks that share no key, that of the lesser first key ends before the other
ends_before : (a b : Block) → IsRange a → IsRange b → ShareNoKey a b → b.key ≤ a.key → b.key + size_of b ≤ a.key
ends_before a b range_a range_b apart below = grind (arith, cases_lt a.key (b.key + size_of b))

pub record AreSorted (nets : List Net) (blocks : List Block) : Type 0 where
  pub downwards : AreDownwards blocks
  pub ranges : HaveRanges blocks

pub sorted_fixed : (nets : List Net) (blocks : List Block) → HaveFixed nets → IsPermutation (fixed_of nets) blocks → AllPairs (λ (a b : Block). b.key ≤ a.key) blocks → AreSorted nets blocks
sorted_fixed nets blocks fixed moved sorted =
    let ranges = All-permutation IsRange (fixed_of nets) blocks moved (fixed_ranges nets fixed) in
    let apart = AllPairs-permutation ShareNoKey apart_back (fixed_of nets) blocks moved (fixed_apart nets fixed.apart) in
    record {
      downwards = λ i j d less inside. ends_before (get_or blocks i d) (get_or blocks j d) (ranges i d (omega (arith, less, inside))) (ranges j d inside) (apart i j d less inside) (sorted i j d less inside);
      ranges = λ i d inside. ((ranges i d inside).some, (ranges i d inside).within);
    }

-- a net's fixed block is among what is taken
pub fixed_among : (nets : List Net) (blocks : List Block) (i : ℕ) (net : Net) → slice_get nets i ≡ Some net → IfSome net.fixed (Contains (fixed_of nets ++ blocks))
fixed_among nets blocks i net is = by_fixed net.fixed refl
  where
    by_fixed : (o : Option Block) → net.fixed ≡ o → IfSome o (Contains (fixed_of nets ++ blocks))
    by_fixed None is_o = tt
    by_fixed (Some b) is_o = Contains-append_left (fixed_of nets) blocks b (Contains-filter_map (λ (n : Net). n.fixed) nets net b (Contains-at nets i net is) is_o)

pub have_fixed : (graph : Graph) → IsValidGraph graph → HaveFixed graph.nets
have_fixed graph valid = grind (arith, All-weaker)
