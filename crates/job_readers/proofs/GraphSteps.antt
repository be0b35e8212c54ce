-- What vertices and nets so far have, and that the next one has nothing of it.
use Rattle.job_readers.proofs.Common.{AllPairs, AreFixedApart, Block, Bool, Data, Edge, HaveDifferentDevices, IfSome, List, Net, None, Option, ShareNoKey, Some, Vertex, [], agree_where_meet}
use Rattle.job_readers.proofs.Common.{all_pairs_push, ap, arith, bit_and, edge_eq, edge_eq_self, eq-eqb, false, flat_map, flat_map_more, get_or, length, list_any, list_any-append, map_push}
use Rattle.job_readers.proofs.Common.{name_value, net_faults, next_net_faults, next_vertex_faults, option_to_list, or_left, or_right, refl, shares_key, subst, suc, sym, true, true≢false}
use Rattle.job_readers.proofs.Common.{vertex_faults, zero, ℕ, ◌++◌, ◌<◌, ◌^◌, ◌∙◌, ◌∷◌, ◌≡◌}
use Rattle.job_readers.specs.{GraphPart.vertex_names_of, GraphPart.vertex_value, GraphPart.devices_of, GraphPart.fixed_blocks_of, GraphPart.net_names, GraphPart.net_value, Hung.is_among}

-- what one of the items has, is among what all have
listed_any : {X A : Type 0} (f : X → Option A) (p : A → Bool) (xs : List X) (k : ℕ) (d : X) (a : A) → k < length xs → f (get_or xs k d) ≡ Some a → p a ≡ true → list_any p (flat_map (λ x. option_to_list (f x)) xs) ≡ true
listed_any f p [] k d a below is holds = absurd (omega arith)
listed_any f p (x ∷ xs) zero d a below is holds = grind (arith, or_left (p a) false holds, list_any-append)
listed_any f p (x ∷ xs) (suc k) d a below is holds = grind (arith, listed_any f p xs k d a (omega arith) is holds, list_any-append, or_right)

-- ---- vertices

pub next_vertex : (version : ℕ) (names : List (List ℕ)) (devices : List Edge) (vs : List Vertex) (at : List ℕ) (d : Data) → names ≡ vertex_names_of vs → devices ≡ devices_of vs → vertex_faults version names devices at d ≡ next_vertex_faults version vs at d
next_vertex version names devices vs at d named hung = rw (named, hung) refl

pub vertex_name : (version : ℕ) (d : Data) → (vertex_value version d).name ≡ name_value d
unfolding vertex_value
vertex_name version d = refl

pub names_more : (vs new : List Vertex) (v : Vertex) (names more : List (List ℕ)) (s : List ℕ) → new ≡ vs ++ v ∷ [] → names ≡ vertex_names_of vs → more ≡ names ++ s ∷ [] → s ≡ v.name → more ≡ vertex_names_of new
unfolding vertex_names_of
names_more vs new v names more s pushed named said same = said ∙ rw (named, same, pushed, map_push) refl

pub devices_more : (vs new : List Vertex) (v : Vertex) (devices more : List Edge) → new ≡ vs ++ v ∷ [] → devices ≡ devices_of vs → more ≡ devices ++ option_to_list v.device → more ≡ devices_of new
unfolding devices_of
devices_more vs new v devices more pushed hung added =
    added ∙ ap (λ l. l ++ option_to_list v.device) hung ∙ flat_map_more (λ (w : Vertex). option_to_list w.device) [] vs v ∙ ap (flat_map (λ (w : Vertex). option_to_list w.device)) (sym pushed)

-- a vertex whose device is none of those before differs from each of them
differs : (vs : List Vertex) (v : Vertex) → IfSome v.device (λ e. is_among (devices_of vs) e ≡ false) → (k : ℕ) (d : Vertex) → k < length vs → HaveDifferentDevices (get_or vs k d) v
unfolding devices_of is_among
differs vs v fresh k d below e mine its =
    let absent : is_among (devices_of vs) e ≡ false = subst (λ o. IfSome o (λ b. is_among (devices_of vs) b ≡ false)) its fresh in
    true≢false (sym (listed_any (λ (w : Vertex). w.device) (λ f. edge_eq f e) vs k d e below mine (edge_eq_self e)) ∙ absent)

pub different_more : (vs new : List Vertex) (v : Vertex) (devices : List Edge) → new ≡ vs ++ v ∷ [] → devices ≡ devices_of vs → IfSome v.device (λ e. is_among devices e ≡ false) → AllPairs HaveDifferentDevices vs → AllPairs HaveDifferentDevices new
different_more vs new v devices pushed hung fresh pairs =
    subst (AllPairs HaveDifferentDevices) (sym pushed)
    (all_pairs_push HaveDifferentDevices vs v pairs (differs vs v (subst (λ l. IfSome v.device (λ e. is_among l e ≡ false)) hung fresh)))

-- ---- nets

pub next_net : (version : ℕ) (vertices : List Vertex) (names : List (List ℕ)) (blocks : List Block) (ns : List Net) (at : List ℕ) (d : Data) → names ≡ net_names ns → blocks ≡ fixed_blocks_of ns → net_faults version vertices names blocks at d ≡ next_net_faults version vertices ns at d
next_net version vertices names blocks ns at d named fixed = rw (named, fixed) refl

pub net_name : (version : ℕ) (vertices : List Vertex) (d : Data) → (net_value version vertices d).name ≡ name_value d
unfolding net_value
net_name version vertices d = refl

pub net_names_more : (ns new : List Net) (n : Net) (names more : List (List ℕ)) (s : List ℕ) → new ≡ ns ++ n ∷ [] → names ≡ net_names ns → more ≡ names ++ s ∷ [] → s ≡ n.name → more ≡ net_names new
unfolding net_names
net_names_more ns new n names more s pushed named said same = said ∙ rw (named, same, pushed, map_push) refl

pub blocks_more : (ns new : List Net) (n : Net) (blocks more : List Block) → new ≡ ns ++ n ∷ [] → blocks ≡ fixed_blocks_of ns → more ≡ blocks ++ option_to_list n.fixed → more ≡ fixed_blocks_of new
unfolding fixed_blocks_of
blocks_more ns new n blocks more pushed fixed added =
    added ∙ ap (λ l. l ++ option_to_list n.fixed) fixed ∙ flat_map_more (λ (m : Net). option_to_list m.fixed) [] ns n ∙ ap (flat_map (λ (m : Net). option_to_list m.fixed)) (sym pushed)

-- blocks that do not agree on the bits for which both care have no key together
apart : (a b : Block) (key : ℕ) → key < 2 ^ 32 → bit_and key a.mask ≡ a.key → bit_and key b.mask ≡ b.key → shares_key b a ≡ true
apart a b key small mine its = eq-eqb _ _ (agree_where_meet b a (record { key = key; small = small; first = its; second = mine }))

apart_from : (ns : List Net) (k : ℕ) (d : Net) (o p : Option Block) → k < length ns → (get_or ns k d).fixed ≡ o → IfSome p (λ b. list_any (shares_key b) (fixed_blocks_of ns) ≡ false) → IfSome o (λ a. IfSome p (ShareNoKey a))
unfolding fixed_blocks_of
apart_from ns k d None p below is fresh = tt
apart_from ns k d (Some a) None below is fresh = tt
apart_from ns k d (Some a) (Some b) below is fresh = λ key small mine its.
    true≢false (sym (listed_any (λ (m : Net). m.fixed) (shares_key b) ns k d a below is (apart a b key small mine its)) ∙ fresh)

pub apart_more : (ns new : List Net) (n : Net) (blocks : List Block) → new ≡ ns ++ n ∷ [] → blocks ≡ fixed_blocks_of ns → IfSome n.fixed (λ b. list_any (shares_key b) blocks ≡ false) → AllPairs AreFixedApart ns → AllPairs AreFixedApart new
apart_more ns new n blocks pushed fixed fresh pairs =
    let free : IfSome n.fixed (λ b. list_any (shares_key b) (fixed_blocks_of ns) ≡ false) = subst (λ l. IfSome n.fixed (λ b. list_any (shares_key b) l ≡ false)) fixed fresh in
    subst (AllPairs AreFixedApart) (sym pushed)
    (all_pairs_push AreFixedApart ns n pairs (λ k d below. apart_from ns k d (get_or ns k d).fixed n.fixed below refl free))
