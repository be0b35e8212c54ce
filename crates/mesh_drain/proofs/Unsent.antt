-- What each vertex still has to send, packet by packet.
use Rattle.mesh_drain.proofs.Common.{List, McCopy, NetPlan, None, Option, Packet, Some, Spot, [], ap, append-nil, arith, cons_option, copy_from, enumerate_from, enumerate_push, eq-eqb, filter_map}
use Rattle.mesh_drain.proofs.Common.{filter_map-append, first_copy, length, map, ne_eqb, push_at, range_with_len, refl, replicate, set-map_range, slice_get, slice_get-map_range, suc, sym, vertex_at}
use Rattle.mesh_drain.proofs.Common.{zero, ℕ, ◌++◌, ◌+◌, ◌<◌, ◌∙◌, ◌∷◌, ◌≡◌, ◌≢◌}

-- ---- what a vertex has of a list of packets, numbered from i on

abbrev pub copies_from : List Spot → List NetPlan → ℕ → List Packet → ℕ → List McCopy
copies_from spots nets i ps v = filter_map (λ (e : ℕ × Packet). copy_from spots v e.0 e.1 (slice_get nets e.1.net)) (enumerate_from i ps)

abbrev pub unsent_from : List Spot → List NetPlan → ℕ → List Packet → List (List McCopy)
unsent_from spots nets i ps = map (copies_from spots nets i ps) (range_with_len 0 (length spots))

pub its_copy : (spots : List Spot) (nets : List NetPlan) (i : ℕ) (p : Packet) (net : NetPlan) (v : ℕ) → slice_get nets p.net ≡ Some net → vertex_at spots net.source ≡ Some v →
    copy_from spots v i p (slice_get nets p.net) ≡ Some (first_copy i net p)
its_copy spots nets i p net v is vertex = grind (arith, eq-eqb v v refl)

pub no_copy : (spots : List Spot) (nets : List NetPlan) (i : ℕ) (p : Packet) (net : NetPlan) (v w : ℕ) → slice_get nets p.net ≡ Some net → vertex_at spots net.source ≡ Some v → w ≢ v →
    copy_from spots w i p (slice_get nets p.net) ≡ None
no_copy spots nets i p net v w is vertex other = grind (arith, ne_eqb)

-- ---- a mesh is opened packet by packet

-- the packets so far, and one more
pub opened_more : (spots : List Spot) (nets : List NetPlan) (ps : List Packet) (p : Packet) (net : NetPlan) (v : ℕ) →
    slice_get nets p.net ≡ Some net → vertex_at spots net.source ≡ Some v → v < length spots →
    push_at (unsent_from spots nets 0 ps) v (first_copy (length ps) net p) (slice_get (unsent_from spots nets 0 ps) v) ≡ unsent_from spots nets 0 (ps ++ p ∷ [])
opened_more spots nets ps p net v is vertex below =
    let k : McCopy = first_copy (length ps) net p in
    let old : ℕ → List McCopy = copies_from spots nets 0 ps in
    let new : ℕ → List McCopy = copies_from spots nets 0 (ps ++ p ∷ []) in
    let makes : ℕ → ℕ × Packet → Option McCopy = λ w e. copy_from spots w e.0 e.1 (slice_get nets e.1.net) in
    let grown : (w : ℕ) → new w ≡ old w ++ cons_option (copy_from spots w (length ps) p (slice_get nets p.net)) [] =
    λ w. ap (filter_map (makes w)) (enumerate_push 0 ps p (length ps) (omega arith)) ∙ filter_map-append (makes w) (enumerate_from 0 ps) ((length ps, p) ∷ []) in
    let here : 0 + v ≡ v = omega arith in
    let got : slice_get (map old (range_with_len 0 (length spots))) v ≡ Some (old v) = slice_get-map_range old 0 (length spots) v below ∙ ap (λ w. Some (old w)) here in
    let with_it : old v ++ k ∷ [] ≡ new (0 + v) =
    ap (λ o. old v ++ cons_option o []) (sym (its_copy spots nets (length ps) p net v is vertex)) ∙ (sym (grown v) ∙ ap new (sym here)) in
    let unchanged : (w : ℕ) → w ≢ v → new w ≡ old w =
    λ w other. grown w ∙ (ap (λ o. old w ++ cons_option o []) (no_copy spots nets (length ps) p net v w is vertex other) ∙ append-nil (old w)) in
    ap (push_at (map old (range_with_len 0 (length spots))) v k) got
    ∙ set-map_range old new 0 (length spots) v (old v ++ k ∷ []) below with_it
    (λ w other. sym (unchanged w (λ same. other (omega (arith, same)))))

-- before the first packet nothing is unsent
pub opened_none : (spots : List Spot) (nets : List NetPlan) → replicate (length spots) [] ≡ unsent_from spots nets 0 []
opened_none spots nets = none 0 (length spots)
  where
    none : (a n : ℕ) → replicate n [] ≡ map (copies_from spots nets 0 []) (range_with_len a n)
    none a zero = refl
    none a (suc n) = ap (λ l. [] ∷ l) (none (a + 1) n)
