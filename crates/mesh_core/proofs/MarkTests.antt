-- A test of equality on marks, and a number that each move raises.
use Rattle.mesh_core.proofs.Common.{Among, Bool, List, Mark, McCopy, None, Option, Some, State, Station, among_map, among_only, and_from, and_parts, arith, at_core, chip_eq, chip_eq_same}
use Rattle.mesh_core.proofs.Common.{chip_eq_true, delivered, dumped, eq-eqb, eqb-true, false, in_hand, in_queue, last_hop, min, out_eq, out_eq_same, out_eq_true, port_eq, port_eq_same, port_eq_true}
use Rattle.mesh_core.proofs.Common.{true, unsent, ℕ, ◌&&◌, ◌*◌, ◌+◌, ◌-◌, ◌<◌, ◌==◌, ◌≡◌, ◌≤◌}
use Rattle.mesh_core.proofs.Moves.{mark, IsMove, IsMoveOf, Crosses}

payload_eq : Option ℕ → Option ℕ → Bool
payload_eq (Some a) (Some b) = a == b
payload_eq (Some a) None = false
payload_eq None (Some b) = false
payload_eq None None = true

payload_same : (a : Option ℕ) → payload_eq a a ≡ true
unfolding payload_eq
payload_same a = grind (arith, eq-eqb)

payload_true : (a b : Option ℕ) → payload_eq a b ≡ true → a ≡ b
unfolding payload_eq
payload_true a b e = grind (arith, eqb-true)

station_eq : Station → Station → Bool
station_eq (unsent v) (unsent w) = v == w
station_eq (in_queue c p) (in_queue d q) = chip_eq c d && port_eq p q
station_eq (in_hand c o) (in_hand d p) = chip_eq c d && out_eq o p
station_eq (at_core v) (at_core w) = v == w
station_eq (delivered v) (delivered w) = v == w
station_eq (dumped c o) (dumped d p) = chip_eq c d && out_eq o p
station_eq _ _ = false

station_same : (a : Station) → station_eq a a ≡ true
unfolding station_eq
station_same a = grind (arith, eq-eqb, and_from, chip_eq_same, port_eq_same, out_eq_same)

pub two_alike : {A B C : Type 0} (f : A → B → C) (a a' : A) (b b' : B) → a ≡ a' → b ≡ b' → f a b ≡ f a' b'
two_alike f a a' b b' e e' = cc

station_true : (a b : Station) → station_eq a b ≡ true → a ≡ b
unfolding station_eq
station_true a b e = grind (arith, eqb-true, two_alike, chip_eq_true, and_parts, port_eq_true, out_eq_true)

copy_eq : McCopy → McCopy → Bool
copy_eq a b = (a.packet == b.packet) && ((a.key == b.key) && (payload_eq a.payload b.payload && (a.hop == b.hop)))

pub copies_alike : (n n' k k' h h' : ℕ) (p p' : Option ℕ) → n ≡ n' → k ≡ k' → p ≡ p' → h ≡ h' →
    (let a : McCopy = record { packet = n; key = k; payload = p; hop = h } in let b : McCopy = record { packet = n'; key = k'; payload = p'; hop = h' } in a ≡ b)
copies_alike n n' k k' h h' p p' e f g i = cc

-- whether two marks are one
pub mark_eq : Mark → Mark → Bool
mark_eq a b = copy_eq a.copy b.copy && station_eq a.station b.station

pub mark_eq_same : (a : Mark) → mark_eq a a ≡ true
unfolding mark_eq copy_eq
mark_eq_same a = grind (arith, and_from, copy_eq, station_eq, payload_eq, eq-eqb, payload_same, station_same)

marks_alike : (c d : McCopy) (a b : Station) → c ≡ d → a ≡ b → mark c a ≡ mark d b
marks_alike c d a b e f = cc

pub mark_eq_true : (a b : Mark) → mark_eq a b ≡ true → a ≡ b
unfolding mark_eq copy_eq
mark_eq_true a b e =
    let copies = (and_parts (copy_eq a.copy b.copy) (station_eq a.station b.station) e).0 in
    let stations = (and_parts (copy_eq a.copy b.copy) (station_eq a.station b.station) e).1 in
    let later1 = (and_parts (a.copy.packet == b.copy.packet) ((a.copy.key == b.copy.key) && (payload_eq a.copy.payload b.copy.payload && (a.copy.hop == b.copy.hop))) copies).1 in
    let later2 = (and_parts (a.copy.key == b.copy.key) (payload_eq a.copy.payload b.copy.payload && (a.copy.hop == b.copy.hop)) later1).1 in
    let same_copy : a.copy ≡ b.copy =
    copies_alike a.copy.packet b.copy.packet a.copy.key b.copy.key a.copy.hop b.copy.hop a.copy.payload b.copy.payload
    (eqb-true a.copy.packet b.copy.packet ((and_parts (a.copy.packet == b.copy.packet) _ copies).0))
    (eqb-true a.copy.key b.copy.key ((and_parts (a.copy.key == b.copy.key) _ later1).0))
    (payload_true a.copy.payload b.copy.payload ((and_parts (payload_eq a.copy.payload b.copy.payload) (a.copy.hop == b.copy.hop) later2).0))
    (eqb-true a.copy.hop b.copy.hop ((and_parts (payload_eq a.copy.payload b.copy.payload) (a.copy.hop == b.copy.hop) later2).1)) in
    marks_alike a.copy b.copy a.station b.station same_copy (station_true a.station b.station stations)

-- ---- a number that each move raises

-- how far on a mark is. A hop makes the greatest hop number no greater; there hands and dump records come before the queues.
abbrev rank_at : ℕ → Station → ℕ
rank_at hop (unsent v) = 5 * hop
rank_at hop (in_queue c p) = 5 * hop + 1
rank_at hop (in_hand c o) = min (5 * hop + 2) (5 * last_hop - 1)
rank_at hop (dumped c o) = min (5 * hop + 3) (5 * last_hop)
rank_at hop (at_core v) = 5 * hop + 3
rank_at hop (delivered v) = 5 * hop + 4

pub rank : Mark → ℕ
rank x = rank_at x.copy.hop x.station

-- a hop number that is not the greatest is below it
pub below_last : (n : ℕ) → n ≤ last_hop → (n == last_hop) ≡ false → n < last_hop
below_last n within other = grind arith

-- each mark that comes is further on than the one that leaves
pub move_raises : (s : State) (x : Mark) (come : List Mark) → x.copy.hop ≤ last_hop → IsMove s x come → (y : Mark) → Among y come → rank x < rank y
unfolding rank
move_raises s x come within move y is_come = grind (arith, rank, among_only, Crosses, mark, Among, among_map, below_last, IsMoveOf)
