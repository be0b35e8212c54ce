-- Drawing one thing after another.
use Rattle.job_gen.proofs.Common.{All, All-nil, All-push, Drawn, DrawnNet, DrawnPacket, List, [], add-one, ap, arith, drawn_sdram, drawn_target, get_or, length, length-append, mod_below, plus_plus}
use Rattle.job_gen.proofs.Common.{refl, suc, zero, ℕ, ◌%◌, ◌++◌, ◌+◌, ◌/◌, ◌<◌, ◌∙◌, ◌∷◌, ◌≡◌}
use Rattle.job_gen.specs.Draws.{draw, drawn_from, drawn_net, drawn_packet, draws, keys_at}

-- a draw is what the generator's next word gives
pub draw_from : (m w : ℕ) (before after : List ℕ) → (w, after) ≡ plus_plus before → (w % m, after) ≡ draw m before
unfolding draw
draw_from m w before after is = ap (λ (p : ℕ × List ℕ). (p.0 % m, p.1)) is

-- a draw is below its number
pub draw_below : (m : ℕ) (g : List ℕ) → 0 < m → (draw m g).0 < m
unfolding draw
draw_below m g some = mod_below (plus_plus g).0 m some

-- nothing is drawn yet
pub draws_none : {A : Type 0} (f : ℕ → List ℕ → A × List ℕ) (g : List ℕ) (xs : List A) → xs ≡ [] → (xs, g) ≡ draws f 0 g
unfolding draws
draws_none {A} f g xs none = ap (λ (l : List A). (l, g)) none

-- one more
pub draws_more : {A : Type 0} (f : ℕ → List ℕ → A × List ℕ) (n : ℕ) (first before after : List ℕ) (xs : List A) (x : A)
    → (xs, before) ≡ draws f n first → (x, after) ≡ f n before → (xs ++ x ∷ [], after) ≡ draws f (n + 1) first
unfolding draws
draws_more {A} f n first before after xs x so_far last = grind (arith, add-one)

-- there are as many as were asked for
pub length-draws : {A : Type 0} (f : ℕ → List ℕ → A × List ℕ) (n : ℕ) (g : List ℕ) → length (draws f n g).0 ≡ n
unfolding draws
length-draws f zero g = refl
length-draws {A} f (suc n) g = omega (arith, length-draws f n g, length-append {A = A})

-- what each draw gives, each item has
pub draws_each : {A : Type 0} (P : A → Type 0) (f : ℕ → List ℕ → A × List ℕ) (n : ℕ) (g : List ℕ)
    → ((i : ℕ) (h : List ℕ) → i < n → P (f i h).0) → All P (draws f n g).0
unfolding draws
draws_each P f zero g each = All-nil P
draws_each P f (suc n) g each =
    All-push P (draws f n g).0 (f n (draws f n g).1).0
    (draws_each P f n g (λ i h below. each i h (omega arith)))
    (each n (draws f n g).1 (omega arith))

-- one more, put at the back of what was drawn
pub draws_push : {A : Type 0} (f : ℕ → List ℕ → A × List ℕ) (n : ℕ) (first before after : List ℕ) (xs new : List A) (x : A)
    → new ≡ xs ++ x ∷ [] → (xs, before) ≡ draws f n first → (x, after) ≡ f n before → (new, after) ≡ draws f (n + 1) first
draws_push {A} f n first before after xs new x pushed so_far last = grind (arith, draws_more f n first before after xs x so_far last)

-- ---- nets and packets, from their draws

abbrev pub net_with : ℕ → List ℕ → ℕ → DrawnNet
net_with source targets keys = record { source = source; targets = targets; keys = keys }

pub net_from : (i source more keys : ℕ) (targets g0 g1 g2 g3 g4 : List ℕ)
    → (source, g1) ≡ draw 200 g0 → (more, g2) ≡ draw 8 g1 → (targets, g3) ≡ draws drawn_target (1 + more) g2 → (keys, g4) ≡ draw 16 g3
    → (net_with source targets (1 + keys), g4) ≡ drawn_net i g0
unfolding drawn_net
net_from i source more keys targets g0 g1 g2 g3 g4 one two three four = grind arith

-- the keys of the net at a place
pub keys_there : (nets : List DrawnNet) (k : ℕ) (d : DrawnNet) → k < length nets → (get_or nets k d).keys ≡ keys_at nets k
unfolding keys_at
keys_there [] k d below = absurd (omega arith)
keys_there (n ∷ nets) zero d below = refl
keys_there (n ∷ nets) (suc k) d below = keys_there nets k d (omega arith)

abbrev pub packet_with : ℕ → ℕ → ℕ → DrawnPacket
packet_with net index payload = record { net = net; index = index; payload = payload }

pub packet_from : (nets : List DrawnNet) (i keys index payload : ℕ) (g0 g1 g2 : List ℕ)
    → keys ≡ keys_at nets (i / 4) → (index, g1) ≡ draw keys g0 → (payload, g2) ≡ draw 4294967296 g1
    → (packet_with (i / 4) index payload, g2) ≡ drawn_packet nets i g0
unfolding drawn_packet
packet_from nets i keys index payload g0 g1 g2 same one two = grind arith

-- ---- a whole job

abbrev pub drawn_with : List ℕ → List DrawnNet → List DrawnPacket → Drawn
drawn_with sdrams nets packets = record { sdrams = sdrams; nets = nets; packets = packets }

pub job_from : (g0 g1 g2 g3 sdrams : List ℕ) (nets : List DrawnNet) (packets : List DrawnPacket)
    → (sdrams, g1) ≡ draws drawn_sdram 200 g0 → (nets, g2) ≡ draws drawn_net 300 g1 → (packets, g3) ≡ draws (drawn_packet nets) 1200 g2
    → drawn_with sdrams nets packets ≡ drawn_from g0
unfolding drawn_from
job_from g0 g1 g2 g3 sdrams nets packets one two three = grind arith

pub number_drawn : {A : Type 0} (f : ℕ → List ℕ → A × List ℕ) (n : ℕ) (g h : List ℕ) (xs : List A) → (xs, h) ≡ draws f n g → length xs ≡ n
number_drawn {A} f n g h xs is = ap (λ (p : List A × List ℕ). length p.0) is ∙ length-draws f n g
