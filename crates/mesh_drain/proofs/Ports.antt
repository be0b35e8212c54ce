-- What holds at every port, every chip and every vertex.
use Rattle.mesh_drain.proofs.Common.{All, All-at, Chip, FitsHand, Hand, IfNone, IfSome, InHand, IsInside, IsMesh, IsNextOut, IsWaiting, List, Local, McCopy, None, Option, Out, Port, Some, State, []}
use Rattle.mesh_drain.proofs.Common.{ap, arith, chip_of, dir_at, dir_at-dir_number, dir_number, dir_number_below, get_or_from_slice_get, index_of, index_of-chip_of, length, port_number}
use Rattle.mesh_drain.proofs.Common.{port_number-port_of, port_of, queue_at, refl, same_Some, slice_get, subst, sym, ℕ, ◌%◌, ◌*◌, ◌/◌, ◌<◌, ◌∙◌, ◌∷◌, ◌≡◌, ◌≢◌, ◌≤◌}
use Rattle.spin_base.specs.declared.chips.Port.TheVariants.{Link}

-- what holds at the chip's own port and at the links by number holds at each port
pub at_each_port : (P : Port → Type 0) (n : ℕ) → 6 ≤ n → P Local → ((i : ℕ) → i < n → P (Link (dir_at i))) → (port : Port) → P port
at_each_port P n all own links Local = own
at_each_port P n all own links (Link d) = let below = dir_number_below d in subst (λ e. P (Link e)) (dir_at-dir_number d) (links (dir_number d) (omega (arith, all, below)))

-- where nothing waits at any port of any chip, all input queues are empty
pub no_input : (s : State) (n : ℕ) → length s.inputs ≡ 7 * (s.setup.machine.width * s.setup.machine.height) → s.setup.machine.width * s.setup.machine.height ≤ n →
    ((i : ℕ) → i < n → (port : Port) → slice_get s.inputs (queue_at s.setup.machine (chip_of s.setup.machine i) port) ≡ Some []) → All (λ (q : List McCopy). q ≡ []) s.inputs
no_input s n long all clear p d within =
    let chip : p / 7 < n = omega (arith, within, long, all) in
    let here = clear (p / 7) chip (port_of (p % 7)) in
    let number : port_number (port_of (p % 7)) ≡ p % 7 = port_number-port_of (p % 7) (omega arith) in
    let index = index_of-chip_of s.setup.machine (p / 7) in
    let place : queue_at s.setup.machine (chip_of s.setup.machine (p / 7)) (port_of (p % 7)) ≡ p = omega (arith, number, index) in
    get_or_from_slice_get s.inputs p [] d (ap (λ i. slice_get s.inputs i) (sym place) ∙ here)

-- where no chip's router holds a copy, all hands are free
pub no_hand : (s : State) (n : ℕ) → length s.hands ≡ s.setup.machine.width * s.setup.machine.height → s.setup.machine.width * s.setup.machine.height ≤ n →
    ((i : ℕ) → i < n → slice_get s.hands (index_of s.setup.machine (chip_of s.setup.machine i)) ≡ Some None) → All (λ (h : Option Hand). h ≡ None) s.hands
no_hand s n long all clear p d within = grind (arith, index_of-chip_of s.setup.machine p, get_or_from_slice_get)

-- where no vertex has a copy waiting, all cores' queues are empty
pub no_core : (cores : List (List McCopy)) (n : ℕ) → length cores ≤ n → ((i : ℕ) → i < n → slice_get cores i ≡ Some []) → All (λ (q : List McCopy). q ≡ []) cores
no_core cores n all clear p d within = get_or_from_slice_get cores p [] d (clear p (omega (arith, within, all)))

-- ---- a hand's next output

pub next_some : (s : State) (c : Chip) (h : Hand) (r : Option Out) → IsInside s.setup.machine c → slice_get s.hands (index_of s.setup.machine c) ≡ Some (Some h) →
    r ≡ slice_get h.outs 0 → IfSome r (λ out. IsWaiting s (InHand c out))
next_some s c h (Some out) inside at is = (inside, subst (IsNextOut out) (sym at) (by_list h.outs refl is))
  where
    by_list : (l : List Out) → h.outs ≡ l → Some out ≡ slice_get l 0 → (rest : List Out) × (h.outs ≡ out ∷ rest)
    by_list [] e none = cc
    by_list (o ∷ os) e first = (os, e ∙ ap (λ p. p ∷ os) (sym (same_Some _ _ first)))
next_some s c h None inside at is = tt

pub next_none : (s : State) (c : Chip) (h : Hand) (r : Option Out) → IsMesh s → slice_get s.hands (index_of s.setup.machine c) ≡ Some (Some h) →
    r ≡ slice_get h.outs 0 → IfNone r (slice_get s.hands (index_of s.setup.machine c) ≡ Some None)
next_none s c h (Some out) mesh at is = tt
next_none s c h None mesh at is = absurd (by_list h.outs refl is)
  where
    some_outs : h.outs ≢ []
    some_outs = (All-at (λ (x : Option Hand). IfSome x FitsHand) s.hands (index_of s.setup.machine c) (Some h) mesh.hands_fit at).outputs

    by_list : (l : List Out) → h.outs ≡ l → None ≡ slice_get l 0 → ⊥
    by_list [] e none = some_outs e
    by_list (o ∷ os) e first = cc
