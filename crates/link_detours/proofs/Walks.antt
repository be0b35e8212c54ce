-- Walks as lists of chips, and as so many steps.
use Rattle.link_detours.proofs.Common.{Chip, Description, IsLiveWalk, IsWalkTo, LeadsTo, List, Steps, [], last_of, refl, suc, zero, ℕ, ◌∷◌}
use Rattle.link_detours.proofs.Stepping.{Steps-cons, Steps-first}

-- the steps of a walk
pub walk_steps : (m : Description) (walk : List Chip) (a : Chip) → IsLiveWalk m (a ∷ walk) → (n : ℕ) × Steps (LeadsTo m) n a (last_of a walk)
walk_steps m [] a lives = (0, refl)
walk_steps m (b ∷ walk) a lives =
    let rest = walk_steps m walk b lives.1 in
    (suc rest.0, Steps-cons (LeadsTo m) rest.0 a b (last_of b walk) lives.0 rest.1)

-- the walk of steps
pub steps_walk : (m : Description) (n : ℕ) (a c : Chip) → Steps (LeadsTo m) n a c → (walk : List Chip) × IsWalkTo m a c walk
steps_walk m zero a c steps = ([], (tt, steps))
steps_walk m (suc n) a c steps =
    let first = Steps-first (LeadsTo m) n a c steps in
    let rest = steps_walk m n first.0 c first.2 in
    (first.0 ∷ rest.0, ((first.1, rest.1.0), rest.1.1))
