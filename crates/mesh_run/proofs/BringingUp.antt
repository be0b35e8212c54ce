-- Links brought up, from the first list on.
use Rattle.mesh_run.proofs.Common.{AreUp, HasPlaces, IsUp, LinkEnds, List, McCopy, RisenTo, Rising, Some, [], ap, arith, get_or, length, length-append, none-some, places_for, refl, same_Some}
use Rattle.mesh_run.proofs.Common.{slice_get, slice_get-get_or, subst, sym, ℕ, ◌++◌, ◌+◌, ◌-◌, ◌<◌, ◌∙◌, ◌∷◌, ◌≡◌, ◌≤◌}
use Rattle.mesh_run.proofs.Going.{pushed}

-- a link has the places with which it is made
pub made_with : (cap turns held places : ℕ) → held ≤ cap → places ≡ places_for cap turns held → HasPlaces cap (turns + 1) held places
made_with cap turns held places fits is = record { enough = omega (arith, fits, is); few = omega (arith, is) }

-- where a link has places for so many copies more, it has places for fewer
pub fewer_fit : (cap more less held places : ℕ) → less ≤ more → HasPlaces cap more held places → HasPlaces cap less held places
fewer_fit cap more less held places fewer has = let enough = has.enough in record { enough = omega (arith, fewer, enough); few = has.few }

pub fewer_up : (cap more less : ℕ) (queues : List (List McCopy)) (ends : List LinkEnds) → less ≤ more → AreUp cap more queues ends → AreUp cap less queues ends
fewer_up cap more less queues ends fewer are = record {
  long = are.long;
  each = λ i q e at_q at_e.
      let up = are.each i q e at_q at_e in
      record { ends = up.ends; holds = fewer_fit cap more less _ _ fewer up.holds; tx_new = up.tx_new; rx_new = up.rx_new };
}

-- the links of the first lists are up
pub record UpTo (cap more : ℕ) (lists : List (List McCopy)) (k : ℕ) (r : Rising) : Type 0 where
  pub ends : List LinkEnds
  pub many : length ends ≡ k
  pub risen : RisenTo ends (length lists - k) r
  pub up : (j : ℕ) (q : List McCopy) (e : LinkEnds) → slice_get lists j ≡ Some q → slice_get ends j ≡ Some e → IsUp cap more q e

pub up_none : (cap more n : ℕ) (lists : List (List McCopy)) (r : Rising) → n ≡ length lists → RisenTo [] n r → UpTo cap more lists 0 r
up_none cap more n lists r is risen = record {
  ends = [];
  many = refl;
  risen = subst (λ k. RisenTo [] k r) (let all : n ≡ length lists - 0 = omega (arith, is) in all) risen;
  up = λ j q e at_q at_e. absurd (none-some e at_e);
}

-- there is room for one more
pub may_rise : (cap more : ℕ) (lists : List (List McCopy)) (k : ℕ) (r : Rising) → (u : UpTo cap more lists k r) → k < length lists → RisenTo u.ends (length lists - (k + 1) + 1) r
may_rise cap more lists k r u below = subst (λ n. RisenTo u.ends n r) (let e : length lists - k ≡ length lists - (k + 1) + 1 = omega (arith, below) in e) u.risen

pub up_more : (cap more : ℕ) (lists : List (List McCopy)) (k : ℕ) (r s : Rising) (q : List McCopy) (e : LinkEnds) → (u : UpTo cap more lists k r) → k < length lists →
    q ≡ get_or lists k q → IsUp cap more q e → RisenTo (u.ends ++ e ∷ []) (length lists - (k + 1)) s → UpTo cap more lists (k + 1) s
up_more cap more lists k r s q e u below read up risen = record {
  ends = u.ends ++ e ∷ [];
  many = (let many = u.many in length-append u.ends (e ∷ []) ∙ omega (arith, many));
  risen = risen;
  up = λ j p d at_p at_d.
      pushed (λ j d. slice_get lists j ≡ Some p → IsUp cap more p d) u.ends e (u.ends ++ e ∷ []) refl (λ j d at there. u.up j p d there at)
      (λ here. subst (λ x. IsUp cap more x e) (same_Some q p (ap Some read ∙ (sym (slice_get-get_or lists k q below) ∙ (ap (slice_get lists) (sym u.many) ∙ here)))) up) j d at_d at_p;
}

pub all_up : (cap more : ℕ) (lists : List (List McCopy)) (k : ℕ) (r : Rising) → (u : UpTo cap more lists k r) → k ≡ length lists → AreUp cap more lists u.ends
all_up cap more lists k r u is = record { long = u.many ∙ is; each = u.up }
