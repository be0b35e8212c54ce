-- Places of queues: behind an output of a chip stands a queue that no other output leads to, and that no chip injects into.
use Rattle.mesh_run.proofs.Common.{Among, ByLink, Chip, Dir, IsInside, IsLiveLink, IsOutput, List, Local, None, Option, Out, Port, Setup, Some, [], ap, arith, behind, chip_eq, chip_eq_same, core}
use Rattle.mesh_run.proofs.Common.{false, far_inside, far_of, far_parts, inl, input, length, live_back, opposite_of, out_of, out_of-has_bit, place_behind, queue_at, queue_at-below, queue_place_of}
use Rattle.mesh_run.proofs.Common.{refl, same_Some, slice_get_within, subst, sym, true, vertex_behind_stands, vertex_place, where_same, where_there, ℕ, ◌<◌, ◌∙◌, ◌∷◌, ◌≡◌}
use Rattle.spin_base.specs.declared.routes.Out.TheVariants.{Link}
pub use Rattle.chip_node.proofs.Placing.{where_here as here, where_other as elsewhere}
use Rattle.mesh_run.proofs.Ends.{leads, by_link, to_vertex, to_none, one_end, one_link, one_port}

-- ---- where two places are the same

pub first_here : {X : Type 0} (p q : ℕ) (x : X) → p ≡ q → Among x (where_same p q (x ∷ []))
first_here {X} p q x same = subst (λ (l : List X). Among x l) (sym (here p q (x ∷ []) same)) (inl refl)

pub there : {X : Type 0} (place : Option ℕ) (q : ℕ) (xs : List X) → place ≡ Some q → where_there place q xs ≡ xs
there place q xs is = ap (λ p. where_there p q xs) is ∙ here q q xs refl

pub not_there : {X : Type 0} (place : Option ℕ) (q : ℕ) (xs : List X) → (place ≡ Some q → ⊥) → where_there place q xs ≡ []
not_there None q xs other = refl
not_there (Some p) q xs other = elsewhere p q xs (λ e. other (ap Some e))

-- ---- behind outputs

-- a port's queue is no vertex's
pub port_is_no_vertex : (u : Setup) (c : Chip) (port : Port) (v : ℕ) → IsInside u.machine c → queue_at u.machine c port ≡ vertex_place u v → ⊥
port_is_no_vertex u c port v inside same = let below = queue_at-below u.machine c port inside in omega (arith, below, same)

module _ (u : Setup) where
  -- the queue at a place behind an output is that of a port at the far end of a live link, or of a vertex
  pub data Behind (c : Chip) (o : Out) (q : ℕ) : Type 0 where
    to_port : (d : Dir) (e : Chip) → o ≡ Link d → IsLiveLink u.machine c d → far_of u.machine c d ≡ Some e → IsInside u.machine e →
        behind u c o ≡ input q → q ≡ queue_at u.machine e (ByLink (opposite_of d)) → Behind c o q
    to_core : (v : ℕ) → v < length u.spots → behind u c o ≡ core v → q ≡ vertex_place u v → Behind c o q

  pub behind_at : (c : Chip) (o : Out) (q : ℕ) → IsInside u.machine c → place_behind u c o ≡ Some q → Behind c o q
  behind_at c o q inside is = elim (leads u c o) [
    | by_link d e out live far at ↦
        let place : q ≡ queue_at u.machine e (ByLink (opposite_of d)) = sym (same_Some (queue_at u.machine e (ByLink (opposite_of d))) q (sym (ap (queue_place_of u) at) ∙ is)) in
        to_port d e out live far (far_inside u.machine c e d inside far) (at ∙ ap input (sym place)) place
    | to_vertex v dead stands at ↦
        let place : q ≡ vertex_place u v = sym (same_Some (vertex_place u v) q (sym (ap (queue_place_of u) at) ∙ is)) in
        let spot = vertex_behind_stands u.spots c o v stands in
        to_core v (slice_get_within u.spots v spot.0 spot.1) at place
    | to_none none at ↦ absurd (nothing (sym (ap (queue_place_of u) at) ∙ is))
  ]
    where
      nothing : {n : ℕ} → None ≡ Some n → ⊥
      nothing same = cc

  -- an output that leads somewhere has a bit
  pub leads_bit : (c : Chip) (o : Out) (q : ℕ) → IsInside u.machine c → place_behind u c o ≡ Some q → IsOutput o
  leads_bit c o q inside is = grind (arith, behind_at c o q inside is, one_end, out_of-has_bit)

  -- a place behind an output is one of all places
  pub place_below : (c : Chip) (o : Out) (q : ℕ) → IsInside u.machine c → place_behind u c o ≡ Some q → q < vertex_place u (length u.spots)
  place_below c o q inside is = elim (behind_at c o q inside is) [
    | to_port d e out live far in_e at place ↦ let below = queue_at-below u.machine e (ByLink (opposite_of d)) in_e in omega (arith, below, place)
    | to_core v below at place ↦ omega (arith, below, place)
  ]

  -- two outputs of chips of the grid that lead to one queue are one
  pub one_output : (a c : Chip) (p o : Out) (q : ℕ) → IsInside u.machine a → IsInside u.machine c → place_behind u a p ≡ Some q → place_behind u c o ≡ Some q → (a ≡ c) × (p ≡ o)
  one_output a c p o q in_a in_c first second = elim (behind_at a p q in_a first) [
    | to_port d e out live far in_e at place ↦ elim (behind_at c o q in_c second) [
      | to_port d' e' out' live' far' in_e' at' place' ↦
          let one = one_link u a c d o e in_a in_c far (at' ∙ ap input place) in
          (one.0, out ∙ one.1)
      | to_core v below at' place' ↦ absurd (port_is_no_vertex u e (ByLink (opposite_of d)) v in_e (sym place ∙ place'))
    ]
    | to_core v below at place ↦ elim (behind_at c o q in_c second) [
      | to_port d e out live far in_e at' place' ↦ absurd (port_is_no_vertex u e (ByLink (opposite_of d)) v in_e (sym place' ∙ place))
      | to_core w below' at' place' ↦
          let same : v ≡ w = omega (arith, place, place') in
          let one = one_end u a p v at in
          let other = one_end u c o v (at' ∙ ap core (sym same)) in
          let spots = same_Some one.0 other.0 (sym one.1 ∙ other.1) in
          (sym one.2 ∙ (ap (λ s. s.chip) spots ∙ other.2), sym one.3 ∙ (ap (λ s. out_of s.core) spots ∙ other.3))
    ]
  ]

  -- an output that leads to a port's queue is of a live link
  pub by_wire : (e c : Chip) (o : Out) (port : Port) → IsInside u.machine e → IsInside u.machine c → place_behind u e o ≡ Some (queue_at u.machine c port) →
      (d : Dir) × (port ≡ ByLink d) × IsLiveLink u.machine c d
  by_wire e c o port in_e in_c is = elim (behind_at e o (queue_at u.machine c port) in_e is) [
    | to_port d far out live leads_to in_far at place ↦
        let one = one_port u.machine c far port (ByLink (opposite_of d)) in_c in_far place in
        (opposite_of d, one.1, subst (λ (x : Chip). IsLiveLink u.machine x (opposite_of d)) (sym one.0) (live_back u.machine e far d leads_to live))
    | to_core v below at place ↦ absurd (port_is_no_vertex u c port v in_c place)
  ]

  -- no output of a chip leads to a port of its own
  pub not_to_itself : (c : Chip) (o : Out) (port : Port) → IsInside u.machine c → place_behind u c o ≡ Some (queue_at u.machine c port) → ⊥
  not_to_itself c o port inside is = elim (behind_at c o (queue_at u.machine c port) inside is) [
    | to_port d far out live leads_to in_far at place ↦
        let one = one_port u.machine c far port (ByLink (opposite_of d)) inside in_far place in
        let self : chip_eq c far ≡ true = subst (λ (x : Chip). chip_eq c x ≡ true) one.0 (chip_eq_same c) in
        absurd (differ (sym self ∙ (far_parts u.machine c far d leads_to).2))
    | to_core v below at place ↦ absurd (port_is_no_vertex u c port v inside place)
  ]
    where
      differ : true ≡ false → ⊥
      differ same = cc

  pub no_injection : (e c : Chip) (o : Out) → IsInside u.machine e → IsInside u.machine c → place_behind u e o ≡ Some (queue_at u.machine c Local) → ⊥
  no_injection e c o in_e in_c is = not_local (by_wire e c o Local in_e in_c is).0 (by_wire e c o Local in_e in_c is).1
    where
      not_local : (d : Dir) → Local ≡ ByLink d → ⊥
      not_local d same = cc
