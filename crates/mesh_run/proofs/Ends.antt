-- Which queue is behind which output: each queue has at most one output that leads to it.
use Rattle.mesh_run.proofs.Common.{Bool, ByLink, Chip, Core, Dir, IsInside, IsLiveLink, None, Option, Out, Setup, Some, Spot, ap, arith, behind, behind_link, core, core_is_somewhere, core_queue_of}
use Rattle.mesh_run.proofs.Common.{false, far_back, far_inside, far_of, input, input_is_no_core, input_is_somewhere, is_live_link, live_ends, nowhere, opposite_of, opposite_of-opposite, out_of}
use Rattle.mesh_run.proofs.Common.{queue_at, refl, same_core, same_input, same_link, slice_get, sym, true, vertex_behind, vertex_behind_stands, ℕ, ◌∙◌, ◌≡◌}
use Rattle.spin_base.specs.declared.routes.Out.TheVariants.{Link}
pub use Rattle.mesh_core.proofs.Keeping.{same_queue as one_port}

-- Where an output leads: by a live link to the port at the far end, to a vertex, or nowhere.
pub data Leads (u : Setup) (c : Chip) (o : Out) : Type 0 where
  by_link : (d : Dir) (e : Chip) → o ≡ Link d → IsLiveLink u.machine c d → far_of u.machine c d ≡ Some e →
      behind u c o ≡ input (queue_at u.machine e (ByLink (opposite_of d))) → Leads u c o
  to_vertex : (v : ℕ) → ((d : Dir) → o ≡ Link d → is_live_link u.machine c d ≡ false) → vertex_behind u.spots c o ≡ Some v → behind u c o ≡ core v → Leads u c o
  to_none : vertex_behind u.spots c o ≡ None → behind u c o ≡ nowhere → Leads u c o

vertex_or_none : (u : Setup) (c : Chip) (o : Out) → ((d : Dir) → o ≡ Link d → is_live_link u.machine c d ≡ false) → behind u c o ≡ core_queue_of (vertex_behind u.spots c o) →
    (x : Option ℕ) → vertex_behind u.spots c o ≡ x → Leads u c o
vertex_or_none u c o dead is (Some v) at = to_vertex v dead at (is ∙ ap core_queue_of at)
vertex_or_none u c o dead is None at = to_none at (is ∙ ap core_queue_of at)

live_or_not : (u : Setup) (c : Chip) (d : Dir) (b : Bool) → is_live_link u.machine c d ≡ b → Leads u c (Link d)
live_or_not u c d true live =
    let ends = live_ends u.machine c d live in
    by_link d ends.0 refl live ends.1
    (ap (λ b. behind_link u c d b (far_of u.machine c d)) live ∙ ap (behind_link u c d true) ends.1)
live_or_not u c d false dead =
    vertex_or_none u c (Link d) (λ d' same. ap (is_live_link u.machine c) (sym (same_link d d' same)) ∙ dead)
    (ap (λ b. behind_link u c d b (far_of u.machine c d)) dead) (vertex_behind u.spots c (Link d)) refl

pub leads : (u : Setup) (c : Chip) (o : Out) → Leads u c o
leads u c (Link d) = live_or_not u c d (is_live_link u.machine c d) refl
leads u c (Core p) = vertex_or_none u c (Core p) (λ d same. cc) refl (vertex_behind u.spots c (Core p)) refl

-- Two outputs of chips of the grid that lead to one input queue are one.
pub one_link : (u : Setup) (a c : Chip) (d : Dir) (o : Out) (e : Chip) → IsInside u.machine a → IsInside u.machine c →
    far_of u.machine a d ≡ Some e → behind u c o ≡ input (queue_at u.machine e (ByLink (opposite_of d))) → (a ≡ c) × (Link d ≡ o)
one_link u a c d o e in_a in_c far is = elim (leads u c o) [
  | by_link g h out live far' at ↦
      let in_e = far_inside u.machine a e d in_a far in
      let in_h = far_inside u.machine c h g in_c far' in
      let one = one_port u.machine e h (ByLink (opposite_of d)) (ByLink (opposite_of g)) in_e in_h (same_input _ _ (sym is ∙ at)) in
      let back : opposite_of d ≡ opposite_of g = cc in
      let link : d ≡ g = sym (opposite_of-opposite d) ∙ (ap opposite_of back ∙ opposite_of-opposite g) in
      let to_a : far_of u.machine e (opposite_of d) ≡ Some a = far_back u.machine a e d in_a far in
      let to_c : far_of u.machine h (opposite_of g) ≡ Some c = far_back u.machine c h g in_c far' in
      let same : Some a ≡ Some c = sym to_a ∙ (ap (λ x. far_of u.machine x (opposite_of d)) one.0 ∙ (ap (λ x. far_of u.machine h (opposite_of x)) link ∙ to_c)) in
      (cc, ap Link link ∙ sym out)
  | to_vertex v dead at is_core ↦ absurd (input_is_no_core (sym is ∙ is_core))
  | to_none without none ↦ absurd (input_is_somewhere (sym is ∙ none))
]

-- An output that leads to a vertex is the one of the vertex's spot.
pub one_end : (u : Setup) (c : Chip) (o : Out) (v : ℕ) → behind u c o ≡ core v → (t : Spot) × (slice_get u.spots v ≡ Some t) × (t.chip ≡ c) × (out_of t.core ≡ o)
one_end u c o v is = grind (arith, leads u c o, input_is_no_core, same_core, vertex_behind_stands, core_is_somewhere)
