-- The flow of a round on threads, as what was done tells it.
use Rattle.mesh_round.proofs.Common.{Flow, HasNoHand, IsMesh, IsPlayedBy, IsQueueOf, Item, List, Queue, QueueGoes, Setup, Some, State, [], ap, arith, capacity_of, cases_lt, core, core_is_somewhere}
use Rattle.mesh_round.proofs.Common.{deliveries, entered, get_or-append-add, get_or_append_left, get_or_past, held_at, held_in, inl, input, input_is_somewhere, inr, left, length, nowhere, port_count}
use Rattle.mesh_round.proofs.Common.{queue_place_of, records, refl, replicate, same_Some, sent_by, sym, vertex_place, ℕ, ◌*◌, ◌+◌, ◌<◌, ◌∙◌, ◌≡◌}

-- a round on threads from a mesh without a hand
pub record Round : Type 0 where
  pub patience : ℕ
  pub turns : ℕ
  pub items : List Item
  pub m : State
  pub n : State
  pub mesh : IsMesh m
  pub no_hand : HasNoHand m
  pub played : IsPlayedBy patience turns items m n

module _ (r : Round) where
  abbrev u : Setup
  u = r.m.setup

  -- where a queue of the mesh stands
  pub record Place (q : Queue) : Type 0 where
    pub at : ℕ
    pub is : queue_place_of u q ≡ Some at
    pub below : at < port_count u + length u.spots
    pub before : held_in r.m q ≡ held_at r.m at
    pub after : held_in r.n q ≡ held_at r.n at
    pub room : capacity_of u q ≡ u.capacity

  -- a queue is one of the mesh, none of it, or nowhere
  pub data Stands (q : Queue) : Type 0 where
    found : Place q → Stands q
    beyond : (IsQueueOf r.m q → ⊥) → (q ≡ nowhere → ⊥) → held_in r.m q ≡ [] → held_in r.n q ≡ [] → Stands q
    dark : q ≡ nowhere → Stands q

  pub stands : (q : Queue) → Stands q
  stands (input i) =
      grind (arith, cases_lt i (port_count u), get_or_append_left r.m.inputs r.m.cores, get_or_append_left r.n.inputs r.n.cores, get_or_past r.m.inputs i, get_or_past r.n.inputs i, input_is_somewhere)
  stands (core v) =
      let before = r.mesh.core_lists in
      let after = r.played.cores_long in
      let ports = r.mesh.input_lists in
      let ports_after = r.played.inputs_long ∙ ports in
      elim (cases_lt v (length u.spots)) [
        | inl below ↦ found (record {
          at = vertex_place u v;
          is = refl;
          below = omega arith;
          before = sym (ap (λ k. held_at r.m (k + v)) (sym ports) ∙ get_or-append-add r.m.inputs r.m.cores v []);
          after = sym (ap (λ k. held_at r.n (k + v)) (sym ports_after) ∙ get_or-append-add r.n.inputs r.n.cores v []);
          room = refl;
        })
        | inr past ↦
            beyond (λ is. omega (arith, is, past, before)) core_is_somewhere
            (get_or_past r.m.cores v [] (omega (arith, past, before))) (get_or_past r.n.cores v [] (omega (arith, past, before, after)))
      ]
  stands nowhere = dark refl

  -- what is told of a queue's place, and what of nowhere
  abbrev pub by_place : {X : Type 0} → (q : Queue) → (Place q → List X) → List X → Stands q → List X
  by_place q f d (found p) = f p
  by_place q f d (beyond out some before after) = []
  by_place q f d (dark is) = d

  -- where a queue of the mesh is known to stand
  pub told_at : {X : Type 0} (f : ℕ → List X) (q : Queue) (i : ℕ) → queue_place_of u q ≡ Some i → IsQueueOf r.m q → (x : Stands q) → by_place q (λ p. f p.at) [] x ≡ f i
  told_at f q i is there (found p) = ap f (same_Some p.at i (sym p.is ∙ is))
  told_at f q i is there (beyond out some before after) = absurd (out there)
  told_at f q i is there (dark none) = grind arith

  pub goes : (q : Queue) (p : Place q) → QueueGoes u.capacity r.patience r.items p.at (held_at r.m p.at) (held_at r.n p.at)
  goes q p = r.played.queues p.at p.below

  -- Where an output leads nowhere there is never room: as many moments as all dumped copies ask for.
  abbrev pub nowhere_fulls : List (ℕ × ℕ)
  nowhere_fulls = replicate (r.patience * length (records r.items)) (0, 0)

  abbrev pub flow_of : Flow
  flow_of = record {
    entered = λ q. by_place q (λ p. entered p.at r.items) [] (stands q);
    left = λ q. by_place q (λ p. left p.at r.items) [] (stands q);
    fulls = λ q. by_place q (λ p. (goes q p).fulls) nowhere_fulls (stands q);
    sent = λ v. sent_by v r.items;
    delivered = deliveries r.items;
    dumped = records r.items;
  }
