-- The mesh to which a whole round leads, and that it was played to it.
use Rattle.mesh_run.proofs.Common.{All, All-head, All-tail, IsDoneOn, IsPlayedBy, Item, List, McCopy, Setup, State, [], ap, arith, cases_lt, deliveries, get_or, get_or-append_right}
use Rattle.mesh_run.proofs.Common.{get_or_append_left, get_or_past, inl, inr, length, port_count, records, refl, sent, sent_by, sent_in, slice_get_within, slice_index_or, subst, sym, ℕ, ◌++◌, ◌+◌}
use Rattle.mesh_run.proofs.Common.{◌-◌, ◌<◌, ◌∙◌, ◌∷◌, ◌≡◌, ◌≤◌}
use Rattle.mesh_run.proofs.{Apart.elsewhere, EachQueue.AfterRound, EachQueue.queue_after, EachVertex.VertexAfter, EachVertex.vertex_after, Together.joined, Together.listed, WholeRound.Whole}
use Rattle.mesh_run.proofs.WholeRound.{parts, whole_turns}

-- no vertex that is not there sent a copy
none_sent_of : (u : Setup) (v : ℕ) → length u.spots ≤ v → (x : Item) → IsDoneOn u x → sent_in v x ≡ []
none_sent_of u v past x done = grind (arith, elsewhere, slice_get_within)

none_sent : (u : Setup) (v : ℕ) → length u.spots ≤ v → (items : List Item) → All (IsDoneOn u) items → sent_by v items ≡ []
none_sent u v past [] done = refl
none_sent u v past (x ∷ items) done =
    ap (λ l. l ++ sent_by v items) (none_sent_of u v past x (All-head (IsDoneOn u) x items done)) ∙ none_sent u v past items (All-tail (IsDoneOn u) x items done)

module _ (w : Whole) where
  pub after_inputs : (xs : List (List McCopy)) × (length xs ≡ port_count w.m.setup) × ((q : ℕ) (d : List McCopy) → q < port_count w.m.setup → AfterRound w q (get_or xs q d))
  after_inputs = listed (port_count w.m.setup) (λ q x. AfterRound w q x) (λ q below. queue_after w q (let long = w.roomy.raised.laid.homes.long in omega (arith, below, long)))

  pub after_cores : (xs : List (List McCopy)) × (length xs ≡ length w.m.setup.spots)
      × ((v : ℕ) (d : List McCopy) → v < length w.m.setup.spots → AfterRound w (port_count w.m.setup + v) (get_or xs v d))
  after_cores = listed (length w.m.setup.spots) (λ v x. AfterRound w (port_count w.m.setup + v) x)
      (λ v below. queue_after w (port_count w.m.setup + v) (let long = w.roomy.raised.laid.homes.long in omega (arith, below, long)))

  pub after_unsent : (xs : List (List McCopy)) × (length xs ≡ length w.m.setup.spots) × ((v : ℕ) (d : List McCopy) → v < length w.m.setup.spots → VertexAfter w v (get_or xs v d))
  after_unsent = listed (length w.m.setup.spots) (λ v x. VertexAfter w v x) (vertex_after w)

  abbrev pub mesh : State
  mesh = record w.m {
    inputs = after_inputs.0;
    cores = after_cores.0;
    unsent = after_unsent.0;
    delivered = w.m.delivered ++ deliveries (joined (parts w));
    dumped = w.m.dumped ++ records (joined (parts w));
  }

  -- each queue of that mesh is what the round makes of it
  pub queue_there : (q : ℕ) → q < port_count w.m.setup + length w.m.setup.spots → AfterRound w q (get_or (after_inputs.0 ++ after_cores.0) q [])
  queue_there q below = elim (cases_lt q (port_count w.m.setup)) [
    | inl less ↦ subst (λ (x : List McCopy). AfterRound w q x) (sym (get_or_append_left after_inputs.0 after_cores.0 [] q (let long = after_inputs.1 in omega (arith, less, long))))
        (after_inputs.2 q [] less)
    | inr more ↦
        let long = after_inputs.1 in
        let v = q - length after_inputs.0 in
        let is : port_count w.m.setup + v ≡ q = omega (arith, more, long) in
        subst (λ n. AfterRound w n (get_or (after_inputs.0 ++ after_cores.0) q [])) is
        (subst (λ (x : List McCopy). AfterRound w (port_count w.m.setup + v) x) (sym (get_or-append_right after_inputs.0 after_cores.0 (length after_inputs.0) q [] refl (omega (arith, more, long))))
        (after_cores.2 v [] (omega (arith, more, below, long))))
  ]

  unsent_there : (v : ℕ) → slice_index_or w.m.unsent v [] ≡ sent_by v (joined (parts w)) ++ get_or after_unsent.0 v []
  unsent_there v = elim (cases_lt v (length w.m.setup.spots)) [
    | inl less ↦ (after_unsent.2 v [] less).sent
    | inr more ↦
        let before = w.is_mesh.unsent_lists in
        get_or_past w.m.unsent v [] (omega (arith, more, before)) ∙ sym (ap (λ (l : List McCopy). l ++ get_or after_unsent.0 v []) (none_sent w.m.setup v more (joined (parts w)) (whole_turns w).each)
        ∙ get_or_past after_unsent.0 v [] (omega (arith, more, after_unsent.1)))
  ]

  pub whole_played : IsPlayedBy w.patience w.turns (joined (parts w)) w.m mesh
  whole_played = record {
    setup = refl;
    hands = refl;
    inputs_long = after_inputs.1 ∙ sym w.is_mesh.input_lists;
    cores_long = after_cores.1 ∙ sym w.is_mesh.core_lists;
    unsent_long = after_unsent.1 ∙ sym w.is_mesh.unsent_lists;
    turns_are = whole_turns w;
    queues = λ q below. (queue_there q below).goes;
    unsent = unsent_there;
    delivered = refl;
    dumped = refl;
  }
