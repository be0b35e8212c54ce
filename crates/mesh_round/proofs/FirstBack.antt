-- In a mesh of a job at rest the first dumped copy can be put back: behind its output is a queue, and it is empty.
use Rattle.mesh_round.proofs.Common.{All, All-at, All-contains, Among, ByLink, Chip, Contains, Description, DumpRec, Idle, IsAtRest, IsMesh, IsRoutingTree, Label, List, Mark, McCopy, MeetsLedger}
use Rattle.mesh_round.proofs.Common.{NetPlan, Option, Out, Some, State, [], among_contains, ap, arith, behind, dumped, dumped_mark, far_inside, has, has_room, has_room_behind, if◌then◌else◌, inl}
use Rattle.mesh_round.proofs.Common.{is_some, length, live_ends, live_inside, lt-ltb, mark, marks_of, nowhere, opposite_of, put_back_answer, queue_at, queue_at-below, refl, slice_get, slice_get_there}
use Rattle.mesh_round.proofs.Common.{slice_get_within, subst, sym, true, vertex_behind_stands, ℕ, ◌<◌, ◌∙◌, ◌∷◌, ◌≡◌, ◌≢◌}
use Rattle.mesh_core.specs.declared.places.Did.TheVariants.{Moved}
use Rattle.mesh_round.proofs.{Ends.Leads, Ends.leads, Ends.branch_leads_on, Ends.by_link, Ends.to_vertex, Ends.to_none, PutBackParts.back_some}

module _ (s : State) (mesh : IsMesh s) (nets : List NetPlan) (labels : ℕ → Label) (ledger : MeetsLedger s nets labels) where
  abbrev m : Description
  m = s.setup.machine

  -- where a copy was dumped there is a queue behind the output
  led_on : (k : McCopy) (c : Chip) (o : Out) → Contains (marks_of s) (mark k (dumped c o)) → behind s.setup c o ≢ nowhere
  led_on k c o has =
      let on = ledger.on_a_trail (mark k (dumped c o)) has in
      let net : NetPlan = on.0 in
      let tree = All-contains (λ n. IsRoutingTree m n.tree.root n.tree.edges n.targets) nets net ledger.nets_stand.trees on.1 in
      branch_leads_on s.setup net on.3.0 on.3.1 k.hop c o tree.edges_live
      (All-contains (λ n. All (Contains s.setup.spots) n.targets) nets net ledger.nets_stand.targets on.1) on.3.4.is_target on.3.4.is_branch on.3.5

  module _ (rest : IsAtRest s) where
    -- an empty queue has room
    empty_room : (lists : List (List McCopy)) → All (λ q. q ≡ []) lists → (i : ℕ) → i < length lists → has_room s.setup.capacity (slice_get lists i) ≡ true
    empty_room lists empty i below =
        let there = slice_get_there lists i below in
        let none : there.0 ≡ [] = All-at (λ q. q ≡ []) lists i there.0 empty there.1 in
        ap (has_room s.setup.capacity) (there.1 ∙ ap Some none) ∙ lt-ltb 0 s.setup.capacity (omega (arith, mesh.room))

    room_behind : (c : Chip) (o : Out) → behind s.setup c o ≢ nowhere → Leads s.setup c o → has_room_behind s (behind s.setup c o) ≡ true
    room_behind c o on (by_link d e out live far is) =
        let below = queue_at-below m e (ByLink (opposite_of d)) (far_inside m c e d (live_inside m c (live_ends m c d live).2) far) in
        ap (has_room_behind s) is ∙ empty_room s.inputs rest.waits.inputs_empty (queue_at m e (ByLink (opposite_of d))) (omega (arith, below, mesh.input_lists))
    room_behind c o on (to_vertex v dead vertex is) = grind (arith, vertex_behind_stands, empty_room, slice_get_within)
    room_behind c o on (to_none no_vertex is) = absurd (on is)

    by_records : (records : List DumpRec) → s.dumped ≡ records → s.dumped ≢ [] → put_back_answer s ≡ Moved
    by_records [] is some = absurd (some is)
    by_records (r ∷ later) is some =
        let among : Among r s.dumped = subst (λ (l : List DumpRec). Among r l) (sym is) (inl refl) in
        let x : Mark = mark r.copy (dumped r.chip r.out) in
        let has = among_contains x (marks_of s) (dumped_mark s r among) in
        let room = room_behind r.chip r.out (led_on r.copy r.chip r.out has) (leads s.setup r.chip r.out) in
        ap (λ (t : Option State). if is_some t then Moved else Idle) (back_some s r later is room)

    -- Where a record is left, its copy can be put back.
    pub first_goes_back : s.dumped ≢ [] → put_back_answer s ≡ Moved
    first_goes_back some = by_records s.dumped refl some
