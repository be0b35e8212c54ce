-- A split mesh put together again.
use Rattle.mesh_run.proofs.Common.{All, AreEnds, AreUp, Cut, DownTo, FitHomes, HoldUnsent, Home, IsDown, IsMesh, IsRaisedFrom, IsUp, LinkEnds, List, McCopy, MovesOut, RaisedMesh, SameButCopies}
use Rattle.mesh_run.proofs.Common.{SetsQueue, Some, State, [], ap, append-nil, arith, cases_eq, drop-append_seam, get_or, get_or-set_other, get_or-set_same, get_or_default, inl, inr, length}
use Rattle.mesh_run.proofs.Common.{length-append, length-set, refl, same_Some, same_lists, set, slice_get, slice_get-get_or, slice_get-mapped, slice_get_there, slice_get_within, subst, sym}
use Rattle.mesh_run.proofs.Common.{take-append_seam, ℕ, ◌++◌, ◌+◌, ◌<◌, ◌∙◌, ◌≡◌, ◌≢◌, ◌≤◌}
use Rattle.mesh_run.proofs.{AfterDeal.lane_uncut, AfterDeal.links_many, PlanLaws.homes_fit, SplitLaws.same_state, SplitLaws.state_on}

-- ---- what the calls ask for

-- each queue has its homes, and each share its places
pub fits_raised : (m : State) (more : ℕ) (r : RaisedMesh) → IsMesh m → IsRaisedFrom m more r → FitHomes r.parts r.layout.now.homes.items r.shares.items
fits_raised m more r mesh raised = grind (arith, homes_fit)

-- links that are up have their ends
pub all_are_ends : (cap more : ℕ) (queues : List (List McCopy)) (ends : List LinkEnds) → AreUp cap more queues ends → All AreEnds ends
all_are_ends cap more queues ends up = λ i e below.
    let q = slice_get_there queues i (omega (arith, below, up.long)) in
    (up.each i q.0 (get_or ends i e) q.1 (slice_get-get_or ends i e below)).ends

pub no_more_links : (m : State) (more : ℕ) (r : RaisedMesh) → (raised : IsRaisedFrom m more r) → length raised.ends ≤ length r.crossing.items
no_more_links m more r raised = omega (arith, links_many raised, raised.crossing)

-- ---- a link that is down

-- a link that is up and then down gives its queue back
pub same_queue : (cap more : ℕ) (queue after : List McCopy) (e : LinkEnds) → IsUp cap more queue e → IsDown e after → after ≡ queue
same_queue cap more queue after e up down = grind (arith, append-nil queue)

pub down_at : (m : State) (more : ℕ) (r : RaisedMesh) (down : List (List McCopy)) → (raised : IsRaisedFrom m more r) → DownTo raised.ends down → (l : ℕ) (c : Cut) →
    slice_get r.layout.now.cuts.items l ≡ Some c → get_or down l [] ≡ get_or (m.inputs ++ m.cores) c.queue []
down_at m more r down raised are l c at =
    let held : List McCopy = get_or (m.inputs ++ m.cores) c.queue [] in
    let e = slice_get_there raised.ends l (omega (arith, slice_get_within r.layout.now.cuts.items l c at, links_many raised)) in
    same_queue m.setup.capacity more held (get_or down l []) e.0
    (raised.up.each l held e.0 (slice_get-mapped (λ (d : Cut). get_or (m.inputs ++ m.cores) d.queue []) r.layout.now.cuts.items l c at) e.1) (are l e.0 [] e.1)

-- ---- links' queues put back one after the other

-- the queues of the cuts before a place stand in the mesh again
pub record QueuesBackTo (mid : State) (cuts : List Cut) (down : List (List McCopy)) (n : ℕ) (now : State) (left : List (List McCopy)) : Type 0 where
  pub same : SameButCopies mid now
  pub unsent : now.unsent ≡ mid.unsent
  pub done : (l : ℕ) (c : Cut) → l < n → slice_get cuts l ≡ Some c → get_or (now.inputs ++ now.cores) c.queue [] ≡ get_or down l []
  pub others : (q : ℕ) → ((l : ℕ) (c : Cut) → slice_get cuts l ≡ Some c → c.queue ≢ q) → get_or (now.inputs ++ now.cores) q [] ≡ get_or (mid.inputs ++ mid.cores) q []
  pub left_down : (l : ℕ) → n ≤ l → get_or left l [] ≡ get_or down l []
  pub long : length left ≡ length down

pub cuts_none : (mid : State) (cuts : List Cut) (down : List (List McCopy)) → QueuesBackTo mid cuts down 0 mid down
cuts_none mid cuts down = grind (arith, same_state mid)

-- each queue is of one cut at most
abbrev pub AreOfOneCut : List Cut → Type 0
AreOfOneCut cuts = (k l : ℕ) (a b : Cut) → slice_get cuts k ≡ Some a → slice_get cuts l ≡ Some b → a.queue ≡ b.queue → k ≡ l

pub cuts_more : (mid : State) (cuts : List Cut) (down : List (List McCopy)) (n : ℕ) (now next : State) (left new : List (List McCopy)) (c : Cut) (copies gone : List McCopy) →
    AreOfOneCut cuts → QueuesBackTo mid cuts down n now left →
    slice_get cuts n ≡ Some c → c.queue < length now.inputs + length now.cores → copies ≡ get_or left n [] → SetsQueue c.queue copies now next → new ≡ set left n gone →
    QueuesBackTo mid cuts down (n + 1) next new
cuts_more mid cuts down n now next left new c copies gone apart so_far at below read sets is =
    grind (arith, state_on, cases_eq, same_Some, length-append, get_or, get_or-set_same, get_or-set_other, length-set)

pub cut_at : (cuts : List Cut) (n : ℕ) (c : Cut) → n < length cuts → c ≡ get_or cuts n c → slice_get cuts n ≡ Some c
cut_at cuts n c below read = slice_get-get_or cuts n c below ∙ ap Some (sym read)

-- the queue of the next cut is there
pub cut_inside : (m : State) (more n : ℕ) (r : RaisedMesh) (mid now : State) (down left : List (List McCopy)) (c : Cut) → IsMesh m → IsRaisedFrom m more r → SameButCopies r.parts mid →
    QueuesBackTo mid r.layout.now.cuts.items down n now left → slice_get r.layout.now.cuts.items n ≡ Some c → c.queue < length now.inputs + length now.cores
cut_inside m more n r mid now down left c mesh raised same so_far at =
    let below = slice_get_within r.layout.now.homes.items c.queue (record { sender = c.sender; receiver = c.receiver }) (raised.laid.cuts.cut n c at).0 in
    let inputs : length now.inputs ≡ length m.inputs = so_far.same.inputs_long ∙ (same.inputs_long ∙ raised.inputs_long) in
    let cores : length now.cores ≡ length m.cores = so_far.same.cores_long ∙ (same.cores_long ∙ raised.cores_long) in
    omega (arith, below, raised.laid.homes.long, mesh.input_lists, mesh.core_lists, inputs, cores)

-- ---- the whole mesh

-- two lists in a row, of which the first are as long
two_lists : {X : Type 0} (a c b d : List X) → a ++ b ≡ c ++ d → length a ≡ length c → (a ≡ c) × (b ≡ d)
two_lists a c b d e long = grind (arith, take-append_seam a b, take-append_seam c d, drop-append_seam a b, drop-append_seam c d)

equal_states : (s t : State) → s.setup ≡ t.setup → s.unsent ≡ t.unsent → s.inputs ≡ t.inputs → s.hands ≡ t.hands → s.cores ≡ t.cores → s.delivered ≡ t.delivered → s.dumped ≡ t.dumped → s ≡ t
equal_states s t setup unsent inputs hands cores delivered dumped = grind arith

-- all that was split stands again where it stood
pub lowered : (m : State) (more n : ℕ) (r : RaisedMesh) (mid now back : State) (down left : List (List McCopy)) → IsMesh m → (raised : IsRaisedFrom m more r) →
    MovesOut r.layout.now.homes.items r.shares.items r.parts mid → DownTo raised.ends down → QueuesBackTo mid r.layout.now.cuts.items down n now left → length r.layout.now.cuts.items ≤ n →
    back.setup ≡ now.setup → back.unsent ≡ now.unsent → back.inputs ≡ now.inputs → back.hands ≡ now.hands → back.cores ≡ now.cores → back.delivered ≡ r.logs.delivered.items →
    back.dumped ≡ r.logs.dumped.items → back ≡ m
lowered m more n r mid now back down left mesh raised moves are so_far past setup unsent inputs hands cores delivered dumped =
    equal_states back m
    (setup ∙ (so_far.same.setup ∙ (moves.same.setup ∙ raised.setup)))
    (unsent ∙ (so_far.unsent ∙ moves.vertices m.unsent (sym raised.unsent_long) vertices))
    (inputs ∙ halves.0)
    (hands ∙ (so_far.same.hands ∙ (moves.same.hands ∙ raised.hands)))
    (cores ∙ halves.1)
    (delivered ∙ raised.delivered)
    (dumped ∙ raised.dumped)
  where
    inputs_long : length now.inputs ≡ length m.inputs
    inputs_long = so_far.same.inputs_long ∙ (moves.same.inputs_long ∙ raised.inputs_long)

    cores_long : length now.cores ≡ length m.cores
    cores_long = so_far.same.cores_long ∙ (moves.same.cores_long ∙ raised.cores_long)

    vertices : HoldUnsent (length r.parts.inputs) m.unsent r.layout.now.homes.items r.shares.items
    vertices = subst (λ (k : ℕ). HoldUnsent k m.unsent r.layout.now.homes.items r.shares.items) (sym (raised.inputs_long ∙ mesh.input_lists)) raised.unsent

    -- a queue that is in one share is of no cut
    uncut : (q : ℕ) (h : Home) → slice_get r.layout.now.homes.items q ≡ Some h → h.sender ≡ h.receiver → (l : ℕ) (c : Cut) → slice_get r.layout.now.cuts.items l ≡ Some c → c.queue ≢ q
    uncut q h at one l c stands here = lane_uncut raised q h at one c.sender l c stands (sym here, inl refl)

    each : (q : ℕ) (h : Home) → slice_get r.layout.now.homes.items q ≡ Some h → get_or (now.inputs ++ now.cores) q [] ≡ get_or (m.inputs ++ m.cores) q []
    each q h at = elim (cases_eq h.sender h.receiver) [
      | inl one ↦ so_far.others q (uncut q h at one) ∙ moves.lanes (m.inputs ++ m.cores) q h raised.lanes at one
      | inr two ↦
          let cut = raised.laid.cuts.all_cut q h at two in
          let below = slice_get_within r.layout.now.cuts.items cut.0 cut.1 cut.2 in
          let here = so_far.done cut.0 cut.1 (omega (arith, below, past)) cut.2 ∙ down_at m more r down raised are cut.0 cut.1 cut.2 in
          subst (λ (k : ℕ). get_or (now.inputs ++ now.cores) k [] ≡ get_or (m.inputs ++ m.cores) k []) cut.3 here
    ]

    joined : now.inputs ++ now.cores ≡ m.inputs ++ m.cores
    joined =
        let long_now : length (now.inputs ++ now.cores) ≡ length now.inputs + length now.cores = length-append now.inputs now.cores in
        let long_m : length (m.inputs ++ m.cores) ≡ length m.inputs + length m.cores = length-append m.inputs m.cores in
        let a = inputs_long in
        let b = cores_long in
        let homes = raised.laid.homes.long in
        same_lists (now.inputs ++ now.cores) (m.inputs ++ m.cores) (omega (arith, long_now, long_m, a, b)) (λ q d below.
        let h = slice_get_there r.layout.now.homes.items q (omega (arith, below, long_now, a, b, homes, mesh.input_lists, mesh.core_lists)) in
        get_or_default (now.inputs ++ now.cores) q d [] below ∙ (each q h.0 h.1 ∙ sym (get_or_default (m.inputs ++ m.cores) q d [] (omega (arith, below, long_now, long_m, a, b)))))

    halves : (now.inputs ≡ m.inputs) × (now.cores ≡ m.cores)
    halves = two_lists now.inputs m.inputs now.cores m.cores joined inputs_long
