-- What the calls of a packet under way leave, as they follow on each other.
use Rattle.mesh_drain.proofs.Common.{All, Chip, Collect, Description, Err, Inject, IsAtRest, IsReachedDropless, IsServing, List, Local, McCopy, MeetsSomeLedger, NothingWaits, Ok, OnOk, Out, Queue}
use Rattle.mesh_drain.proofs.Common.{Result, Send, Setup, Some, Spot, State, Take, Waiting, WaitsAlone, [], after_event, after_event_setup, ap, arith, behind, core, drop, drop-cons, eqb-true, false}
use Rattle.mesh_drain.proofs.Common.{get_or, get_or-set_same, get_or_default, get_or_from_slice_get, index_of, input, length, length-append, next_place, nowhere, option_to_list, outs_in, refl, set}
use Rattle.mesh_drain.proofs.Common.{set-get_or, slice_get, slice_get-get_or, slice_get_within, subst, suc, sym, true, weight_in, work, ℕ, ◌++◌, ◌+◌, ◌<◌, ◌==◌, ◌∙◌, ◌∷◌, ◌≡◌, ◌≢◌, ◌≤◌}
use Rattle.mesh_drain.proofs.{Frame.setup_reached, Frame.kept_reached, Moving.after_reached, Moving.there_after, Progress.event_lighter, Packets.inject_step, Packets.inject_unsent}
use Rattle.mesh_drain.proofs.{Packets.packet_done, Steps.kept_after, Steps.written, Steps.set_twice, Steps.take_step, Steps.next, Steps.next_is, Steps.send_link, Steps.send_link_lighter}
use Rattle.mesh_drain.proofs.Steps.{send_core, send_nowhere}

-- what follows where a call went well
pub on_ok : {T E A B : Type 0} (r : Result T E) → OnOk r A → (A → B) → OnOk r B
on_ok (Ok x) here then' = then' here
on_ok (Err e) here then' = tt

-- what follows from two facts
pub on_both : {T E A B C : Type 0} (r : Result T E) → OnOk r A → OnOk r B → (A → B → C) → OnOk r C
on_both (Ok x) a b then' = then' a b
on_both (Err e) a b then' = tt

-- ---- an output is served

module _ (s t : State) (w : List Waiting) (c : Chip) (o : Out) (is : t ≡ after_event s (Send c o)) where
  -- a router's send changes nothing of what is behind its outputs
  here : (q : Queue) → q ≡ behind t.setup c o → behind s.setup c o ≡ q
  here q found = sym (found ∙ (ap (λ (x : State). behind x.setup c o) is ∙ ap (λ (u : Setup). behind u c o) (after_event_setup s (Send c o))))

  -- by a live link: the packet waits at its far end
  pub link_served : (i : ℕ) → input i ≡ behind t.setup c o → (m : Description) → m ≡ t.setup.machine → (w' : List Waiting) → w' ≡ w ++ option_to_list (next_place m c o) →
      (rest : List Out) → IsServing s w c (o ∷ rest) → IsServing t w' c rest × (work t w' ≤ work s w)
  link_served i found m machine w' more rest u =
      let to = here (input i) found in
      let kept : m ≡ s.setup.machine = machine ∙ (ap (λ (x : State). x.setup.machine) is ∙ ap (λ (x : Setup). x.machine) (after_event_setup s (Send c o))) in
      let there : Waiting = next s w c o rest u i to in
      let list : w' ≡ w ++ there ∷ [] = more ∙ ap (λ x. w ++ option_to_list x) (ap (λ n. next_place n c o) kept ∙ next_is s w c o rest u i to) in
      let long : length w' ≡ length w + 1 = ap length list ∙ length-append w (there ∷ []) in
      let same : weight_in t ≡ weight_in (after_event s (Send c o)) = ap weight_in is in (
        subst (λ l. IsServing t l c rest) (sym list) (subst (λ x. IsServing x (w ++ there ∷ []) c rest) (sym is) (send_link s w c o rest u i to)),
        omega (arith, send_link_lighter s w c o rest u i to, same, long),
      )

  -- to a vertex, which takes it
  pub core_served : (v : ℕ) → core v ≡ behind t.setup c o → (end : State) → end ≡ after_event t (Collect v) →
      (rest : List Out) → IsServing s w c (o ∷ rest) → IsServing end w c rest × (work end w ≤ work s w)
  core_served v found end last rest u =
      let whole : end ≡ after_event (after_event s (Send c o)) (Collect v) = last ∙ ap (λ x. after_event x (Collect v)) is in
      let first = event_lighter s (Send c o) u.kept.mesh in
      let then' = event_lighter (after_event s (Send c o)) (Collect v) (kept_after s (Send c o) u.kept).mesh in
      let all : weight_in end ≡ weight_in (after_event (after_event s (Send c o)) (Collect v)) = ap weight_in whole in
      (subst (λ x. IsServing x w c rest) (sym whole) (send_core s w c o rest u v (here (core v) found)), omega (arith, first, then', all))

  -- never nowhere
  pub nowhere_served : nowhere ≡ behind t.setup c o → (rest : List Out) → IsServing s w c (o ∷ rest) → ⊥
  nowhere_served found rest u = send_nowhere s w c o rest u (here nowhere found)

-- ---- a packet goes on

pub taken_serving : (s t : State) (w : List Waiting) (a : Waiting) (os items : List Out) → t ≡ after_event s (Take a.chip a.port) → WaitsAlone s (w ++ a ∷ []) →
    os ≡ outs_in (slice_get t.hands (index_of t.setup.machine a.chip)) → items ≡ os → IsServing t w a.chip items
taken_serving s t w a os items is u held list = grind (arith, take_step s w a u)

pub taken_less : (s t : State) (w v : List Waiting) (a : Waiting) → t ≡ after_event s (Take a.chip a.port) → WaitsAlone s (v ++ a ∷ []) → work t w ≤ work s w
taken_less s t w v a is u = grind (arith, event_lighter s (Take a.chip a.port) u.kept.mesh)

pub outs_left : (os : List Out) (i : ℕ) (d : Out) → i < length os → drop i os ≡ get_or os i d ∷ drop (i + 1) os
outs_left os i d below = grind (arith, drop-cons os i d below, get_or os i d)

-- ---- a packet begins

has_first : (q : List McCopy) → q ≢ [] → (k : McCopy) × (rest : List McCopy) × (q ≡ k ∷ rest)
has_first [] some = absurd (some refl)
has_first (k ∷ rest) some = (k, rest, refl)

pub begins : (s t : State) (v : ℕ) (w items : List Waiting) (spots : List Spot) (d : Spot) → MeetsSomeLedger s → NothingWaits s → v < length s.setup.spots → slice_get s.unsent v ≢ Some [] →
    t ≡ after_event s (Inject v) → spots ≡ s.setup.spots → w ≡ [] → items ≡ w ++ record { chip = (get_or spots v d).chip; port = Local } ∷ [] → WaitsAlone t items
begins s t v w items spots d kept quiet below some is list none more =
    let spot : Spot = get_or s.setup.spots v d in
    let stands : slice_get s.setup.spots v ≡ Some spot = slice_get-get_or s.setup.spots v d below in
    let there = slice_get-get_or s.unsent v [] (omega (arith, below, kept.mesh.unsent_lists)) in
    let first = has_first (get_or s.unsent v []) (λ empty. some (there ∙ ap Some empty)) in
    let at : List Spot → Waiting = λ l. record { chip = (get_or l v d).chip; port = Local } in
    let same : items ≡ at s.setup.spots ∷ [] = more ∙ (ap (λ l. l ++ at spots ∷ []) none ∙ ap (λ l. at l ∷ []) list) in
    subst (WaitsAlone t) (sym same)
    (subst (λ x. WaitsAlone x (at s.setup.spots ∷ [])) (sym is) (inject_step s kept quiet v spot first.0 first.1 stands (there ∙ ap Some first.2)))

pub begins_unsent : (s t : State) (v : ℕ) → MeetsSomeLedger s → NothingWaits s → v < length s.setup.spots → t ≡ after_event s (Inject v) →
    (k : McCopy) (rest : List McCopy) → slice_get s.unsent v ≡ Some (k ∷ rest) → t.unsent ≡ set s.unsent v rest
begins_unsent s t v kept quiet below is k rest first =
    let d : Spot = record { chip = record { x = 0; y = 0 }; core = 0 } in
    ap (λ (x : State). x.unsent) is ∙ inject_unsent s kept quiet v (get_or s.setup.spots v d) k rest (slice_get-get_or s.setup.spots v d below) first

pub ends_quiet : (s : State) (w : List Waiting) → WaitsAlone s w → w ≡ [] → NothingWaits s
ends_quiet s w u none = packet_done s (subst (WaitsAlone s) none u)

-- ---- a vertex sends all

pub one_less : (before now after : List (List McCopy)) (v : ℕ) (q items : List McCopy) → now ≡ set before v q → slice_get now v ≡ Some items → items ≢ [] →
    ((k : McCopy) (rest : List McCopy) → slice_get now v ≡ Some (k ∷ rest) → after ≡ set now v rest) →
    ((r : List McCopy) × (after ≡ set before v r)) × (length (get_or after v []) < length (get_or now v []))
one_less before now after v q items is there some next' =
    let first = has_first items some in
    let full : slice_get now v ≡ Some (first.0 ∷ first.1) = there ∙ ap Some first.2 in
    let then' = next' first.0 first.1 full in
    let within = slice_get_within now v (first.0 ∷ first.1) full in
    let new : length (get_or after v []) ≡ length first.1 = ap (λ l. length (get_or l v [])) then' ∙ ap length (get_or-set_same now v first.1 [] within) in
    let old : length (get_or now v []) ≡ suc (length first.1) = ap length (get_or_from_slice_get now v (first.0 ∷ first.1) [] full) in
    ((first.1, then' ∙ (ap (λ l. set l v first.1) is ∙ set_twice before v q first.1)), omega (arith, new, old))

pub all_sent_there : (before now : List (List McCopy)) (v : ℕ) (q items : List McCopy) → v < length before → now ≡ set before v q → slice_get now v ≡ Some items → items ≡ [] → now ≡ set before v []
all_sent_there before now v q items below is there none =
    let here : get_or now v [] ≡ items = get_or_from_slice_get now v items [] there in
    let written' : get_or now v [] ≡ q = ap (λ l. get_or l v []) is ∙ get_or-set_same before v q [] below in
    is ∙ ap (set before v) (sym written' ∙ (here ∙ none))

-- ---- all vertices

pub one_vertex_more : (now after : List (List McCopy)) (v : ℕ) → v < length now → after ≡ set now v [] → ((i : ℕ) → i < v → get_or now i [] ≡ []) →
    (i : ℕ) → i < v + 1 → get_or after i [] ≡ []
one_vertex_more now after v within is before i below =
    ap (λ l. get_or l i []) is ∙ written (λ q. q ≡ []) now v i [] within (λ same. refl) (λ other. before i (less other))
  where
    less : v ≢ i → i < v
    less other = omega (arith, below, other)

pub all_vertices : (s : State) (n : ℕ) → MeetsSomeLedger s → length s.setup.spots ≤ n → ((i : ℕ) → i < n → get_or s.unsent i [] ≡ []) → All (λ (q : List McCopy). q ≡ []) s.unsent
all_vertices s n kept all before = grind (arith, get_or_default)

-- one place less waits, and no more is to be done
pub popped_smaller : (s t : State) (w left after : List Waiting) (a : Waiting) → w ≡ left ++ a ∷ [] → work t after ≤ work s left → work t after < work s w
popped_smaller s t w left after a popped less = grind (arith, length-append left (a ∷ []))

pub is_none : (q : List McCopy) → true ≡ (length q == 0) → q ≡ []
is_none [] e = refl
is_none (k ∷ q) e = let none = eqb-true (length (k ∷ q)) 0 (sym e) in absurd (omega (arith, none))

pub is_some' : (q : List McCopy) → false ≡ (length q == 0) → q ≢ []
is_some' q e = grind arith

pub as_before : (s : State) (v : ℕ) → (left : List McCopy) × (s.unsent ≡ set s.unsent v left)
as_before s v = (get_or s.unsent v [], sym (set-get_or s.unsent v []))

pub there_still : (s t : State) (v : ℕ) → IsReachedDropless s t → v < length s.setup.spots → v < length t.setup.spots
there_still s t v reached below = there_after s t v (after_reached s t reached) below

pub was_there : (s : State) (v : ℕ) → MeetsSomeLedger s → v < length s.setup.spots → v < length s.unsent
was_there s v kept below = let long = kept.mesh.unsent_lists in omega (arith, below, long)

-- all is sent, and nothing waits
pub at_rest : (s t : State) (n : ℕ) → MeetsSomeLedger s → IsReachedDropless s t → NothingWaits t → length s.setup.spots ≤ n → ((i : ℕ) → i < n → get_or t.unsent i [] ≡ []) → IsAtRest t
at_rest s t n kept reached quiet all before = grind (arith, kept_reached s t kept reached, setup_reached s t reached, all_vertices)
