-- Vertices that alone have packets unsent, and send them one after the other.
use Rattle.mesh_drain.proofs.Common.{All, Among, Contains, IsAtRest, IsMoved, IsReachedDropless, List, McCopy, NothingWaits, SendAlone, Some, State, [], among_contains, ap, arith, cases_eq}
use Rattle.mesh_drain.proofs.Common.{contains_among, drop, drop-cons, drop_all, get_or, inl, inr, length, refl, same_Some, slice_get, slice_get-get_or, slice_get-set_other, slice_get-set_same}
use Rattle.mesh_drain.proofs.Common.{slice_get_there, slice_set, subst, suc, sym, ℕ, ◌+◌, ◌<◌, ◌∙◌, ◌∷◌, ◌≡◌, ◌≤◌}
use Rattle.mesh_drain.proofs.Frame.{dumped_reached, setup_reached}

-- no vertex but these has packets unsent
abbrev pub Unsent : List (List McCopy) → List ℕ → Type 0
Unsent unsent vertices = (v : ℕ) (k : McCopy) (rest : List McCopy) → slice_get unsent v ≡ Some (k ∷ rest) → Contains vertices v

-- the first of them has sent all
module _ (now after : List (List McCopy)) (vertices : List ℕ) (i d : ℕ) (below : i < length vertices) where
  abbrev v : ℕ
  v = get_or vertices i d

  left : drop i vertices ≡ v ∷ drop (i + 1) vertices
  left = let one : suc i ≡ i + 1 = omega arith in drop-cons vertices i d below ∙ ap (λ n. v ∷ drop n vertices) one

  none_there : v < length now → after ≡ slice_set now v [] → (k : McCopy) (rest : List McCopy) → slice_get after v ≡ Some (k ∷ rest) → ⊥
  none_there within sent k rest there = grind (arith, slice_get_there now v within, slice_get-set_same now v (slice_get_there now v within).0, same_Some)

  behind : (w : ℕ) → (w ≡ v → ⊥) → Among w (v ∷ drop (i + 1) vertices) → Among w (drop (i + 1) vertices)
  behind w other its_2 = grind arith

  pub one_less_sender : v < length now → after ≡ slice_set now v [] → Unsent now (drop i vertices) → Unsent after (drop (i + 1) vertices)
  one_less_sender within sent before w k rest at = elim (cases_eq w v) [
    | inl same ↦ absurd (none_there within sent k rest (ap (slice_get after) (sym same) ∙ at))
    | inr other ↦
        let was = before w k rest (sym (slice_get-set_other now v w [] other) ∙ (ap (λ l. slice_get l w) (sym sent) ∙ at)) in
        among_contains w (drop (i + 1) vertices) (behind w other (contains_among w (v ∷ drop (i + 1) vertices) (subst (λ l. Contains l w) left was)))
  ]

-- none is left
pub none_unsent : (unsent : List (List McCopy)) (vertices : List ℕ) (i : ℕ) → length vertices ≤ i → Unsent unsent (drop i vertices) → All (λ (q : List McCopy). q ≡ []) unsent
none_unsent unsent vertices i all before = λ j d below. by_queue j (get_or unsent j d) (slice_get-get_or unsent j d below)
  where
    by_queue : (j : ℕ) (q : List McCopy) → slice_get unsent j ≡ Some q → q ≡ []
    by_queue j [] at = refl
    by_queue j (k ∷ rest) at = absurd (contains_among j [] (subst (λ l. Contains l j) (drop_all i vertices all) (before j k rest at)))

pub rest_from : (s t : State) (vertices : List ℕ) (i : ℕ) → length vertices ≤ i → NothingWaits t → Unsent t.unsent (drop i vertices) → IsAtRest t
rest_from s t vertices i all quiet before = record { waits = quiet; all_sent = none_unsent t.unsent vertices i all before }

-- a vertex of the list is there, whatever events came
pub sender_there : (s t : State) (vertices : List ℕ) (i d : ℕ) → SendAlone vertices s → IsReachedDropless s t → i < length vertices → get_or vertices i d < length t.setup.spots
sender_there s t vertices i d alone reached below = grind (arith, get_or vertices i d, setup_reached s t reached)

-- what is reached without a copy dropped is moved
pub moved_of_reached : (s t : State) → IsReachedDropless s t → IsMoved s t
moved_of_reached s t reached = record { events = reached.events; is = reached.is; dropless = λ quiet. reached.dropless; no_record = λ quiet. dumped_reached s t reached }
