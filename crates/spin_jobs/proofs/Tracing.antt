-- Events one by one, and what a trace keeps.
use Rattle.spin_jobs.proofs.Common.{Did, Event, IsMesh, IsPlanOfJob, IsRunOf, Job, List, MeetsJobLedger, Plan, State, [], after_event, after_events, answer, answers_of, ap, events_keep_job, length}
use Rattle.spin_jobs.proofs.Common.{opened_of, refl, rules, slice_get-get_or, slice_index_or, sym, take, take_more_at, ℕ, ◌++◌, ◌+◌, ◌<◌, ◌∙◌, ◌∷◌, ◌≡◌}
use Rattle.spin_jobs.proofs.Opening.{opened_keeps}

after_one_more : (s : State) (es : List Event) (e : Event) → after_events s (es ++ e ∷ []) ≡ after_event (after_events s es) e
after_one_more s [] e = refl
after_one_more s (f ∷ es) e = after_one_more (after_event s f) es e

answers_one_more : (s : State) (es : List Event) (e : Event) → answers_of s (es ++ e ∷ []) ≡ answers_of s es ++ answer (after_events s es) e ∷ []
answers_one_more s [] e = refl
answers_one_more s (f ∷ es) e = ap (λ l. answer s f ∷ l) (answers_one_more (after_event s f) es e)

-- the mesh and the answers after the events so far, and after the next
pub one_event_more : (s now next : State) (did more : List Did) (es : List Event) (i : ℕ) (d : Event) (answered : Did) → i < length es →
    (now ≡ after_events s (take i es)) × (did ≡ answers_of s (take i es)) × (now.setup ≡ s.setup) →
    next ≡ after_event now (slice_index_or es i d) → answered ≡ answer now (slice_index_or es i d) → next.setup ≡ now.setup → more ≡ did ++ answered ∷ [] →
    (next ≡ after_events s (take (i + 1) es)) × (more ≡ answers_of s (take (i + 1) es)) × (next.setup ≡ s.setup)
one_event_more s now next did more es i d answered below so_far moved told setup pushed =
    let e : Event = slice_index_or es i d in
    let taken : take (i + 1) es ≡ take i es ++ e ∷ [] = take_more_at es i e (slice_get-get_or es i d below) in (
      moved ∙ (ap (λ m. after_event m e) so_far.0 ∙ (sym (after_one_more s (take i es) e) ∙ sym (ap (after_events s) taken))),
      pushed
          ∙ (ap (λ l. l ++ answered ∷ []) so_far.1
          ∙ (ap (λ a. answers_of s (take i es) ++ a ∷ []) told
          ∙ (ap (λ m. answers_of s (take i es) ++ answer m e ∷ []) so_far.0
          ∙ (sym (answers_one_more s (take i es) e) ∙ sym (ap (answers_of s) taken))))),
      setup ∙ so_far.2,
    )

-- after each list of events the opened mesh of a planned job keeps the job's ledger
pub traced_ledger : (job : Job) (plan : Plan) → IsRunOf job.graph job.run → IsPlanOfJob job plan → IsMesh (opened_of job plan) → (es : List Event) →
    MeetsJobLedger (after_events (opened_of job plan) es) plan.nets job.run.packets
traced_ledger job plan run planned mesh es = search (rules, events_keep_job, opened_keeps)
