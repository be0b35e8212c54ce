-- The report of a mesh at rest.
use Rattle.spin_jobs.proofs.Common.{All, All-at, AreAsExpected, Block, Chip, ChipTable, Delivery, Did, DumpRec, Hand, HasKeptPasses, HasLostNothing, HasReinjected, HasRunOut, IfOk, Image, IsAtRest}
use Rattle.spin_jobs.proofs.Common.{IsDeliveredOf, IsMesh, IsMeshOf, IsPermutation, IsReachedSoon, IsReportOf, IsReported, IsRoomy, IsRunKept, Job, JobWithPlan, List, McCopy, MeetsJobLedger, NetPlan}
use Rattle.spin_jobs.proofs.Common.{None, Option, Packet, Parts, Place, Plan, Report, Reports, Result, Setup, Some, Spot, State, TellsRun, WordOutput, [], ap, arith, chip_waits, codes, copies_at}
use Rattle.spin_jobs.proofs.Common.{decimal, delivered_as_expected, dump_line, event_lines, expected_deliveries, flat_map, full_report, gathered, got_line, got_lines, held_waits, in_order_is_list}
use Rattle.spin_jobs.proofs.Common.{index_of, keys_line, length, length-map, length_permutation, line, map, min, named_delivery, nil_from_length, none_after, parts_with, place_line, placed_of, refl}
use Rattle.spin_jobs.proofs.Common.{report_text, slice_get, subst, sum_none, sym, table_lines, tables_image, unsent_total, wait_line, waits_at, waits_of, without_hop, ℕ, ◌++◌, ◌+◌, ◌-◌, ◌^◌, ◌∙◌, ◌∷◌}
use Rattle.spin_jobs.proofs.Common.{◌≡◌}
use Rattle.spin_base.specs.declared.wants.Memory.{Memory}

-- ---- lists

-- what has no item in another order has none
none_in_order : {X : Type 0} (xs ys : List X) → IsPermutation xs ys → xs ≡ [] → ys ≡ []
none_in_order xs ys same none = nil_from_length ys (length_permutation xs ys same ∙ ap length none)

flat_map_none : {X Y : Type 0} (f : X → List Y) → ((x : X) → f x ≡ []) → (xs : List X) → flat_map f xs ≡ []
flat_map_none f none [] = refl
flat_map_none f none (x ∷ xs) = ap (λ l. l ++ flat_map f xs) (none x) ∙ flat_map_none f none xs

gathered_none : {X Y : Type 0} (f : ℕ → X → List Y) → ((i : ℕ) (x : X) → f i x ≡ []) → (i : ℕ) (xs : List X) → gathered f i xs ≡ []
gathered_none f none i [] = refl
gathered_none f none i (x ∷ xs) = ap (λ l. l ++ gathered f (i + 1) xs) (none i x) ∙ gathered_none f none (i + 1) xs

-- ---- nothing waits, and nothing is unsent

no_copies : (qs : List (List McCopy)) → All (λ q. q ≡ []) qs → (i : ℕ) → copies_at (slice_get qs i) ≡ []
no_copies qs empty i = at_place (slice_get qs i) refl
  where
    at_place : (o : Option (List McCopy)) → slice_get qs i ≡ o → copies_at o ≡ []
    at_place (Some q) is = All-at (λ x. x ≡ []) qs i q empty is
    at_place None is = refl

no_hand : (c : Chip) (hands : List (Option Hand)) → All (λ h. h ≡ None) hands → (i : ℕ) → held_waits c (slice_get hands i) ≡ []
no_hand c hands empty i = at_place (slice_get hands i) refl
  where
    at_place : (o : Option (Option Hand)) → slice_get hands i ≡ o → held_waits c o ≡ []
    at_place (Some h) is = ap (λ x. held_waits c (Some x)) (All-at (λ x. x ≡ None) hands i h empty is)
    at_place None is = refl

module _ (s : State) (rest : IsAtRest s) where
  none_at : (place : Place) (qs : List (List McCopy)) → All (λ q. q ≡ []) qs → (i : ℕ) → waits_at place (copies_at (slice_get qs i)) ≡ []
  none_at place qs empty i = ap (waits_at place) (no_copies qs empty i)

  on_chip : (c : Chip) → chip_waits s c ≡ []
  on_chip c = grind (arith, no_hand c s.hands rest.waits.hands_empty (index_of s.setup.machine c), flat_map_none, none_at)

  pub none_waits : waits_of s ≡ []
  none_waits = grind (arith, flat_map_none, on_chip, gathered_none, none_at)

  pub none_unsent : min (unsent_total s) (2 ^ 32 - 1) ≡ 0
  none_unsent = grind (arith, sum_none, no_copies)

-- ---- as many deliveries as are asked for

as_many : (s : State) (nets : List NetPlan) (packets : List Packet) (placed : List (List ℕ × Spot)) (delivered : List (List ℕ × McCopy)) → IsMesh s → MeetsJobLedger s nets packets →
    AreAsExpected s nets packets → IsDeliveredOf placed s.delivered delivered → length delivered ≡ length (map (named_delivery placed) (expected_deliveries s.setup.spots nets packets))
as_many s nets packets placed delivered mesh job expected is =
    let all : List Delivery = expected_deliveries s.setup.spots nets packets in
    ap length is.named_each
    ∙ (length-map is.sorted (named_delivery placed)
    ∙ (sym (length-map is.sorted without_hop)
    ∙ (ap length (in_order_is_list s nets packets mesh job.ledger.ledger.nets_stand expected is.sorted is.in_order.same_items (none_after placed s.delivered delivered is))
    ∙ sym (length-map all (named_delivery placed)))))

-- a report tells as many deliveries as there are
pub told_count : (job : Job) (plan : Plan) (mesh : State) (did : List Did) (report : Report) → IsReported job plan mesh did report → length report.delivered ≡ length mesh.delivered
told_count job plan mesh did report reported = grind (arith, length-map, length_permutation)

-- and, where there is no dump record, none
pub told_none : (job : Job) (plan : Plan) (mesh : State) (did : List Did) (report : Report) → mesh.dumped ≡ [] → IsReported job plan mesh did report → length report.dumped ≡ 0
told_none job plan mesh did report none reported = length_permutation mesh.dumped report.dumped reported.dumped.same_items ∙ ap length none

-- ---- the text

-- the text of a report, by the lines of its deliveries and how many they are
unfoldable text_with : List (List ℕ × Spot) → List (List ℕ × Block) → List ChipTable → List Did → List ℕ → ℕ → List DumpRec → List (ℕ × Place) → ℕ → List ℕ
text_with placed keys tables did got many dumped waiting unsent =
    flat_map place_line placed ++ flat_map keys_line keys ++ flat_map table_lines tables ++ event_lines did ++ got ++ flat_map dump_line dumped
    ++ flat_map wait_line waiting
    ++ line (codes "end" ∷ codes "delivered" ∷ decimal many ∷ codes "dumped" ∷ decimal (length dumped) ∷ codes "waiting" ∷ decimal (length waiting) ∷ codes "unsent" ∷ decimal unsent ∷ [])

text_of : (r : Report) → report_text r ≡ text_with r.placed r.keys r.tables r.did (flat_map got_line r.delivered) (length r.delivered) r.dumped r.waiting r.unsent
unfolding text_with
text_of r = refl

-- the text of a report tells of its deliveries the lines and how many they are
same_text : (r t : Report) → r.placed ≡ t.placed → r.keys ≡ t.keys → r.tables ≡ t.tables → r.did ≡ t.did → flat_map got_line r.delivered ≡ flat_map got_line t.delivered →
    length r.delivered ≡ length t.delivered → r.dumped ≡ t.dumped → r.waiting ≡ t.waiting → r.unsent ≡ t.unsent → report_text r ≡ report_text t
same_text r t placed keys tables did got many dumped waiting unsent = grind (arith, text_of r, text_of t)

-- ---- what is told

-- what is known of a mesh at rest, and of its report, which tells no events
pub record IsTold (job : Job) (plan : Plan) (mesh : State) (report : Report) : Type 0 where
  pub kept : IsMeshOf job plan mesh
  pub at_rest : IsAtRest mesh
  pub reported : IsReported job plan mesh [] report

-- the report of an image that is that of the plan's tables
pub reported_of : (p q : JobWithPlan) → p ≡ q → (v : Image) (mesh : State) (did : List Did) (report : Report) → v ≡ tables_image p.job p.plan →
    IsReportOf p.job.graph p.plan.placement.spots p.plan.nets v.chips mesh did report → IsReported q.job q.plan mesh did report
reported_of p q same v mesh did report is told = grind arith

module _ (job : Job) (plan : Plan) (mesh : State) where
  -- the report of a mesh that keeps the ledger
  pub is_kept : (did : List Did) (report : Report) → MeetsJobLedger mesh plan.nets job.run.packets → IsReported job plan mesh did report → IsRunKept job plan mesh report
  is_kept did report ledger is = record { ledger = ledger; reported = subst (λ (answers : List Did). IsReported job plan mesh answers report) (sym is.same_did) is }

  -- what is said of each report of the mesh is said of the one that is told
  pub reports : (P : Job → Plan → State → Report → Type 0) (did : List Did) (parts : Parts) (text : List ℕ) → MeetsJobLedger mesh plan.nets job.run.packets →
      ((report : Report) → IsReported job plan mesh did report → P job plan mesh report) → TellsRun job plan mesh did parts text → Reports P job plan parts text
  reports P did parts text ledger holds tells = (mesh, tells.0, is_kept did tells.0 ledger tells.1, holds tells.0 tells.1, tells.2, tells.3)

  -- the same of a mesh at rest, where no events are told
  pub reports_at_rest : (P : Job → Plan → State → Report → Type 0) (did : List Did) (made : Result WordOutput Memory) → did ≡ [] → IsMeshOf job plan mesh → IsAtRest mesh →
      ((report : Report) → IsTold job plan mesh report → P job plan mesh report) → IfOk made (λ t. TellsRun job plan mesh did (parts_with job plan t.mesh t.report) t.text) →
      IfOk made (λ t. Reports P job plan (parts_with job plan t.mesh t.report) t.text)
  reports_at_rest P did made none kept rest holds tells = grind (arith, reports)

  module _ (report : Report) (told : IsTold job plan mesh report) where
    -- Without a dump record nothing is lost.
    lost_nothing : mesh.dumped ≡ [] → HasLostNothing job plan mesh report
    lost_nothing no_record =
        let placed : List (List ℕ × Spot) = placed_of job.graph plan.placement.spots in
        let expected : AreAsExpected mesh plan.nets job.run.packets = delivered_as_expected mesh plan.nets job.run.packets told.kept.ledger told.at_rest no_record in
        let asked_for : Setup → List (List ℕ × McCopy) = λ u. map (named_delivery placed) (expected_deliveries u.spots plan.nets job.run.packets) in
        record {
          no_record = no_record;
          delivered = expected;
          text =
              same_text report (full_report job.machine job.graph job.run.packets plan) told.reported.same_placed told.reported.same_keys told.reported.same_tables
              told.reported.same_did
              (got_lines placed mesh plan.nets job.run.packets report.delivered told.kept.is_mesh told.kept.ledger told.at_rest no_record told.reported.delivered
              ∙ ap (λ u. flat_map got_line (asked_for u)) told.kept.setup)
              (as_many mesh plan.nets job.run.packets placed report.delivered told.kept.is_mesh told.kept.ledger expected told.reported.delivered
              ∙ ap (λ u. length (asked_for u)) told.kept.setup)
              (none_in_order mesh.dumped report.dumped told.reported.dumped.same_items no_record)
              (none_in_order (waits_of mesh) report.waiting told.reported.waiting.same_items (none_waits mesh told.at_rest))
              (told.reported.unsent ∙ none_unsent mesh told.at_rest);
        }

    pub ran_out : IsReachedSoon job plan mesh → (IsRoomy job → mesh.dumped ≡ []) → HasRunOut job plan mesh report
    ran_out reached no_record = grind (arith, lost_nothing)

    pub reinjected_as : HasKeptPasses job plan mesh → mesh.dumped ≡ [] → HasReinjected job plan mesh report
    reinjected_as reached no_record = grind (arith, lost_nothing, lost_nothing no_record)
