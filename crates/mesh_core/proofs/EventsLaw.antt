-- The ledger of copies is kept by every event, by every list of events and by putting a copy back: for a list of nets, for
-- asked packets and for a job.
use Rattle.mesh_core.proofs.Common.{AreRight, Asked, Contains, DumpRec, Err, Event, IsMesh, Label, List, Mark, MeetsJobLedger, MeetsLedger, MeetsLedgerFor, NetPlan, Ok, OnErr, OnOk, Option, Packet}
use Rattle.mesh_core.proofs.Common.{Queue, Result, Setup, Some, State, [], after_event, after_events, after_put_back, among_contains, among_taken_out, arith, asked_by, behind, dumped, has_room_behind}
use Rattle.mesh_core.proofs.Common.{label_of, marks_of, onward, push_behind, put_back_of, refl, step_of, subst, sym, true, ℕ, ◌∙◌, ◌∷◌, ◌≡◌}
use Rattle.mesh_core.proofs.{Enabled.after_answer, Enabled.if_some, Changes.IsMesh-dumped, Events.event_exchange, Events.arrives, Fixed.push_behind_leaves, Keeping.IsMesh-step_of}
use Rattle.mesh_core.proofs.{Keeping.IsMesh-push_behind, Keeping.onward_below, Keeping.may_wait-behind, LedgerLaw.Bag, LedgerLaw.bag_of_event, LedgerLaw.bag_keeps_ledger, LedgerLaw.bag_adds_no_packet}
use Rattle.mesh_core.proofs.{LedgerLaw.bag_keeps_packets, LedgerLaw.right_before, LedgerLaw.right_small, Moves.mark, Moves.Exchange, Moves.dumped_out}

-- one move is a bag, in a mesh that meets the ledger
move_bag : (s t : State) (nets : List NetPlan) (labels : ℕ → Label) → IsMesh s → AreRight s.setup.machine s.setup.tables nets → MeetsLedger s nets labels →
    Exchange s t → Bag s t
move_bag s t nets labels mesh right ledger x =
    let has = among_contains x.leaves (marks_of s) (among_taken_out x.leaves (marks_of s) x.rest x.out) in
    bag_of_event s t x (right_small s t nets labels mesh right ledger x.leaves (right_before s t nets labels mesh right ledger x.leaves has))

-- what an event, or putting a copy back, leaves as it is
pub record Keeps (s t : State) (nets : List NetPlan) (labels : ℕ → Label) : Type 0 where
  pub mesh : IsMesh t
  pub right : AreRight t.setup.machine t.setup.tables nets
  pub ledger : MeetsLedger t nets labels
  pub no_new : (k : Mark) → Contains (marks_of t) k → (m : Mark) × Contains (marks_of s) m × (m.copy.packet ≡ k.copy.packet)
  pub none_lost : (k : Mark) → Contains (marks_of s) k → (m : Mark) × Contains (marks_of t) m × (m.copy.packet ≡ k.copy.packet)

keeps_itself : (s : State) (nets : List NetPlan) (labels : ℕ → Label) → IsMesh s → AreRight s.setup.machine s.setup.tables nets → MeetsLedger s nets labels →
    Keeps s s nets labels
keeps_itself s nets labels mesh right ledger = grind arith

move_keeps : (s t : State) (nets : List NetPlan) (labels : ℕ → Label) → IsMesh s → AreRight s.setup.machine s.setup.tables nets → MeetsLedger s nets labels →
    IsMesh t → Exchange s t → Keeps s t nets labels
move_keeps s t nets labels mesh right ledger next x =
    let bag = move_bag s t nets labels mesh right ledger x in
    record {
      mesh = next;
      right = subst (λ (u : Setup). AreRight u.machine u.tables nets) (sym bag.setup) right;
      ledger = bag_keeps_ledger s t nets labels mesh right ledger bag;
      no_new = bag_adds_no_packet s t nets labels mesh right ledger bag;
      none_lost = bag_keeps_packets s t nets labels mesh right ledger bag;
    }

pub event_keeps : (s : State) (nets : List NetPlan) (labels : ℕ → Label) → IsMesh s → AreRight s.setup.machine s.setup.tables nets → MeetsLedger s nets labels →
    (e : Event) → Keeps s (after_event s e) nets labels
event_keeps s nets labels mesh right ledger e =
    after_answer (λ t. Keeps s t nets labels) s (keeps_itself s nets labels mesh right ledger) (step_of s e)
    (λ t is. move_keeps s t nets labels mesh right ledger (IsMesh-step_of s t e mesh is) (event_exchange s mesh e t is).0)

-- what each event leaves as it is, a list of events leaves as it is
pub events_keep : (s : State) (nets : List NetPlan) (labels : ℕ → Label) → IsMesh s → AreRight s.setup.machine s.setup.tables nets → MeetsLedger s nets labels →
    (es : List Event) → Keeps s (after_events s es) nets labels
events_keep s nets labels mesh right ledger [] = keeps_itself s nets labels mesh right ledger
events_keep s nets labels mesh right ledger (e ∷ es) =
    let first = event_keeps s nets labels mesh right ledger e in
    let rest = events_keep (after_event s e) nets labels first.mesh first.right first.ledger es in
    record {
      mesh = rest.mesh;
      right = rest.right;
      ledger = rest.ledger;
      no_new = λ k has.
          let m = rest.no_new k has in let l = first.no_new m.0 m.1 in (l.0, l.1, l.2 ∙ m.2);
      none_lost = λ k has.
          let m = first.none_lost k has in let l = rest.none_lost m.0 m.1 in (l.0, l.1, l.2 ∙ m.2);
    }

-- a mesh stays one, whatever it holds
pub IsMesh-after_events : (s : State) (es : List Event) → IsMesh s → IsMesh (after_events s es)
IsMesh-after_events s [] mesh = mesh
IsMesh-after_events s (e ∷ es) mesh =
    IsMesh-after_events (after_event s e) es (after_answer IsMesh s mesh (step_of s e) (λ t is. IsMesh-step_of s t e mesh is))

-- ---- putting a copy back

-- the dump records change no queue
pub same_room : (s : State) (rest : List DumpRec) (b : Queue) → has_room_behind (record s { dumped = rest }) b ≡ has_room_behind s b
same_room s rest b = grind arith

-- putting a copy back is one move, to a mesh
pub record IsPutBack (s t : State) : Type 0 where
  pub move : Exchange s t
  pub mesh : IsMesh s → IsMesh t

pub put_back_is : (s : State) (records : List DumpRec) → s.dumped ≡ records → (t : State) → put_back_of s records ≡ Some t → IsPutBack s t
put_back_is s [] is t e = cc
put_back_is s (r ∷ rest) is t e =
    let between : State = record s { dumped = rest } in
    let to : Queue = behind s.setup r.chip r.out in
    let next : State = push_behind between to (onward r.copy) in
    let parts = if_some (has_room_behind s to) next t e in
    let room : has_room_behind between to ≡ true = same_room s rest to ∙ parts.0 in
    let arrival = arrives between r.chip r.out r.copy room in
    subst (λ (u : State). IsPutBack s u) parts.1 (record {
      move = record {
        leaves = mark r.copy (dumped r.chip r.out);
        come = arrival.0;
        rest = marks_of between;
        out = dumped_out s r rest is;
        put = arrival.1;
        move = arrival.2;
        setup = (push_behind_leaves between to (onward r.copy)).0;
      };
      mesh = λ mesh. IsMesh-push_behind between to (onward r.copy) (IsMesh-dumped s rest mesh) (may_wait-behind s.setup r.chip r.out) room (onward_below r.copy);
    })

pub IsMesh-after_put_back : (s : State) → IsMesh s → IsMesh (after_put_back s)
IsMesh-after_put_back s mesh = after_answer IsMesh s mesh (put_back_of s s.dumped) (λ t is. (put_back_is s s.dumped refl t is).mesh mesh)

pub put_back_keeps : (s : State) (nets : List NetPlan) (labels : ℕ → Label) → IsMesh s → AreRight s.setup.machine s.setup.tables nets → MeetsLedger s nets labels →
    Keeps s (after_put_back s) nets labels
put_back_keeps s nets labels mesh right ledger =
    after_answer (λ t. Keeps s t nets labels) s (keeps_itself s nets labels mesh right ledger) (put_back_of s s.dumped)
    (λ t is. let back = put_back_is s s.dumped refl t is in move_keeps s t nets labels mesh right ledger (back.mesh mesh) back.move)

-- ---- asked packets, and jobs

abbrev pub labels_of : (ℕ → Option Asked) → ℕ → Label
labels_of asked i = label_of (asked i)

pub keeps_for : (s t : State) (nets : List NetPlan) (asked : ℕ → Option Asked) → MeetsLedgerFor s nets asked → Keeps s t nets (labels_of asked) →
    MeetsLedgerFor t nets asked
keeps_for s t nets asked before keeps = record {
  ledger = keeps.ledger;
  of_its_net = before.of_its_net;
  was_asked = λ k has.
      let m = keeps.no_new k has in subst (λ i. (a : Asked) × (asked i ≡ Some a)) m.2 (before.was_asked m.0 m.1);
  each_asked = λ i a is.
      let k = before.each_asked i a is in let m = keeps.none_lost k.0 k.1 in (m.0, m.1, m.2 ∙ k.2);
}

pub events_keep_for : (s : State) (nets : List NetPlan) (asked : ℕ → Option Asked) → IsMesh s → AreRight s.setup.machine s.setup.tables nets →
    MeetsLedgerFor s nets asked → (es : List Event) → MeetsLedgerFor (after_events s es) nets asked
events_keep_for s nets asked mesh right before es =
    keeps_for s (after_events s es) nets asked before (events_keep s nets (labels_of asked) mesh right before.ledger es)

pub put_back_keeps_for : (s : State) (nets : List NetPlan) (asked : ℕ → Option Asked) → IsMesh s → AreRight s.setup.machine s.setup.tables nets →
    MeetsLedgerFor s nets asked → MeetsLedgerFor (after_put_back s) nets asked
put_back_keeps_for s nets asked mesh right before =
    keeps_for s (after_put_back s) nets asked before (put_back_keeps s nets (labels_of asked) mesh right before.ledger)

pub events_keep_job : (s : State) (nets : List NetPlan) (packets : List Packet) → IsMesh s → AreRight s.setup.machine s.setup.tables nets → MeetsJobLedger s nets packets →
    (es : List Event) → MeetsJobLedger (after_events s es) nets packets
events_keep_job s nets packets mesh right job es = grind (arith, events_keep_for s nets (asked_by nets packets) mesh right job.ledger es)

pub put_back_keeps_job : (s : State) (nets : List NetPlan) (packets : List Packet) → IsMesh s → AreRight s.setup.machine s.setup.tables nets → MeetsJobLedger s nets packets →
    MeetsJobLedger (after_put_back s) nets packets
put_back_keeps_job s nets packets mesh right job = grind (arith, put_back_keeps_for s nets (asked_by nets packets) mesh right job.ledger)

-- ---- a step that may be refused

-- the ledger of any nets for which the tables are right stays
pub ledger-after_result : {T E : Type 0} (r : Result T E) (s t : State) (e : Event) → IsMesh s → OnOk r (t ≡ after_event s e) → OnErr r (t ≡ s) →
    (nets : List NetPlan) (labels : ℕ → Label) → AreRight s.setup.machine s.setup.tables nets → MeetsLedger s nets labels → MeetsLedger t nets labels
ledger-after_result (Ok x) s t e mesh moves stays nets labels right ledger = grind (arith, event_keeps s nets labels mesh right ledger e)
ledger-after_result (Err x) s t e mesh moves stays nets labels right ledger = subst (λ (u : State). MeetsLedger u nets labels) (sym stays) ledger
