-- Rounds keep the ledger of copies, since each is a bag of moves.
use Rattle.mesh_round.proofs.Common.{AreRight, Asked, Flow, HasRounds, IsMesh, Label, List, MeetsJobLedger, MeetsLedger, MeetsLedgerFor, NetPlan, Option, Packet, Passes, State, ap, asked_by}
use Rattle.mesh_round.proofs.Common.{bag_adds_no_packet, bag_keeps_ledger, bag_keeps_packets, has, label_of, put_back_keeps_job, sym, ℕ, ◌∙◌, ◌≡◌}
use Rattle.mesh_round.proofs.{Passes.passes_keep, Passes.passes_keep_mesh, Passes.rounds_pass, RoundBag.bag_of_round}

module _ (m n : State) (f : Flow) (nets : List NetPlan) (mesh : IsMesh m) (after : IsMesh n) (passes : Passes m f n)
    (right : AreRight m.setup.machine m.setup.tables nets) where
  pub round_keeps : (labels : ℕ → Label) → MeetsLedger m nets labels → MeetsLedger n nets labels
  round_keeps labels ledger = bag_keeps_ledger m n nets labels mesh right ledger (bag_of_round m f n mesh after passes)

  pub round_keeps_for : (asked : ℕ → Option Asked) → MeetsLedgerFor m nets asked → MeetsLedgerFor n nets asked
  round_keeps_for asked job =
      let labels : ℕ → Label = λ i. label_of (asked i) in
      let bag = bag_of_round m f n mesh after passes in
      record {
        ledger = round_keeps labels job.ledger;
        of_its_net = job.of_its_net;
        was_asked = λ k has.
            let old = bag_adds_no_packet m n nets labels mesh right job.ledger bag k has in
            let was = job.was_asked old.0 old.1 in
            (was.0, ap asked (sym old.2) ∙ was.1);
        each_asked = λ i a is.
            let old = job.each_asked i a is in
            let new = bag_keeps_packets m n nets labels mesh right job.ledger bag old.0 old.1 in
            (new.0, new.1, new.2 ∙ old.2);
      }

  pub round_keeps_job : (packets : List Packet) → MeetsJobLedger m nets packets → MeetsJobLedger n nets packets
  round_keeps_job packets job = record { of_nets = job.of_nets; ledger = round_keeps_for (asked_by nets packets) job.ledger }

-- what holds after rounds
pub record Stands (m n : State) (nets : List NetPlan) (packets : List Packet) : Type 0 where
  pub mesh : IsMesh n
  pub setup : n.setup ≡ m.setup
  pub job : MeetsJobLedger n nets packets

pub rounds_stand : (patience turns : ℕ) (m n : State) (nets : List NetPlan) (packets : List Packet) → IsMesh m → AreRight m.setup.machine m.setup.tables nets →
    MeetsJobLedger m nets packets → HasRounds patience turns m n → Stands m n nets packets
rounds_stand patience turns m n nets packets mesh right job rounds =
    let passes = rounds_pass patience turns m n rounds in
    let kept = passes_keep_mesh patience turns m n mesh passes in
    record {
      mesh = kept.0;
      setup = kept.1;
      job = passes_keep nets (λ s. MeetsJobLedger s nets packets) (λ k l f mesh_k after is right_k. round_keeps_job k l f nets mesh_k after is right_k packets)
          (λ k. put_back_keeps_job k nets packets) patience turns m n mesh right job passes;
    }
