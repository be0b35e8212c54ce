-- By passes, one after the other.
use Rattle.mesh_round.proofs.Common.{MeetsJobLedger, MeetsLedger, put_back_keeps, put_back_keeps_job}
use Rattle.mesh_round.proofs.Passes.{passes_keep, passes_keep_mesh}
use Rattle.mesh_round.proofs.laws.passes_keep_the_ledger.Goals as goal

pub returns-clause-mesh : goal.returns-clause-mesh
returns-clause-mesh c = passes_keep_mesh

pub returns-clause-ledger : goal.returns-clause-ledger
returns-clause-ledger c = λ patience turns m n nets packets.
    passes_keep nets (λ s. MeetsJobLedger s nets packets) (λ k l f. c.a_round_keeps_the_ledger.ensures.of_a_job k l f nets packets) (λ k. put_back_keeps_job k nets packets) patience turns m n

pub returns-clause-of_nets : goal.returns-clause-of_nets
returns-clause-of_nets c = λ patience turns m n nets labels.
    passes_keep nets (λ s. MeetsLedger s nets labels) (λ k l f. c.a_round_keeps_the_ledger.ensures.of_nets k l f nets labels)
    (λ k mesh right ledger. (put_back_keeps k nets labels mesh right ledger).ledger) patience turns m n
