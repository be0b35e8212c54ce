-- A round is a bag of moves, which keeps the ledger.
use Rattle.mesh_round.proofs.FlowLaw.{round_keeps, round_keeps_for, round_keeps_job}
use Rattle.mesh_round.proofs.flow_laws.a_round_keeps_the_ledger.Goals as goal

pub returns-clause-of_nets : goal.returns-clause-of_nets
returns-clause-of_nets c = λ m n f nets labels mesh after passes right. round_keeps m n f nets mesh after passes right labels

pub returns-clause-of_packets : goal.returns-clause-of_packets
returns-clause-of_packets c = λ m n f nets asked mesh after passes right. round_keeps_for m n f nets mesh after passes right asked

pub returns-clause-of_a_job : goal.returns-clause-of_a_job
returns-clause-of_a_job c = λ m n f nets packets mesh after passes right. round_keeps_job m n f nets mesh after passes right packets
