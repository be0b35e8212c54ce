use Rattle.mesh_core.proofs.OpenedLaw.{opened_meets_ledger}
use Rattle.mesh_core.proofs.laws.opened_mesh_meets_its_ledger.Goals as goal

pub returns : goal.returns
returns c = λ setup nets packets stand of_nets. opened_meets_ledger setup nets packets stand of_nets
