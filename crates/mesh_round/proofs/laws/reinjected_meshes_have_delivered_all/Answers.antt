-- The ledger holds after the passes.
use Rattle.mesh_round.proofs.laws.reinjected_meshes_have_delivered_all.Goals as goal

pub returns : goal.returns
returns c = λ patience turns m n nets packets mesh right ledger passes rest none.
    c.a_mesh_at_rest_has_delivered_all.ensures n nets packets (c.passes_keep_the_ledger.ensures.ledger patience turns m n nets packets mesh right ledger passes) rest none
