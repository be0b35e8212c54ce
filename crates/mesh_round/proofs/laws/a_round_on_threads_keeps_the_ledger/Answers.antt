use Rattle.mesh_round.proofs.laws.a_round_on_threads_keeps_the_ledger.Goals as goal

pub returns : goal.returns
returns c = λ patience turns items m n nets packets mesh no_hand played right ledger.
    let law = c.a_round_on_threads_is_a_round.ensures in
    let leads = law.round patience turns items m n mesh no_hand played in
    c.a_round_keeps_the_ledger.ensures.of_a_job m n leads.flow nets packets mesh (law.mesh patience turns items m n mesh no_hand played) leads.round.passes right ledger
