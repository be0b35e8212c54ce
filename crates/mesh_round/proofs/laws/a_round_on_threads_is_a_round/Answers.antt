use Rattle.mesh_round.proofs.Common.{All, Hand, None, Option, subst, sym, ◌≡◌}
use Rattle.mesh_round.proofs.PlayedMesh.{is_mesh, leads_by_flow, still}
use Rattle.mesh_round.proofs.laws.a_round_on_threads_is_a_round.Goals as goal

pub returns-clause-mesh : goal.returns-clause-mesh
returns-clause-mesh c = λ patience turns items m n mesh no_hand played.
    is_mesh (record { patience = patience; turns = turns; items = items; m = m; n = n; mesh = mesh; no_hand = no_hand; played = played })

pub returns-clause-round : goal.returns-clause-round
returns-clause-round c = λ patience turns items m n mesh no_hand played.
    leads_by_flow (record { patience = patience; turns = turns; items = items; m = m; n = n; mesh = mesh; no_hand = no_hand; played = played })

pub returns-clause-hands : goal.returns-clause-hands
returns-clause-hands c = λ patience turns items m n no_hand played. subst (All (λ (h : Option Hand). h ≡ None)) (sym played.hands) no_hand

pub returns-clause-still : goal.returns-clause-still
returns-clause-still c = λ patience turns items m n mesh played is. still patience turns items m n mesh played is
