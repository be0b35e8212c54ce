-- Rounds on threads that were played one after the other lead on.
use Rattle.mesh_round.proofs.Common.{Bool, Err, HasMovingRounds, IfErr, IfErr-weaker, IfOk, IfOk-weaker, IsAtRest, IsMesh, IsNoted, IsPlayedBy, IsRaisedFrom, IsRound, Item, LeadsByRound, List}
use Rattle.mesh_round.proofs.Common.{MayGoOn, Memory, Ok, Pace, PlaysTo, RaisedMesh, Result, State, [], arith, false, has, has_none, more, none, subst, sym, true, ℕ, ◌∙◌, ◌≡◌}
use Rattle.mesh_round.proofs.{Resting.none_left, Resting.rests, PlayedMesh.is_mesh, PlayedMesh.leads_by_flow, PlayedMesh.still, TheFlow.Round}

-- A mesh that was reached by rounds in each of which a copy moved, that may go on, and is split.
pub record IsReached (patience turns : ℕ) (m : State) (r : RaisedMesh) : Type 0 where
  pub mesh : State
  pub rounds : HasMovingRounds patience turns m mesh
  pub ready : MayGoOn mesh
  pub raised : IsRaisedFrom mesh 0 r

-- a mesh that is split, before the first round
pub begins : (patience turns : ℕ) (m : State) (r : RaisedMesh) → MayGoOn m → IsRaisedFrom m 0 r → IsReached patience turns m r
begins patience turns m r ready raised = record { mesh = m; rounds = record { rounds = none; each = tt }; ready = ready; raised = raised }

-- what a round leads to, at the pace at which the mesh was split
pub at_pace : (pace own : Pace) (m : State) (r s : RaisedMesh) (told moved : Bool) → IsMesh m → IsRaisedFrom m 0 r → own ≡ pace → told ≡ moved →
    ((k : State) → IsMesh k → IsRaisedFrom k 0 r → PlaysTo own.patience own.turns k told s) → PlaysTo pace.patience pace.turns m moved s
at_pace pace own m r s told moved mesh raised same says plays = grind arith

-- ---- the answer where a mesh may be at rest

-- what holds of the mesh holds of an answer that is it
pub answers : (P : State → Type 0) (answer : Result State (State × Memory)) (low m : State) → low ≡ m → P m → IfOk answer (λ n. n ≡ low) → IfOk answer P
answers P answer low m same has = IfOk-weaker answer (λ n. n ≡ low) P (λ n is. subst P (sym (is ∙ same)) has)

-- and of the mesh that comes back with a refusal
pub refuses : (P : State → Type 0) (answer : Result State (State × Memory)) (low m : State) → low ≡ m → P m → IfErr answer (λ b. b.0 ≡ low) → IfErr answer (λ b. P b.0)
refuses P answer low m same has = IfErr-weaker answer (λ b. b.0 ≡ low) (λ b. P b.0) (λ b is. subst P (sym (is ∙ same)) has)

-- an answer that holds no copy is at rest
pub rests_where_none : (answer : Result State (State × Memory)) → IfOk answer MayGoOn → IfOk answer (λ n. has_none n ≡ true) → IfOk answer IsAtRest
rests_where_none answer ready is = grind (arith, rests)

module _ (patience turns : ℕ) where
  abbrev played_from : (m n : State) (items : List Item) → MayGoOn m → IsPlayedBy patience turns items m n → Round
  played_from m n items ready played = record { patience = patience; turns = turns; items = items; m = m; n = n; mesh = ready.mesh; no_hand = ready.no_hand; played = played }

  -- a mesh after a round may go on
  pub ready_after : (m n : State) (items : List Item) → MayGoOn m → IsPlayedBy patience turns items m n → MayGoOn n
  ready_after m n items ready played = grind (arith, is_mesh (played_from m n items ready played))

  -- where a copy moved, something was done
  some_moved : (items : List Item) → IsNoted false items true → items ≡ [] → ⊥
  some_moved items its_1 nothing = grind arith

  -- a round that moved a copy is one more
  pub moved_on : (m : State) (r s : RaisedMesh) (is : IsReached patience turns m r) → PlaysTo patience turns is.mesh true s → IsReached patience turns m s
  moved_on m r s is to =
      let ready = ready_after is.mesh to.mesh to.items is.ready to.played in
      let lead = leads_by_flow (played_from is.mesh to.mesh to.items is.ready to.played) in
      record {
        mesh = to.mesh;
        rounds = record {
          rounds = more lead.flow is.mesh to.mesh is.rounds.rounds ready.mesh lead.round;
          each = (is.rounds.each, lead.moved (some_moved to.items to.noted));
        };
        ready = ready;
        raised = to.raised;
      }

  -- one that moved none leaves the mesh as it was
  pub stood_still : (m : State) (s : RaisedMesh) → IsMesh m → PlaysTo patience turns m false s → IsRaisedFrom m 0 s
  stood_still m s mesh to = subst (λ (k : State). IsRaisedFrom k 0 s) (still patience turns to.items m to.mesh mesh to.played to.noted.1) to.raised

  -- so a mesh that was reached is reached still
  pub stood_on : (m : State) (r s : RaisedMesh) (is : IsReached patience turns m r) → PlaysTo patience turns is.mesh false s → IsReached patience turns m s
  stood_on m r s is to = record { mesh = is.mesh; rounds = is.rounds; ready = is.ready; raised = stood_still is.mesh s is.ready.mesh to }

  -- A round by itself: a copy moved in it; or none did, and there was none.
  pub leads : (m n : State) (items : List Item) → MayGoOn m → IsPlayedBy patience turns items m n → IsNoted false items true → LeadsByRound patience turns m n
  leads m n items ready played noted = grind (arith, leads_by_flow (played_from m n items ready played), some_moved items noted)

  -- A round in which no copy moved, of a mesh in which none is.
  leads_nowhere : (m n : State) (s : RaisedMesh) → MayGoOn m → PlaysTo patience turns m false s → n ≡ m → has_none n ≡ true → LeadsByRound patience turns m n
  leads_nowhere m n s ready to same is =
      let lead = leads_by_flow (played_from m to.mesh to.items ready to.played) in
      let stays = still patience turns to.items m to.mesh ready.mesh to.played to.noted.1 in
      record {
        flow = lead.flow;
        round = subst (λ (k : State). IsRound patience turns m lead.flow k) (stays ∙ sym same) lead.round;
        moved = λ some has. absurd (none_left m (subst (λ (k : State). has_none k ≡ true) same is) ready.no_hand has);
      }

  -- the answer after such a round
  pub leads_at_rest : (m : State) (s : RaisedMesh) (answer : Result State (State × Memory)) → MayGoOn m → PlaysTo patience turns m false s
      → IfOk answer (λ n. n ≡ m) → IfOk answer (λ n. has_none n ≡ true) → IfOk answer (LeadsByRound patience turns m)
  leads_at_rest m s (Ok n) ready to same is = leads_nowhere m n s ready to same is
  leads_at_rest m s (Err e) ready to same is = is
