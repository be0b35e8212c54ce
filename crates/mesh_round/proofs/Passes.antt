-- What holds after rounds and copies put back: the machine is the same, the ledger is kept, and passes may follow each other.
use Rattle.mesh_round.proofs.Common.{AreRight, Flow, HasPasses, HasRounds, IsMesh, IsMesh-after_put_back, List, NetPlan, Passes, Setup, State, after_put_back, arith, more, no_round, put_back, refl}
use Rattle.mesh_round.proofs.Common.{round, subst, sym, work_in, ℕ, ◌≡◌, ◌≤◌}
use Rattle.mesh_round.specs.Reinjecting.{none}

pub passes_keep_mesh : (patience turns : ℕ) (m n : State) → IsMesh m → HasPasses patience turns m n → IsMesh n × (n.setup ≡ m.setup)
passes_keep_mesh patience turns m n mesh none = (mesh, refl)
passes_keep_mesh patience turns m n mesh (round f k n' before after is) = grind (arith, passes_keep_mesh patience turns m k mesh before)
passes_keep_mesh patience turns m n mesh (put_back k before) =
    grind (arith, passes_keep_mesh patience turns m k mesh before, IsMesh-after_put_back k (passes_keep_mesh patience turns m k mesh before).0)

-- What rounds and copies put back keep, passes keep.
pub passes_keep : (nets : List NetPlan) (P : State → Type 0) → ((k n : State) (f : Flow) → IsMesh k → IsMesh n → Passes k f n → AreRight k.setup.machine k.setup.tables nets → P k → P n) →
    ((k : State) → IsMesh k → AreRight k.setup.machine k.setup.tables nets → P k → P (after_put_back k)) →
    (patience turns : ℕ) (m n : State) → IsMesh m → AreRight m.setup.machine m.setup.tables nets → P m → HasPasses patience turns m n → P n
passes_keep nets P rounds backs patience turns m n mesh right was none = was
passes_keep nets P rounds backs patience turns m n mesh right was (round f k n' before after is) =
    let kept = passes_keep_mesh patience turns m k mesh before in
    rounds k n' f kept.0 after is.passes (subst (λ (u : Setup). AreRight u.machine u.tables nets) (sym kept.1) right) (passes_keep nets P rounds backs patience turns m k mesh right was before)
passes_keep nets P rounds backs patience turns m n mesh right was (put_back k before) =
    grind (arith, passes_keep_mesh patience turns m k mesh before, passes_keep nets P rounds backs patience turns m k mesh right was before)

-- passes may follow each other
pub passes_then : (patience turns : ℕ) (a b c : State) → HasPasses patience turns a b → HasPasses patience turns b c → HasPasses patience turns a c
passes_then patience turns a b c first none = first
passes_then patience turns a b c first (round f k n before after is) = round f k n (passes_then patience turns a b k first before) after is
passes_then patience turns a b c first (put_back k before) = put_back k (passes_then patience turns a b k first before)

-- rounds alone are passes, too
pub rounds_pass : (patience turns : ℕ) (m n : State) → HasRounds patience turns m n → HasPasses patience turns m n
rounds_pass patience turns m n no_round = none
rounds_pass patience turns m n (more f k n' before after is) = round f k n' (rounds_pass patience turns m k before) after is

-- rounds leave no more to be done, each being from a mesh to a mesh
pub rounds_no_more : ((m n : State) (f : Flow) → IsMesh m → IsMesh n → Passes m f n → work_in n ≤ work_in m) →
    (patience turns : ℕ) (m n : State) → IsMesh m → HasRounds patience turns m n → work_in n ≤ work_in m
rounds_no_more no_more patience turns m n mesh no_round = omega arith
rounds_no_more no_more patience turns m n mesh (more f k n' before after is) =
    grind (arith, passes_keep_mesh patience turns m k mesh (rounds_pass patience turns m k before), rounds_pass patience turns m k before, rounds_no_more no_more patience turns m k mesh before)
