-- There is one answer.
use Rattle.spin_checks.proofs.Common.{All, AreNetsWith, Description, Edge, Finding, Graph, IsAnswer, IsFinding, List, NetPlan, StandsOnSites, arith, finding_line, ℕ, ◌≡◌}
use Rattle.spin_checks.proofs.{OneFinding.AreLaws, OneFinding.one_finding, OneNets.one_list}

pub one_answer : AreLaws → (m : Description) (graph : Graph) (trees : List (List Edge)) (bytes : List ℕ) (nets : List NetPlan) → All (StandsOnSites m) nets → AreNetsWith m graph trees nets →
    (f : Finding) (text other : List ℕ) → IsFinding m nets bytes f → text ≡ finding_line graph.nets f → IsAnswer m graph trees bytes other → other ≡ text
one_answer laws m graph trees bytes nets sites are f text other found told is = grind (arith, one_list m graph trees is.nets nets is.are are, one_finding)
