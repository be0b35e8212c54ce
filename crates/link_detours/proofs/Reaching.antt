-- What tables of flagged links and of marked chips say of trees.
use Rattle.link_detours.proofs.Common.{All, All-contains, Bool, Chip, Contains, Contains-get_or, Contains-only, Description, Dir, Edge, EdgeStep, FlaggedStep, IsInside, IsLiveLink, IsReachedBy}
use Rattle.link_detours.proofs.Common.{IsWholeTree, List, Some, Steps, [], arith, far_back, far_of, get_or, is_flagged, is_marked, live_back, live_ends, live_inside, opposite_of, refl, subst, sym}
use Rattle.link_detours.proofs.Common.{true, ℕ, ◌↔◌, ◌∷◌, ◌≡◌}
use Rattle.link_detours.proofs.Stepping.{Steps-map}

-- a live link begins inside the grid
pub link_inside : (m : Description) (c : Chip) (d : Dir) → IsLiveLink m c d → IsInside m c
link_inside m c d lives = live_inside m c (live_ends m c d lives).2

-- a table that flags a list of edges allows steps by these edges
pub flagged_edges : (m : Description) (table : List Bool) (edges : List Edge) →
    ((e : Edge) → IsInside m e.chip → (is_flagged m table e.chip e.dir ≡ true) ↔ Contains edges e) →
    (a b : Chip) → FlaggedStep m table a b → EdgeStep m edges a b
flagged_edges m table edges flags a b step =
    (step.1.0, (flags (record { chip = a; dir = step.1.0 }) step.0).0 step.1.1, step.1.2)

pub edges_flagged : (m : Description) (table : List Bool) (edges : List Edge) →
    ((e : Edge) → IsInside m e.chip → (is_flagged m table e.chip e.dir ≡ true) ↔ Contains edges e) → All (λ e. IsInside m e.chip) edges →
    (a b : Chip) → EdgeStep m edges a b → FlaggedStep m table a b
edges_flagged m table edges flags inside a b step = grind (arith, All-contains)

-- a live link into a chip is a live link of that chip, by the opposite link
pub link_turned : (m : Description) (at b : Chip) (d : Dir) → IsLiveLink m b d → far_of m b d ≡ Some at →
    IsLiveLink m at (opposite_of d) × (far_of m at (opposite_of d) ≡ Some b)
link_turned m at b d lives leads = (live_back m b at d leads lives, far_back m b at d (link_inside m b d lives) leads)

-- a table marks a chip exactly where the edges that another table flags join it to the root
pub reach_edges : (m : Description) (root : Chip) (table : List Bool) (edges : List Edge) (marks : List Bool) →
    ((e : Edge) → IsInside m e.chip → (is_flagged m table e.chip e.dir ≡ true) ↔ Contains edges e) → All (λ e. IsInside m e.chip) edges →
    ((c : Chip) → IsInside m c → (is_marked m marks c ≡ true) ↔ ((n : ℕ) × IsReachedBy (FlaggedStep m table) (Contains (root ∷ [])) n c)) →
    (c : Chip) → IsInside m c → (is_marked m marks c ≡ true) ↔ ((n : ℕ) × Steps (EdgeStep m edges) n root c)
reach_edges m root table edges marks flags inside reached c c_inside = (
  λ marked. let by = (reached c c_inside).0 marked in (
    by.0,
    subst (λ (a : Chip). Steps (EdgeStep m edges) by.0 a c) (sym (Contains-only root by.1.0 by.1.1))
        (Steps-map (FlaggedStep m table) (EdgeStep m edges) (flagged_edges m table edges flags) by.0 by.1.0 c by.1.2),
  ),
  λ way. (reached c c_inside).1 (
    way.0,
    (
      root,
      (0, omega arith, refl),
      Steps-map (EdgeStep m edges) (FlaggedStep m table) (edges_flagged m table edges flags inside) way.0 root c way.1,
    ),
  ),
)

-- the edges of a whole tree begin inside the grid
pub edges_inside : (m : Description) (root : Chip) (tree : List Edge) → IsWholeTree m root tree → All (λ e. IsInside m e.chip) tree
edges_inside m root tree is k d h =
    link_inside m (get_or tree k d).chip (get_or tree k d).dir (is.live (get_or tree k d) (Contains-get_or tree k d h))
