-- The tree over the rooms of a row.
use Rattle.place_fit.proofs.Common.{All, IsTree, List, ap, arith, cases_eq, cases_lt, drop, get_or, get_or-drop, get_or_default, inl, inr, length, length-drop, max, suc, zero, ℕ, ◌*◌, ◌+◌, ◌/◌, ◌<◌}
use Rattle.place_fit.proofs.Common.{◌≡◌, ◌≢◌, ◌≤◌}

-- the node has the greater of its children's rooms
abbrev pub IsGreatest : List ℕ → ℕ → Type 0
IsGreatest tree q = get_or tree q 0 ≡ max (get_or tree (2 * q) 0) (get_or tree (2 * q + 1) 0)

-- the tree, but for the one node
pub record IsTreeBut (leaves but : ℕ) (tree : List ℕ) : Type 0 where
  pub long : length tree ≡ 2 * leaves
  pub greatest : (q : ℕ) → 1 ≤ q → q < leaves → q ≢ but → IsGreatest tree q

module _ (leaves : ℕ) (tree : List ℕ) (is_tree : IsTree leaves tree) where
  -- a node has no more room than its parent
  pub parent : (q : ℕ) → 2 ≤ q → q < 2 * leaves → get_or tree q 0 ≤ get_or tree (q / 2) 0
  parent q low high = grind (arith, cases_eq q (2 * (q / 2)), get_or)

  below_root : (need : ℕ) → get_or tree 1 0 ≤ need → (fuel q : ℕ) → q ≤ fuel → 1 ≤ q → q < 2 * leaves → get_or tree q 0 ≤ need
  below_root need root zero q few low high = absurd (omega arith)
  below_root need root (suc fuel) q few low high =
      elim (cases_lt q 2) [
        | inl first ↦ (let one : q ≡ 1 = omega arith in let e = ap (λ i. get_or tree i 0) one in omega (arith, e, root))
        | inr later ↦ grind (arith, parent q later high, below_root need root fuel (q / 2) (omega arith) (omega arith) (omega arith))
      ]

  pub none_above : (need : ℕ) → 1 ≤ leaves → get_or tree 1 0 ≤ need → All (λ room. room ≤ need) (drop leaves tree)
  none_above need some root k d inside =
      let in_tree : leaves + k < 2 * leaves = omega (arith, inside, length-drop leaves tree, is_tree.long) in
      let here = below_root need root (leaves + k) (leaves + k) (omega arith) (omega arith) in_tree in
      let at : get_or (drop leaves tree) k d ≡ get_or tree (leaves + k) d = get_or-drop leaves tree k d in
      let same : get_or tree (leaves + k) d ≡ get_or tree (leaves + k) 0 = get_or_default tree (leaves + k) d 0 (omega (arith, in_tree, is_tree.long)) in
      omega (arith, here, at, same)

pub room_at : (leaves : ℕ) (tree : List ℕ) (k : ℕ) → get_or (drop leaves tree) k 0 ≡ get_or tree (leaves + k) 0
room_at leaves tree k = get_or-drop leaves tree k 0

-- the nodes of one level, of which those before the node have too little room, and the node has enough
pub record IsFound (tree : List ℕ) (need first node : ℕ) : Type 0 where
  pub from : first ≤ node
  pub to : node < 2 * first
  pub little : (q : ℕ) → first ≤ q → q < node → get_or tree q 0 ≤ need
  pub enough : need < get_or tree node 0

module _ (leaves : ℕ) (tree : List ℕ) (is_tree : IsTree leaves tree) (need first node : ℕ) (found : IsFound tree need first node) (inner : node < leaves) where
  before_children : (q : ℕ) → 2 * first ≤ q → q < 2 * node → 1 ≤ first → get_or tree q 0 ≤ need
  before_children q low high some = grind (arith, parent leaves tree is_tree q (omega arith) (omega arith))

  pub found_left : 1 ≤ first → need < get_or tree (2 * node) 0 → IsFound tree need (2 * first) (2 * node)
  found_left some enough = grind (arith, before_children)

  pub found_right : 1 ≤ first → get_or tree (2 * node) 0 ≤ need → IsFound tree need (2 * first) (2 * node + 1)
  found_right some little = grind (arith, cases_lt, before_children, get_or)

-- ---- a room changed
