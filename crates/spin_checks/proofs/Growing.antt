-- Nets one by one: each with its plan, and the first with a bad tree.
use Rattle.spin_checks.proofs.Common.{All, Block, Description, Edge, HasGoodTree, IsEachNetWith, IsNetWith, List, Net, NetPlan, Some, Spot, [], ap, arith, cases_lt, get_or, inl, inr, length}
use Rattle.spin_checks.proofs.Common.{length_push, one_item_at, slice_get, slice_get-get_or, slice_get-push_cases, subst, sym, ℕ, ◌++◌, ◌+◌, ◌<◌, ◌∙◌, ◌∷◌, ◌≡◌, ◌≤◌}

-- one plan more
module _ (spots : List Spot) (nets : List Net) (blocks : List Block) (trees : List (List Edge)) (old new : List NetPlan) (i : ℕ) (net : Net) (block : Block) (edges : List Edge) (plan : NetPlan)
    (long : length old ≡ i) (each : IsEachNetWith spots nets blocks trees old) (net_at : slice_get nets i ≡ Some net) (block_at : slice_get blocks i ≡ Some block)
    (edges_at : slice_get trees i ≡ Some edges) (is : IsNetWith spots net block edges plan) (pushed : new ≡ old ++ plan ∷ []) where
  each_more : IsEachNetWith spots nets blocks trees new
  each_more j n b es p n_at b_at es_at p_at = elim (slice_get-push_cases old plan p j (subst (λ (l : List NetPlan). slice_get l j ≡ Some p) pushed p_at)) [
    | inl before ↦ each j n b es p n_at b_at es_at before.1
    | inr last ↦
        let here : i ≡ j = sym long ∙ sym last.0 in
        let net_is : net ≡ n = one_item_at nets i j net n here net_at n_at in
        let block_is : block ≡ b = one_item_at blocks i j block b here block_at b_at in
        let edges_are : edges ≡ es = one_item_at trees i j edges es here edges_at es_at in
        subst (IsNetWith spots n b es) last.1
        (subst (λ l. IsNetWith spots n b l plan) edges_are (subst (λ x. IsNetWith spots n x edges plan) block_is (subst (λ x. IsNetWith spots x block edges plan) net_is is)))
  ]

  pub plans_more : (length new ≡ i + 1) × IsEachNetWith spots nets blocks trees new
  plans_more = (ap length pushed ∙ (length_push old plan ∙ ap (λ n. n + 1) long), each_more)

-- the trees of the nets before a place are good
abbrev pub AreGoodBelow : Description → List NetPlan → ℕ → Type 0
AreGoodBelow m nets i = (j : ℕ) (other : NetPlan) → j < i → slice_get nets j ≡ Some other → HasGoodTree m other

pub good_more : (m : Description) (nets : List NetPlan) (i : ℕ) (net : NetPlan) → AreGoodBelow m nets i → slice_get nets i ≡ Some net → HasGoodTree m net → AreGoodBelow m nets (i + 1)
good_more m nets i net before at good j other less there = elim (cases_lt j i) [
  | inl earlier ↦ before j other earlier there
  | inr later ↦ (let here : i ≡ j = omega (arith, less, later) in subst (HasGoodTree m) (one_item_at nets i j net other here at there) good)
]

pub all_good : (m : Description) (nets : List NetPlan) (i : ℕ) → length nets ≤ i → AreGoodBelow m nets i → All (HasGoodTree m) nets
all_good m nets i past before k d below = before k (get_or nets k d) (omega (arith, below, past)) (slice_get-get_or nets k d below)
