-- Nets that were routed side by side, and what is found of them in order.
use Rattle.net_plans.proofs.Common.{All, AllZip, AllZip-at_second, AllZip-long, ArePlanned, AreRoutedNets, Block, Chip, CutOff, Description, Err, HasNoneCutOff, HasTreeAndPlan, HaveWays, IfErr, IfOk}
use Rattle.net_plans.proofs.Common.{IsCauseOne, IsFirstCut, IsFirstNetCutOff, IsFirstWithout, IsNetCause, IsPlannedNet, IsRoutedNet, IsRoutingAnswer, IsRoutingTree, List, Memory, Net, NetErr, NetPlan}
use Rattle.net_plans.proofs.Common.{Ok, RepairErr, Result, RoutedNet, Some, Spot, [], ap, arith, drop, get_or, get_or-range_with_len, get_or_from_slice_get, length, length-range_with_len}
use Rattle.net_plans.proofs.Common.{range_with_len, slice_get, slice_get-get_or, slice_get-push_cases, slice_get_there, slice_get_within, subst, suc, sym, zero, ℕ, ◌++◌, ◌+◌, ◌<◌, ◌∙◌, ◌∷◌, ◌≡◌, ◌≤◌}
use Rattle.link_detours.specs.declared.repairs.RepairErr.TheVariants as repairs
use Rattle.net_plans.proofs.Planning.{long_more}

-- ---- the items that are left

-- the first of the items that are left stands at the next place
pub dropped_head : {X : Type 0} (xs : List X) (k : ℕ) (x : X) (rest : List X) → drop k xs ≡ x ∷ rest → (slice_get xs k ≡ Some x) × (drop (k + 1) xs ≡ rest)
dropped_head [] zero x rest is = cc
dropped_head [] (suc k) x rest is = cc
dropped_head (y ∷ ys) zero x rest is = let head : y ≡ x = cc in let tail : ys ≡ rest = cc in (ap Some head, tail)
dropped_head (y ∷ ys) (suc k) x rest is = grind (arith, dropped_head ys k x rest is)

-- the plans of the first so many items
pub record HaveWaysTo (items : List RoutedNet) (plans : List NetPlan) (k : ℕ) : Type 0 where
  pub within : k ≤ length items
  pub plans_long : length plans ≡ k
  pub each : (i : ℕ) (item : RoutedNet) (plan : NetPlan) → slice_get items i ≡ Some item → slice_get plans i ≡ Some plan → item.way ≡ Ok plan

pub one_way_more : (items : List RoutedNet) (plans more : List NetPlan) (k : ℕ) (item : RoutedNet) (plan : NetPlan) → HaveWaysTo items plans k →
    slice_get items k ≡ Some item → item.way ≡ Ok plan → more ≡ plans ++ plan ∷ [] → HaveWaysTo items more (k + 1)
one_way_more items plans more k item plan so_far at way are = grind (arith, slice_get_within items k item at, long_more plans more plan k so_far.plans_long are, slice_get-push_cases)

pub all_ways : (items : List RoutedNet) (plans : List NetPlan) (k : ℕ) → HaveWaysTo items plans k → length items ≤ k → HaveWays items plans
all_ways items plans k have past = grind arith

-- each of the first items has a plan
pub ways_before : (items : List RoutedNet) (plans : List NetPlan) (k : ℕ) → HaveWaysTo items plans k → (j : ℕ) (other : RoutedNet) → j < k → slice_get items j ≡ Some other →
    (plan : NetPlan) × (other.way ≡ Ok plan)
ways_before items plans k have j other less at =
    let plans_long = have.plans_long in
    let p = slice_get_there plans j (omega (arith, less, plans_long)) in
    (p.0, have.each j other p.0 at p.1)

-- ---- what the items say of the nets

-- what one net's routing answers
pub way_of : (m : Description) (spots : List Spot) (net : Net) (block : Block) (w : Result NetPlan RepairErr) → IfOk w (IsPlannedNet m spots net block) →
    IfOk w (λ p. IsRoutingTree m p.tree.root p.tree.edges p.targets) → IfOk w (λ _. HasNoneCutOff m spots net) → IfErr w (IsCauseOne m spots net) → IsRoutingAnswer m spots net block w
way_of m spots net block (Ok p) planned routing reached cause = record { planned = planned; routing = routing; reached = reached }
way_of m spots net block (Err e) planned routing reached cause = cause

module _ (m : Description) (spots : List Spot) (nets : List Net) (blocks : List Block) (items : List RoutedNet) where
  -- the numbers of nets in order, each beside what came of it
  pub routed_all : (numbers : List ℕ) → numbers ≡ range_with_len 0 (length nets) → AllZip (IsRoutedNet m spots nets blocks) numbers items → AreRoutedNets m spots nets blocks items
  routed_all numbers are each = record {
    one_each = AllZip-long (IsRoutedNet m spots nets blocks) numbers items each ∙ (ap length are ∙ length-range_with_len 0 (length nets));
    each = λ i item at.
        let with = AllZip-at_second (IsRoutedNet m spots nets blocks) numbers items each i item at in
        let there : slice_get (range_with_len 0 (length nets)) i ≡ Some with.0 = subst (λ l. slice_get l i ≡ Some with.0) are with.1 in
        let small = slice_get_within (range_with_len 0 (length nets)) i with.0 there in
        let many = length-range_with_len 0 (length nets) in
        let number : with.0 ≡ i = sym (get_or_from_slice_get (range_with_len 0 (length nets)) i with.0 0 there) ∙ (get_or-range_with_len 0 (length nets) i 0 (omega (arith, small, many)) ∙ omega arith) in
        subst (λ n. IsRoutedNet m spots nets blocks n item) number with.2;
  }

  way_is : (net : Net) (block : Block) (w : Result NetPlan RepairErr) (p : NetPlan) → w ≡ Ok p → IsRoutingAnswer m spots net block w → HasTreeAndPlan m spots net block p
  way_is net block w p is way = subst (IsRoutingAnswer m spots net block) is way

  cut_is : (net : Net) (block : Block) (w : Result NetPlan RepairErr) (target : Chip) → w ≡ Err (repairs.CutOff target) → IsRoutingAnswer m spots net block w → IsRoutingAnswer m spots net block (Err (repairs.CutOff target))
  cut_is net block w target is way = subst (IsRoutingAnswer m spots net block) is way

  module _ (are : AreRoutedNets m spots nets blocks items) where
    -- the net at a place where an item has a plan
    routed_at : (i : ℕ) (item : RoutedNet) (p : NetPlan) (net : Net) (block : Block) → slice_get items i ≡ Some item → item.way ≡ Ok p → slice_get nets i ≡ Some net → slice_get blocks i ≡ Some block →
        HasTreeAndPlan m spots net block p
    routed_at i item p net block at way net_at block_at = grind (arith, way_is (are.each i item at).net (are.each i item at).block item.way p way (are.each i item at).way)

    -- no target of a net is cut off where its item has a plan
    reached_at : (i : ℕ) (item : RoutedNet) (p : NetPlan) (net : Net) → slice_get items i ≡ Some item → item.way ≡ Ok p → slice_get nets i ≡ Some net → HasNoneCutOff m spots net
    reached_at i item p net at way net_at =
        let one = are.each i item at in
        let here = one.at in
        let same_net : one.net ≡ net = cc in
        subst (HasNoneCutOff m spots) same_net (way_is one.net one.block item.way p way one.way).reached

    module _ (plans : List NetPlan) (have : HaveWays items plans) where
      pub planned_of : ArePlanned m spots nets blocks plans
      planned_of = record {
        one_plan_each = have.plans_long ∙ are.one_each;
        each = λ i net block plan net_at block_at plan_at.
            let within = slice_get_within plans i plan plan_at in
            let plans_long = have.plans_long in
            let item = slice_get_there items i (omega (arith, within, plans_long)) in
            (routed_at i item.0 plan net block item.1 (have.each i item.0 plan item.1 plan_at) net_at block_at).planned;
      }

      pub routing_of : All (λ (p : NetPlan). IsRoutingTree m p.tree.root p.tree.edges p.targets) plans
      routing_of k d below =
          let plans_long = have.plans_long in
          let item = slice_get_there items k (omega (arith, below, plans_long)) in
          let plan : NetPlan = get_or plans k d in
          let way = have.each k item.0 plan item.1 (slice_get-get_or plans k d below) in
          let one = are.each k item.0 item.1 in
          (way_is one.net one.block item.0.way plan way one.way).routing

      pub reached_of : All (HasNoneCutOff m spots) nets
      reached_of k d below =
          let one_each = are.one_each in
          let plans_long = have.plans_long in
          let item = slice_get_there items k (omega (arith, below, one_each)) in
          let plan = slice_get_there plans k (omega (arith, below, one_each, plans_long)) in
          reached_at k item.0 plan.0 (get_or nets k d) item.1 (have.each k item.0 plan.0 item.1 plan.1) (slice_get-get_or nets k d below)

    cut_of : (net : ℕ) (target : Chip) → IsFirstCut items net target → IsFirstNetCutOff m spots nets net target
    cut_of net target first =
        let one = are.each first.place first.item first.at in
        let number : first.place ≡ net = sym one.names ∙ first.names in
        subst (λ n. IsFirstNetCutOff m spots nets n target) number (record {
          net = one.net;
          is = one.at;
          target = cut_is one.net one.block first.item.way target first.cut_off one.way;
          before = λ j earlier less at.
              let place_below = slice_get_within items first.place first.item first.at in
              let item = slice_get_there items j (omega (arith, less, place_below)) in
              let way = first.before j item.0 less item.1 in
              reached_at j item.0 way.0 earlier item.1 way.1 at;
        })

    pub cause_of : (e : NetErr) → IsFirstWithout items e → IsNetCause m spots nets e
    cause_of (CutOff net target) first = cut_of net target first
    cause_of Memory first = tt
