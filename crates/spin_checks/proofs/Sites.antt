-- Nets whose vertices stand on sites begin on the grid and end at cores and devices.
use Rattle.spin_checks.proofs.Common.{All, All-at, All-each, Block, Description, Edge, IsEachNetWith, IsNetWith, IsSite, List, Net, NetPlan, Spot, StandsOnSites, get_or, length, live_inside}
use Rattle.spin_checks.proofs.Common.{site_parts, slice_get-get_or, slice_get_there, subst, sym, ◌<◌, ◌≡◌}

module _ (m : Description) (spots : List Spot) (sites : All (IsSite m) spots) where
  on_sites : (net : Net) (block : Block) (edges : List Edge) (plan : NetPlan) → IsNetWith spots net block edges plan → StandsOnSites m plan
  on_sites net block edges plan is = record {
    source = live_inside m plan.source.chip (site_parts m plan.source (All-at (IsSite m) spots net.source plan.source sites is.source)).0;
    cores = All-each (λ (s : Spot). s.core < 24) plan.targets (λ s has. let from = is.targets.only s has in (site_parts m s (All-at (IsSite m) spots from.0 s sites from.2)).1);
  }

  pub all_on_sites : (nets : List Net) (blocks : List Block) (trees : List (List Edge)) (plans : List NetPlan) → length blocks ≡ length nets → length trees ≡ length nets →
      length plans ≡ length nets → IsEachNetWith spots nets blocks trees plans → All (StandsOnSites m) plans
  all_on_sites nets blocks trees plans a_block a_tree a_plan each k d below =
      let within : k < length nets = subst (λ n. k < n) a_plan below in
      let net = slice_get_there nets k within in
      let block = slice_get_there blocks k (subst (λ n. k < n) (sym a_block) within) in
      let edges = slice_get_there trees k (subst (λ n. k < n) (sym a_tree) within) in
      on_sites net.0 block.0 edges.0 (get_or plans k d) (each k net.0 block.0 edges.0 (get_or plans k d) net.1 block.1 edges.1 (slice_get-get_or plans k d below))
