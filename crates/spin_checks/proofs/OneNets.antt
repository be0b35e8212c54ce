-- Handed-in trees make one list of nets of a graph.
use Rattle.spin_checks.proofs.Common.{AreNetsWith, Block, Description, Edge, Graph, IsNetWith, IsTreeOf, List, Net, NetPlan, Some, Spot, length, one_targets, same_places, same_source, slice_get}
use Rattle.spin_checks.proofs.Common.{slice_get_there, slice_get_within, subst, sym, ◌<◌, ◌∙◌, ◌≡◌}
use Rattle.place_fit.proofs.Determined as places
use Rattle.key_alloc.proofs.Determined as keys
use Rattle.spin_checks.proofs.OneTree.{one_tree}

same_net : (p q : NetPlan) → p.block ≡ q.block → p.source ≡ q.source → p.targets ≡ q.targets → p.tree ≡ q.tree → p ≡ q
same_net p q block source targets tree = λ i. record { block = block i; source = source i; targets = targets i; tree = tree i }

one_net : (spots : List Spot) (net : Net) (block : Block) (edges : List Edge) (p q : NetPlan) → IsNetWith spots net block edges p → IsNetWith spots net block edges q → p ≡ q
one_net spots net block edges p q x y =
    let source : p.source ≡ q.source = same_source spots net.source p.source q.source x.source y.source in
    let tree : IsTreeOf q.source.chip edges p.tree = subst (λ (s : Spot). IsTreeOf s.chip edges p.tree) source x.tree in
    same_net p q (x.keyed ∙ sym y.keyed) source (one_targets spots net.targets p.targets q.targets x.targets y.targets) (one_tree q.source.chip edges p.tree q.tree tree y.tree)

pub one_list : (m : Description) (graph : Graph) (trees : List (List Edge)) (ps qs : List NetPlan) → AreNetsWith m graph trees ps → AreNetsWith m graph trees qs → ps ≡ qs
one_list m graph trees ps qs x y =
    let spots : x.spots ≡ y.spots = (places.one_placement m graph.vertices x.spots y.spots x.memory y.memory x.placed y.placed).0 in
    let blocks : x.blocks ≡ y.blocks = keys.one_list graph.nets x.blocks y.blocks x.keyed y.keyed in
    same_places ps qs (x.one_plan_each ∙ sym y.one_plan_each) (λ i p q p_at q_at.
    let below : i < length graph.nets = subst (λ n. i < n) x.one_plan_each (slice_get_within ps i p p_at) in
    let net = slice_get_there graph.nets i below in
    let block = slice_get_there y.blocks i (subst (λ n. i < n) (sym y.keyed.all) below) in
    let edges = slice_get_there trees i (subst (λ n. i < n) (sym x.one_tree_each) below) in
    let here : IsNetWith x.spots net.0 block.0 edges.0 p = x.each i net.0 block.0 edges.0 p net.1 (subst (λ bs. slice_get bs i ≡ Some block.0) (sym blocks) block.1) edges.1 p_at in
    one_net y.spots net.0 block.0 edges.0 p q (subst (λ s. IsNetWith s net.0 block.0 edges.0 p) spots here) (y.each i net.0 block.0 edges.0 q net.1 block.1 edges.1 q_at))
