use Rattle.ner_trees.proofs.Common.{Description, Dir, Edge, IsCutAt, IsInside, IsMarkedBy, List, ap, arith, displacement_of, is_on, ldf_of, refl, subst, true, ◌++◌, ◌∙◌, ◌≡◌}
use Rattle.ner_trees.proofs.{Growing.extended_inside, Growing.near_on_table, Growing.added_is, Growing.tells_more, growths.add_target.Goals.After-near_chip-near}
use Rattle.ner_trees.proofs.growths.add_target.Goals as goal

pub near_chip-near-requires : goal.near_chip-near-requires
near_chip-near-requires c = record { inside = c.requires.target_inside; on_is = c.requires.on_is }

-- the chip that is near is one of the tree
near : (c : After-near_chip-near) → IsInside c.args.tree.now.on.machine.now c.near_chip-near.result
    × (is_on c.args.tree.now.on.machine.now c.args.tree.now.on.items.items c.near_chip-near.result ≡ true)
near c =
    let t = c.args.tree.now in
    near_on_table t.on.machine.now t.root t.on.items.items t.edges.items c.args.target c.near_chip-near.result t.root_inside t.edges_inside c.requires.on_is
    c.near_chip-near.ensures

pub invariant_of-begin : goal.invariant_of-begin
invariant_of-begin c = let at = near (goal.at.invariant_of-begin c).After-near_chip-near in record { inside = at.0; marked = at.1 }

pub invariant_of-pair : goal.invariant_of-pair
invariant_of-pair c = grind (arith, near)

pub mark-requires : goal.mark-requires
mark-requires c = grind arith

pub invariant_of-tree : goal.invariant_of-tree
invariant_of-tree c = grind arith

pub invariant_of-tree-2 : goal.invariant_of-tree-2
invariant_of-tree-2 c = grind (arith, extended_inside)

pub returns : goal.returns
returns c =
    let t = c.args.tree.now in
    let m = t.on.machine.now in
    let near = c.near_chip-near.result in
    let start = c.in_ok-start.start in
    let links : List Edge = c.new_branch.new.links.items in
    let steps : List Dir = c.walk_anew.new.walk.items in
    let whole : c.extend_from_slice.new.self.items ≡ t.edges.items ++ links =
    c.in_ok-extend_from_slice.ensures.items ∙ ap (λ (es : List Edge). t.edges.items ++ es) c.deref-3.ensures.value in
    let marked : IsMarkedBy m t.on.items.items c.mark.new.on.items.items links =
    subst (λ (es : List Edge). IsMarkedBy m t.on.items.items c.mark.new.on.items.items es) c.deref-2.ensures.value c.in_ok-mark.ensures.marked in
    let cut : IsCutAt m t.on.items.items near steps start links =
    subst (λ (ds : List Dir). IsCutAt m t.on.items.items near ds start links) c.deref.ensures.value c.in_ok-start.ensures in
    let walk : steps ≡ ldf_of (displacement_of m near c.args.target) =
    c.in_ok-walk_anew.ensures ∙ ap ldf_of (c.displacement.ensures.value ∙ ap (λ (k : Description). displacement_of k near c.args.target) c.machine.ensures) in
    record {
      machine = c.mark.ensures.machine;
      root = refl;
      on_is = tells_more m t.root t.on.items.items c.mark.new.on.items.items t.edges.items links c.extend_from_slice.new.self.items whole c.requires.on_is marked;
      target = refl;
      joined = (
        c.near_chip-near.ensures,
        (
          links,
          added_is m t.root t.on.items.items t.edges.items (record { target = c.args.target; near = near; start = start }) steps links c.requires.on_is walk cut,
          whole,
        ),
      );
    }
