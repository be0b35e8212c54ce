-- A graph has one cause of refusal, or a plan.
use Rattle.par_compile.proofs.Common.{All-at, Chip, CompileErr, CutOff, Description, Err, Graph, HasCutOff, HasNoneCutOff, IfErr, IfOk, IsCompileCause, IsFirstNetCutOff, IsPlanOf, IsRefusedWhere}
use Rattle.par_compile.proofs.Common.{IsRoutingOf, IsRoutingTree, KeysOut, List, Memory, Net, NetPlan, NoRoom, Ok, Placement, Plan, Result, Some, Spot, TableLong, ap, arith, blocks_of, inl, inr}
use Rattle.par_compile.proofs.Common.{none_cut_off, one_first_net, refl, slice_get, slice_get_there, slice_get_within, subst, ℕ, ◌≡◌}
use Rattle.place_fit.proofs.Determined as places
use Rattle.key_alloc.proofs.Determined as blocks
use Rattle.par_compile.proofs.Unique.{long_not_planned, one_long}

module _ (m : Description) (graph : Graph) where
  -- no target of a net is cut off where all are routed
  none_routed : (p : Placement) (ns : List NetPlan) → IsRoutingOf m graph p ns → (i : ℕ) (net : Net) → slice_get graph.nets i ≡ Some net → HasNoneCutOff m p.spots net
  none_routed p ns is i net at =
      let within = slice_get_within graph.nets i net at in
      let b = slice_get_there (blocks_of ns) i (omega (arith, within, is.blocks.all)) in
      let n = slice_get_there ns i (omega (arith, within, is.planned.one_plan_each)) in
      let planned = is.planned.each i net b.0 n.0 at b.1 n.1 in
      let tree : IsRoutingTree m n.0.tree.root n.0.tree.edges n.0.targets = All-at (λ (x : NetPlan). IsRoutingTree m x.tree.root x.tree.edges x.targets) ns i n.0 is.stand.trees n.1 in
      none_cut_off m p.spots net n.0.source n.0.targets n.0.tree.edges planned.source planned.targets
      (subst (λ r. IsRoutingTree m r n.0.tree.edges n.0.targets) planned.root tree)

  -- the first net that is cut off does not depend on which placement is meant
  same_first : (i : ℕ) (target : Chip) (has : HasCutOff m graph i target) (spots : List Spot) → has.spots ≡ spots → IsFirstNetCutOff m spots graph.nets i target
  same_first i target has spots same = subst (λ s. IsFirstNetCutOff m s graph.nets i target) same has.first

  -- a graph with a target that is cut off is not routed
  pub cut_not_routed : (i : ℕ) (target : Chip) (p : Placement) (ns : List NetPlan) → HasCutOff m graph i target → IsRoutingOf m graph p ns → ⊥
  cut_not_routed i target p ns has is =
      let same = (places.one_placement m graph.vertices has.spots p.spots has.memory p.memory has.placed is.placed).0 in
      let first = same_first i target has p.spots same in
      none_routed p ns is i first.net first.is first.target.source target first.target.is

  -- at most one net and target are the first that are cut off
  pub one_cut_off : (i j : ℕ) (a b : Chip) → HasCutOff m graph i a → HasCutOff m graph j b → (i ≡ j) × (a ≡ b)
  one_cut_off i j a b has other =
      let same = (places.one_placement m graph.vertices has.spots other.spots has.memory other.memory has.placed other.placed).0 in
      one_first_net m other.spots graph.nets i j a b (same_first i a has other.spots same) other.first

  module _ (target : ℕ) where
    -- Whatever the answer, if what it says is so, it is the one that the cause asks for.
    pub refused_where : (result : Result Plan CompileErr) → IfOk result (IsPlanOf m graph target) → IfErr result (IsCompileCause m graph target) → IsRefusedWhere m graph target result
    refused_where (Ok plan) is cause = record {
      no_room = λ v room. absurd (places.not_both m graph.vertices plan.placement.spots plan.placement.memory v is.routing.placed room);
      keys_out = λ n placed out. absurd (blocks.not_both graph.nets (blocks_of plan.nets) n is.routing.blocks out);
      cut_off = λ n t has. absurd (cut_not_routed n t plan.placement plan.nets has is.routing);
      table_long = λ c t has. absurd (long_not_planned m graph target c t plan has is);
    }
    refused_where (Err (NoRoom w)) is cause = record {
      no_room = λ v room. inl (ap (λ k. Err (NoRoom k)) (places.one_vertex m graph.vertices w v cause room));
      keys_out = λ n placed out. absurd (places.not_both m graph.vertices placed.0 placed.1 w placed.2 cause);
      cut_off = λ n t has. absurd (places.not_both m graph.vertices has.spots has.memory w has.placed cause);
      table_long = λ c t has. absurd (places.not_both m graph.vertices has.placement.spots has.placement.memory w has.routing.placed cause);
    }
    refused_where (Err (KeysOut k)) is cause = record {
      no_room = λ v room. absurd (places.not_both m graph.vertices cause.0.0 cause.0.1 v cause.0.2 room);
      keys_out = λ n placed out. inl (ap (λ j. Err (KeysOut j)) (blocks.one_net graph.nets k n cause.1 out));
      cut_off = λ n t has. absurd (blocks.not_both graph.nets has.blocks k has.keyed cause.1);
      table_long = λ c t has. absurd (blocks.not_both graph.nets (blocks_of has.nets) k has.routing.blocks cause.1);
    }
    refused_where (Err (CutOff i a)) is cause = record {
      no_room = λ v room. absurd (places.not_both m graph.vertices cause.spots cause.memory v cause.placed room);
      keys_out = λ n placed out. absurd (blocks.not_both graph.nets cause.blocks n cause.keyed out);
      cut_off = λ n t has. let one = one_cut_off i n a t cause has in inl (λ k. Err (CutOff (one.0 k) (one.1 k)));
      table_long = λ c t has. absurd (cut_not_routed i a has.placement has.nets cause has.routing);
    }
    refused_where (Err (TableLong c t)) is cause = record {
      no_room = λ v room. absurd (places.not_both m graph.vertices cause.0.placement.spots cause.0.placement.memory v cause.0.routing.placed room);
      keys_out = λ n placed out. absurd (blocks.not_both graph.nets (blocks_of cause.0.nets) n cause.0.routing.blocks out);
      cut_off = λ n a has. absurd (cut_not_routed n a cause.0.placement cause.0.nets has cause.0.routing);
      table_long = λ d u has. let one = one_long m graph target c d t u cause.0 has in inl (λ k. Err (TableLong (one.0 k) (one.1 k)));
    }
    refused_where (Err Memory) is cause = record { no_room = λ v room. inr refl; keys_out = λ n placed out. inr refl; cut_off = λ n t has. inr refl; table_long = λ c t has. inr refl }
