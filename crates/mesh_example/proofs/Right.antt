-- The tables of the example are right for its nets, and tables that lack a row are not.
use Rattle.std.proofs.Common.{◌≡◌, ℕ, ◌==◌, List, [], ◌∷◌, map, Bool, true, false, Some, refl, sym, ap, ◌∙◌, subst, arith, inl, inr}
use Rattle.std.proofs.lemmas.{Bool.false≢true, List.Elements.All-from_recursion}
use Rattle.std.specs.List.{Contains}
use Rattle.spin_base.proofs.{Members.Among, Members.Contains-only, Equality.out_eq_true, Lookups.lookup_hit, Lookups.lookup_miss, Once.all_once}
use Rattle.spin_base.specs.declared.{chips.Chip.Chip, chips.Port.Port, chips.Port.TheVariants.Local, chips.Dir.TheVariants.East, chips.Dir.TheVariants.West, routes.Out.Out}
use Rattle.spin_base.specs.{declared.routes.Out.TheVariants.Link, declared.routes.Route.Route, Outputs.has, Outputs.all_outs, Outputs.link_outs, Outputs.core_outs, Outputs.IsOutput, Lookup.lookup}
use Rattle.spin_base.specs.{Lookup.matches, Links.opposite_of}
use Rattle.spin_base.specs.declared.chips.Port.TheVariants.{Link as ByLink}
use Rattle.machine_desc.specs.{declared.trees.Edge.Edge, RoutingTree.end_of, declared.nets.NetPlan.NetPlan, Outputs.is_wanted, RightTables.IsKeyOf, RightTables.RoutesByTree, RightTables.AreRight}
use Rattle.machine_desc.specs.RightTables.{table_at}
use Rattle.mesh_core.proofs.Counting.{counted}
use Rattle.mesh_example.specs.Board.{two_chip_board, left_chip, right_chip, east, targets, net, other_net, nets, tables, wrong_tables, right_table, block, other_block, left_route, right_route}
use Rattle.mesh_example.specs.Board.{east_route, entry_of_key}

is_first : (route : Route) (key : ℕ) → IsKeyOf block key → matches (entry_of_key 0 route) key ≡ true
is_first route key k = ap (λ (n : ℕ). n == 0) k.matches

is_not_first : (route : Route) (key : ℕ) → IsKeyOf other_block key → matches (entry_of_key 0 route) key ≡ false
is_not_first route key k = ap (λ (n : ℕ). n == 0) k.matches

is_second : (route : Route) (key : ℕ) → IsKeyOf other_block key → matches (entry_of_key 1 route) key ≡ true
is_second route key k = ap (λ (n : ℕ). n == 1) k.matches

-- a route has the outputs that a tree of the one link wants at a chip
HasWanted : Route → NetPlan → Chip → Type 0
HasWanted route n c = (o : Out) → IsOutput o → has route o ≡ is_wanted (east ∷ []) n.targets c o

-- where two tests give the same list of answers, they agree on each item
agree_on : {X : Type 0} (f g : X → Bool) (xs : List X) (x : X) → map f xs ≡ map g xs → Among x xs → f x ≡ g x
agree_on f g [] x same has = absurd has
agree_on f g (y ∷ xs) x same (inl is) = let heads : f y ≡ g y = cc same in subst (λ z. f z ≡ g z) (sym is) heads
agree_on f g (y ∷ xs) x same (inr has) = agree_on f g xs x (cc same) has

wanted_by : (route : Route) (n : NetPlan) (c : Chip) → map (has route) all_outs ≡ map (is_wanted (east ∷ []) n.targets c) all_outs → HasWanted route n c
unfolding HasWanted
wanted_by route n c same o valid = grind (arith, counted, all_once, out_eq_true, agree_on)

left_outs : HasWanted left_route net left_chip
unfolding link_outs core_outs
left_outs = wanted_by left_route net left_chip refl

right_outs : HasWanted right_route net right_chip
unfolding link_outs core_outs
right_outs = wanted_by right_route net right_chip refl

other_left_outs : HasWanted east_route other_net left_chip
unfolding link_outs core_outs
other_left_outs = wanted_by east_route other_net left_chip refl

other_right_outs : HasWanted east_route other_net right_chip
unfolding link_outs core_outs
other_right_outs = wanted_by east_route other_net right_chip refl

IsRightAt : NetPlan → ℕ → Port → Out → Chip → Type 0
IsRightAt n key port o c = has (lookup (table_at two_chip_board tables c) key port) o ≡ is_wanted (east ∷ []) n.targets c o

right_by : (n : NetPlan) (key : ℕ) (port : Port) (o : Out) (c : Chip) (route : Route) → lookup (table_at two_chip_board tables c) key port ≡ route → HasWanted route n c → IsOutput o →
    IsRightAt n key port o c
unfolding IsRightAt HasWanted
right_by n key port o c route is wanted valid = ap (λ r. has r o) is ∙ wanted o valid

-- where the nets' packets come in: anywhere on the left chip, and by the link west on the right one
at_end : (c : Chip) (e : Edge) → Contains (east ∷ []) e → end_of two_chip_board e ≡ Some c → (east ≡ e) × (right_chip ≡ c)
at_end c e has ends = grind (arith, Contains-only east e has)

net_right : RoutesByTree two_chip_board tables net
unfolding IsRightAt
net_right c port key o (inl root) k valid =
    subst (IsRightAt net key port o) (sym root.0)
    (right_by net key port o left_chip left_route (lookup_hit (entry_of_key 0 left_route) (entry_of_key 1 east_route ∷ []) key port (is_first left_route key k)) left_outs valid)
net_right c port key o (inr h) k valid =
    subst (IsRightAt net key port o) (at_end c h.0 h.1 h.2).1
    (right_by net key port o right_chip right_route (lookup_hit (entry_of_key 0 right_route) [] key port (is_first right_route key k)) right_outs valid)

other_right : RoutesByTree two_chip_board tables other_net
unfolding IsRightAt
other_right c port key o (inl root) k valid =
    subst (IsRightAt other_net key port o) (sym root.0)
    (right_by other_net key port o left_chip east_route
    (lookup_miss (entry_of_key 0 left_route) (entry_of_key 1 east_route ∷ []) key port (is_not_first left_route key k)
    ∙ lookup_hit (entry_of_key 1 east_route) [] key port (is_second east_route key k)) other_left_outs valid)
other_right c port key o (inr h) k valid =
    let there = at_end c h.0 h.1 h.2 in
    let by_west : port ≡ ByLink West = h.3 ∙ ap (λ (e : Edge). ByLink (opposite_of e.dir)) (sym there.0) in
    let straight : lookup right_table key (ByLink West) ≡ east_route = lookup_miss (entry_of_key 0 right_route) [] key (ByLink West) (is_not_first right_route key k) in
    subst (IsRightAt other_net key port o) there.1
    (subst (λ (p : Port). IsRightAt other_net key p o right_chip) (sym by_west) (right_by other_net key (ByLink West) o right_chip east_route straight other_right_outs valid))

pub tables_right : AreRight two_chip_board tables nets
tables_right = All-from_recursion (RoutesByTree two_chip_board tables) nets (net_right, (other_right, tt))

-- without its row on the left chip, the other net's packet goes nowhere
pub wrong_not_right : AreRight two_chip_board wrong_tables nets → ⊥
wrong_not_right h = grind (arith, false≢true ((h 1 other_net (omega arith)) left_chip Local 1 (Link East) (inl (refl, refl)) (record { fits = omega arith; matches = refl }) tt))
