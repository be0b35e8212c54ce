-- What a look at a port of a router, and room for its outputs, tell (this project's own).
use Rattle.std.specs.Prelude.{◌≡◌, ◌≢◌, ℕ, ◌≤◌, List, [], ◌∷◌, length, Option, Some, All, AllPairs, slice_get}
use Rattle.spin_base.specs.declared.chips.Port.{Port}
use Rattle.spin_base.specs.declared.routes.Out.{Out}
use Rattle.spin_base.specs.declared.blocks.Entry.{Entry}
use Rattle.spin_base.specs.Outputs.{IsOutput}
use Rattle.chip_node.specs.declared.ends.End.{End}
use Rattle.chip_node.specs.declared.holdings.Holdings.{Holdings}
use Rattle.chip_node.specs.declared.routers.Look.{Look}
use Rattle.chip_node.specs.declared.routers.Look.TheVariants.{Took, Empty, NoRoom}
use Rattle.chip_node.specs.declared.routers.Taken.{Taken}
use Rattle.chip_node.specs.declared.nodes.Behind.{Behind}
use Rattle.chip_node.specs.declared.nodes.RouterNode.{RouterNode}
use Rattle.link_queue.specs.declared.links.Link.{Link}
use Rattle.chip_node.specs.Acting.{IsReadyRouter, place_at_router, place_in}
use Rattle.chip_node.specs.Going.{Goes, EndHasRoom, IsIdleAt, HasAmpleRoom, Stays}
use Rattle.chip_node.specs.Items.{took, port_place}
use Rattle.chip_node.specs.Routing.{outputs_at}

-- the queue of a place behind an output, where there is one, has room for a copy, or takes none
abbrev pub HasRoomIn : ℕ → Option Behind → Holdings → Type 0
HasRoomIn cap slot h = (q : ℕ) (e : End) → place_in (Some slot) ≡ Some q → slice_get h.ends.items q ≡ Some e → EndHasRoom cap e

-- the queue behind an output has room for a copy, or takes none
abbrev pub HasRoomBehind : ℕ → RouterNode → Holdings → Out → Type 0
HasRoomBehind cap r h o = (q : ℕ) (e : End) → place_at_router r.behind.now o ≡ Some q → slice_get h.ends.items q ≡ Some e → EndHasRoom cap e

-- A router may serve an output: its turn may begin, the output has a bit, and there is room for a copy behind it and for a record.
pub record MayServe (links : List Link) (cap : ℕ) (r : RouterNode) (h : Holdings) (o : Out) : Type 0 where
  pub ready : IsReadyRouter links r h
  pub numbered : IsOutput o
  pub room : HasRoomBehind cap r h o
  pub spare : 1 ≤ h.dumps.spare

-- outputs of which each has a bit, and no two are the same
pub record AreOuts (outs : List Out) : Type 0 where
  pub numbered : All IsOutput outs
  pub differ : AllPairs (λ a b. a ≢ b) outs

-- there is room for a copy at each of these outputs, and for as many records
pub record HasRoomForOuts (cap : ℕ) (r : RouterNode) (outs : List Out) (h : Holdings) : Type 0 where
  pub behind : All (HasRoomBehind cap r h) outs
  pub records : length outs ≤ h.dumps.spare

-- a copy was taken at a port, and there is room at the outputs that lookup gives it there
pub record TakesAt (cap patience : ℕ) (entries : List Entry) (r : RouterNode) (port : Port) (before : Holdings) (t : Taken) (after : Holdings) : Type 0 where
  pub goes : Goes cap patience before (took r.index port t.copy ∷ []) after
  pub given : t.outs.items ≡ outputs_at entries port t.copy
  pub outs : AreOuts t.outs.items
  pub room : HasRoomForOuts cap r t.outs.items after

-- a copy was taken at a port, with the outputs that lookup gives it there, and there is room at them; or nothing was done
abbrev pub Looks : ℕ → ℕ → List Entry → RouterNode → Port → Holdings → Look → Holdings → Type 0
Looks cap patience entries r port before (Took t) after = TakesAt cap patience entries r port before t after
Looks cap patience entries r port before Empty after = Stays before after × IsIdleAt before.ends.items (port_place r.index port)
Looks cap patience entries r port before NoRoom after = Stays before after × (HasAmpleRoom cap before → ⊥)
