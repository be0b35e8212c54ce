-- A graph has at most one refusal that is due, and none where it has nets with trees.
use Rattle.spin_checks.proofs.Common.{AreNetsWith, Description, Edge, Err, Graph, HasNoAnswer, IfErr, IfOk, IsAnswer, IsJobRefusal, IsKeysCause, IsPlacement, IsPlacementCause, IsRefusedBy, KeyErr}
use Rattle.spin_checks.proofs.Common.{KeysOut, List, Memory, Net, NetPlan, NoRoom, Ok, Option, PlaceErr, Refusal, Result, Spot, Vertex, WantsMemory, [], ap, arith, inl, inr, key_refusal, keys_out}
use Rattle.spin_checks.proofs.Common.{net_in, no_room, one_item_at, option_map_or, place_refusal, vertex_in, ℕ, ◌∙◌, ◌≡◌}
use Rattle.place_fit.specs.declared.placing.PlaceErr.TheVariants as places
use Rattle.key_alloc.specs.declared.alloc.KeyErr.TheVariants as keys
use Rattle.place_fit.proofs.Determined as placing
use Rattle.key_alloc.proofs.Determined as keying

module _ (m : Description) (graph : Graph) where
  -- one refusal is due
  one_due : (r s : Refusal) → IsJobRefusal m graph r → IsJobRefusal m graph s → r ≡ s
  one_due r s (no_room i v room at is) (no_room j w other there also) = grind (arith, one_item_at graph.vertices i j v w (placing.one_vertex m graph.vertices i j room other) at there)
  one_due r s (no_room i v room at is) (keys_out spots memory placed j w out there also) = absurd (placing.not_both m graph.vertices spots memory i placed room)
  one_due r s (keys_out spots memory placed i v out at is) (no_room j w room there also) = absurd (placing.not_both m graph.vertices spots memory j placed room)
  one_due r s (keys_out spots memory placed i v out at is) (keys_out spots' memory' placed' j w other there also) =
      grind (arith, one_item_at graph.nets i j v w (keying.one_net graph.nets i j out other) at there)

  -- none is where there are nets with trees
  pub none_due : (trees : List (List Edge)) (nets : List NetPlan) (r : Refusal) → AreNetsWith m graph trees nets → IsJobRefusal m graph r → ⊥
  none_due trees nets r are (no_room i v room at is) = placing.not_both m graph.vertices are.spots are.memory i are.placed room
  none_due trees nets r are (keys_out spots memory placed i v out at is) = keying.not_both graph.nets are.blocks i are.keyed out

  -- Whatever is answered, if what it says is so, it is the refusal that is due.
  pub refused_where : {X : Type 0} (P : X → Type 0) → ((x : X) → P x → (r : Refusal) → IsJobRefusal m graph r → ⊥) →
      (result : Result X Refusal) → IfOk result P → IfErr result (HasNoAnswer m graph) → (r : Refusal) →
      IsJobRefusal m graph r → IsRefusedBy result r Memory
  refused_where P never (Ok x) is cause r due = absurd (never x is r due)
  refused_where P never (Err s) is (inl other) r due = inl (ap Err (one_due s r other due))
  refused_where P never (Err s) is (inr no_memory) r due = inr (ap Err no_memory)

  pub refused_nets : (trees : List (List Edge)) (result : Result (List NetPlan) Refusal) → IfOk result (AreNetsWith m graph trees) → IfErr result (HasNoAnswer m graph) → (r : Refusal) →
      IsJobRefusal m graph r → IsRefusedBy result r Memory
  refused_nets trees = refused_where (AreNetsWith m graph trees) (λ nets are r due. none_due trees nets r are due)

  pub refused_answer : (trees : List (List Edge)) (bytes : List ℕ) (result : Result (List ℕ) Refusal) →
      IfOk result (IsAnswer m graph trees bytes) → IfErr result (HasNoAnswer m graph) → (r : Refusal) →
      IsJobRefusal m graph r → IsRefusedBy result r Memory
  refused_answer trees bytes = refused_where (IsAnswer m graph trees bytes) (λ text is r due. none_due trees is.nets r is.are due)

  -- the refusal by the name of the vertex without room
  pub place_due : (e : PlaceErr) (name : Result (List ℕ) WantsMemory) (r : Refusal) → IsPlacementCause m graph.vertices e → IfOk name (λ n. n ≡ vertex_in graph e) →
      r ≡ place_refusal e name → HasNoAnswer m graph r
  place_due (places.NoRoom i) (Ok name) r room named is =
      inl (no_room i room.vertex room room.is (is ∙ ap NoRoom (named ∙ ap (λ (o : Option Vertex). option_map_or (λ (v : Vertex). v.name) o []) room.is)))
  place_due (places.NoRoom i) (Err memory) r room named is = inr is
  place_due places.Memory name r room named is = inr is

  -- the refusal by the name of the net without keys
  pub key_due : (spots : List Spot) (memory : List ℕ) → IsPlacement m graph.vertices spots memory → (e : KeyErr) (name : Result (List ℕ) WantsMemory) (r : Refusal) →
      IsKeysCause graph.nets e → IfOk name (λ n. n ≡ net_in graph e) → r ≡ key_refusal e name → HasNoAnswer m graph r
  key_due spots memory placed (keys.KeysOut i) (Ok name) r out named is =
      inl (keys_out spots memory placed i out.net out out.is (is ∙ ap KeysOut (named ∙ ap (λ (o : Option Net). option_map_or (λ (n : Net). n.name) o []) out.is)))
  key_due spots memory placed (keys.KeysOut i) (Err no_name) r out named is = inr is
  key_due spots memory placed keys.Memory name r out named is = inr is
