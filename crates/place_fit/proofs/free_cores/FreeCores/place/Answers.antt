use Rattle.place_fit.proofs.Common.{All, AllPairs, AreFreeOn, AreGiven, AreSettled, HaveDifferentDevices, IsWithout, List, None, Spot, Vertex, subst, sym, ◌≡◌, ◌≢◌}
use Rattle.place_fit.proofs.{Giving.whole_again, SpotLaws.all_differ, SpotLaws.free_back, SpotLaws.free_without}
use Rattle.place_fit.proofs.free_cores.FreeCores.place.Goals as goal

pub invariant_of-self : goal.invariant_of-self
invariant_of-self c = whole_again _ _ _ _ c.self.invariant c.put_all.ensures.kept (subst (λ l. AreSettled l c.put_all.new.board c.settle.new.self) c.deref.ensures.value c.settle.ensures.settled)

pub invariant_of-self-in-Err-1 : goal.invariant_of-self-in-Err-1
invariant_of-self-in-Err-1 c = whole_again _ _ _ _ c.self.invariant (rw c.deref-in-Err.ensures.value c.put_all.ensures.kept) c.give.ensures.settled

pub returns-in-Ok-clause-different : goal.returns-in-Ok-clause-different
returns-in-Ok-clause-different c m free =
    let placed = c.put_all.ensures.placed m (subst (AreFreeOn m) (sym c.self.view_is) free) in
    subst (λ (l : List Spot). AllPairs (λ a b. a ≢ b) l) (sym c.from_vec.ensures) (all_differ m _ c.as_slice.result.now c.put_all.new.spots.items placed.first
    (subst (λ (vs : List Vertex). AllPairs HaveDifferentDevices vs) (sym c.as_slice.ensures) c.requires.valid.devices))

pub returns-in-Ok-clause-taken : goal.returns-in-Ok-clause-taken
returns-in-Ok-clause-taken c m n free less =
    let placed = c.put_all.ensures.placed m (subst (AreFreeOn m) (sym c.self.view_is) free) in
    free_without m c.as_slice.result.now c.put_all.new.spots.items c.put_all.new.memory.items c.put_all.new.board c.settle.new.self placed n
    (subst (λ l. AreSettled l c.put_all.new.board c.settle.new.self) c.deref.ensures.value c.settle.ensures.settled) c.settle.ensures.same
    (subst (λ (l : List Spot). IsWithout l m n) c.from_vec.ensures less)

pub returns-in-Err-clause-refused : goal.returns-in-Err-clause-refused
returns-in-Err-clause-refused c m free =
    let placed = c.put_all.ensures.placed m (subst (AreFreeOn m) (sym c.self.view_is) free) in
    free_back m c.as_slice.result.now c.put_all.new.spots.items c.put_all.new.memory.items c.put_all.new.board c.give.new.self placed (subst (λ (vs : List Vertex). All (λ (v : Vertex). v.device ≡ None) vs) (sym c.as_slice.ensures) c.requires.cores)
    (subst (λ l. AreGiven l c.put_all.new.board c.give.new.self) c.deref-in-Err.ensures.value c.give.ensures)
