-- What contracts see of links whose ends may be lent.
use Rattle.std.specs.Prelude.{◌≡◌, ℕ, ◌≤◌, List, map, None, Some, slice_set}
use Rattle.link_queue.specs.declared.links.LinkEnds.{LinkEnds}
use Rattle.mesh_run.specs.declared.standing.Rising.{Rising}
use Rattle.mesh_run.specs.declared.standing.Standing.{Standing}

-- these links are up, with their ends, and there is room for so many more
pub record RisenTo (ends : List LinkEnds) (spare : ℕ) (r : Rising) : Type 0 where
  pub links : r.links.items ≡ map (λ (e : LinkEnds). e.link) ends
  pub txs : r.txs.items ≡ map (λ (e : LinkEnds). Some e.tx) ends
  pub rxs : r.rxs.items ≡ map (λ (e : LinkEnds). Some e.rx) ends
  pub rooms : r.rooms.items ≡ map (λ (e : LinkEnds). e.room) ends
  pub links_spare : spare ≤ r.links.spare
  pub txs_spare : spare ≤ r.txs.spare
  pub rxs_spare : spare ≤ r.rxs.spare
  pub rooms_spare : spare ≤ r.rooms.spare

-- the links with all their ends
pub record HoldsAll (ends : List LinkEnds) (s : Standing) : Type 0 where
  pub links : s.links.items ≡ map (λ (e : LinkEnds). e.link) ends
  pub txs : s.txs.items ≡ map (λ (e : LinkEnds). Some e.tx) ends
  pub rxs : s.rxs.items ≡ map (λ (e : LinkEnds). Some e.rx) ends
  pub rooms : s.rooms.items ≡ map (λ (e : LinkEnds). e.room) ends

-- the links with all their ends, but for those at one place
pub record LacksEnds (ends : List LinkEnds) (place : ℕ) (s : Standing) : Type 0 where
  pub links : s.links.items ≡ map (λ (e : LinkEnds). e.link) ends
  pub txs : s.txs.items ≡ slice_set (map (λ (e : LinkEnds). Some e.tx) ends) place None
  pub rxs : s.rxs.items ≡ slice_set (map (λ (e : LinkEnds). Some e.rx) ends) place None
  pub rooms : s.rooms.items ≡ map (λ (e : LinkEnds). e.room) ends
