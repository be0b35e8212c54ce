-- In which shares the two ends of each queue stand (this project's own).
use Rattle.std.proofs.Common.{zero, suc}
use Rattle.std.specs.Prelude.{◌≡◌, ◌≢◌, ◌⊎◌, ℕ, ◌+◌, ◌*◌, ◌^◌, ◌<◌, ◌≤◌, List, [], ◌∷◌, ◌++◌, replicate, length, Option, Some, All, slice_get, slice_index_or}
use Rattle.spin_base.specs.declared.routes.Out.{Out}
use Rattle.spin_base.specs.Outputs.{out_number, IsOutput}
use Rattle.machine_desc.specs.Live.{chip_of}
use Rattle.mesh_core.specs.State.{Setup}
use Rattle.chip_node.specs.Items.{injection_place}
use Rattle.mesh_run.specs.declared.homes.Cut.{Cut}
use Rattle.mesh_run.specs.declared.homes.Home.{Home}
use Rattle.mesh_run.specs.Floors.{grid_size}
use Rattle.mesh_run.specs.Played.{port_count, place_behind, IsLiveIndex}
use Rattle.mesh_run.specs.Shares.{router_place, bank_place, IsInRun}

-- Runs of so many places: each but the first begins where the one before ends, and the last ends with the last place.
pub record AreShareRuns (count : ℕ) (ends : List ℕ) : Type 0 where
  pub rising : (a b : ℕ) → a < b → b < length ends → slice_index_or ends a 0 ≤ slice_index_or ends b 0
  pub last : (n : ℕ) → length ends ≡ n + 1 → slice_index_or ends n 0 ≡ count
  pub some : 0 < length ends
  pub few : length ends ≤ count + 1

-- where the run of a number begins
abbrev pub run_start : List ℕ → ℕ → ℕ
run_start ends zero = 0
run_start ends (suc k) = slice_index_or ends k 0

-- the number of the run of each place
pub record IsShareTable (count : ℕ) (ends : List ℕ) (table : List ℕ) : Type 0 where
  pub long : length table ≡ count
  pub number : (a k : ℕ) → k < length ends → IsInRun (run_start ends k) (slice_index_or ends k 0) a → slice_get table a ≡ Some k
  pub below : (a k : ℕ) → slice_get table a ≡ Some k → k < length ends

-- The homes of all queues: an output's router sends to the queue behind it, and a bank to its chip's injection queue. All of a bank's
-- vertices' queues are received in the bank's share.
pub record AreHomesOf (u : Setup) (table : List ℕ) (homes : List Home) : Type 0 where
  pub long : length homes ≡ port_count u + length u.spots
  pub routers : (i : ℕ) (o : Out) (q k : ℕ) (h : Home) → IsLiveIndex u i → IsOutput o → place_behind u (chip_of u.machine i) o ≡ Some q → slice_get table (router_place i) ≡ Some k
      → slice_get homes q ≡ Some h → h.sender ≡ k
  pub banks : (i k : ℕ) (h : Home) → IsLiveIndex u i → slice_get table (bank_place i) ≡ Some k → slice_get homes (injection_place i) ≡ Some h → h.sender ≡ k
  pub below : (q : ℕ) (h : Home) (n : ℕ) → slice_get homes q ≡ Some h → ((a k : ℕ) → slice_get table a ≡ Some k → k < n) → (h.sender < n) × (h.receiver < n)

-- ---- made one after the other

-- a run may end at a place
abbrev pub MayGrow : ℕ → List ℕ → List ℕ → Type 0
MayGrow place before after = (after ≡ before) ⊎ (after ≡ before ++ place ∷ [])

-- the homes of the queues of a chip's seven ports, by the shares of its router and its bank
abbrev pub homes_of_ports : ℕ → ℕ → List Home
homes_of_ports router bank = replicate 6 (record { sender = router; receiver = router }) ++ record { sender = bank; receiver = router } ∷ []

-- the numbers of both are in the table
pub record IsInTable (table : List ℕ) (h : Home) : Type 0 where
  pub sender_at : ℕ
  pub sender : slice_get table sender_at ≡ Some h.sender
  pub receiver_at : ℕ
  pub receiver : slice_get table receiver_at ≡ Some h.receiver

-- homes of the queues of the ports of so many chips, and of so many vertices
pub record AreHomesTo (table : List ℕ) (chips vertices : ℕ) (homes : List Home) : Type 0 where
  pub long : length homes ≡ 7 * chips + vertices
  pub listed : All (IsInTable table) homes
  pub banks : (i k : ℕ) (h : Home) → i < chips → slice_get table (bank_place i) ≡ Some k → slice_get homes (injection_place i) ≡ Some h → h.sender ≡ k

-- an output of a chip before this one, or an output before that of this number
abbrev pub IsBefore : ℕ → ℕ → ℕ → Out → Type 0
IsBefore index number i o = (i < index) ⊎ ((i ≡ index) × (out_number o < number))

-- The routers of the chips before one, and its own for outputs below a number, send to the queues behind their outputs.
pub record HaveSenders (u : Setup) (table : List ℕ) (index number : ℕ) (homes : List Home) : Type 0 where
  pub homes_are : AreHomesTo table (grid_size u) (length u.spots) homes
  pub routers : (i : ℕ) (o : Out) (q k : ℕ) (h : Home) → IsBefore index number i o → IsLiveIndex u i → IsOutput o → place_behind u (chip_of u.machine i) o ≡ Some q → slice_get table (router_place i) ≡ Some k
      → slice_get homes q ≡ Some h → h.sender ≡ k

-- the queue at a place has another sender, and all else is the same
pub record SetsSender (place : Option ℕ) (sender : ℕ) (before after : List Home) : Type 0 where
  pub long : length after ≡ length before
  pub here : (q : ℕ) (h : Home) → place ≡ Some q → slice_get after q ≡ Some h → h.sender ≡ sender
  pub others : (q : ℕ) (h : Home) → (place ≡ Some q → ⊥) → slice_get after q ≡ Some h → slice_get before q ≡ Some h
  pub receivers : (q : ℕ) (h : Home) → slice_get after q ≡ Some h → (g : Home) × (slice_get before q ≡ Some g) × (h.receiver ≡ g.receiver)

-- the queue at a place is a cut, where it is between two shares
abbrev pub MayCut : ℕ → Home → List Cut → List Cut → Type 0
MayCut place home before after = ((home.sender ≡ home.receiver) × (after ≡ before))
    ⊎ ((home.sender ≢ home.receiver) × (after ≡ before ++ record { queue = place; sender = home.sender; receiver = home.receiver } ∷ []))

-- The cuts are the queues whose sender and receiver stand in two shares, once each, with both.
pub record AreCutsOf (homes : List Home) (cuts : List Cut) : Type 0 where
  pub cut : (l : ℕ) (c : Cut) → slice_get cuts l ≡ Some c → (slice_get homes c.queue ≡ Some (record { sender = c.sender; receiver = c.receiver })) × (c.sender ≢ c.receiver)
  pub all_cut : (q : ℕ) (h : Home) → slice_get homes q ≡ Some h → h.sender ≢ h.receiver → (l : ℕ) × (c : Cut) × (slice_get cuts l ≡ Some c) × (c.queue ≡ q)
  pub apart : (k l : ℕ) (a b : Cut) → slice_get cuts k ≡ Some a → slice_get cuts l ≡ Some b → a.queue ≡ b.queue → k ≡ l
  pub few : length cuts < 2 ^ 32
