-- A router's turn: looks at its ports until one gives a copy, which is routed.
use Rattle.std.proofs.Common.{rules}
use Rattle.chip_node.proofs.Common.{East, Empty, Entry, Goes, Holdings, IsIdleAt, Item, List, Local, Look, Looks, McCopy, NoRoom, North, NorthEast, Out, Port, RouterNode, RoutesOne, ServesOuts, South}
use Rattle.chip_node.proofs.Common.{SouthWest, Stays, Took, West, [], ap, arith, cases_lt, dir_number, dir_number_below, get_or, map, outputs_at, port_number, port_place, refl, service_items, suc}
use Rattle.chip_node.proofs.Common.{took, zero, ℕ, ◌%◌, ◌+◌, ◌<◌, ◌∙◌, ◌∷◌, ◌≡◌, ◌≤◌}
use Rattle.spin_base.specs.declared.chips.Port.TheVariants.{Link}
use Rattle.chip_node.proofs.{Flows.goes_on, Flows.stays_goes, GoingRound.GoneBy, GoingRound.IsPlaceOf, GoingRound.gone_all, Stays.idle_before, Stays.roomy_on, Stays.stays_on}

-- a copy was taken after looks that did nothing, and each of its outputs was served
pub routes_one : (cap patience : ℕ) (entries : List Entry) (r : RouterNode) (port : Port) (k : McCopy) (outs : List Out) (a b c d : Holdings) → Stays a b
    → Goes cap patience b (took r.index port k ∷ []) c
    → outs ≡ outputs_at entries port k → ServesOuts cap patience r outs k c d → (items : List Item) × RoutesOne entries r items × Goes cap patience a items d
routes_one cap patience entries r port k outs a b c d stays takes given serves = (
  took r.index port k ∷ service_items r serves.done,
  record { port = port; copy = k; done = serves.done; each_once = serves.each_once ∙ ap (λ (l : List Out). map {B = Out × McCopy} (λ o. (o, k)) l) given; nowhere = serves.nowhere; are = refl },
  stays_goes cap patience a b d (took r.index port k ∷ service_items r serves.done) stays (goes_on cap patience b c d (took r.index port k ∷ []) (service_items r serves.done) takes serves.goes),
)

-- the place of a turn's step among seven ports
pub port_step : (number steps : ℕ) → steps < 7 → IsPlaceOf (number % 7) 7 steps ((number % 7 + steps) % 7)
port_step number steps low = grind (arith, cases_lt (number % 7 + steps) 7)

-- what holds at each place that was gone by holds at each port
pub ports_gone : (P : ℕ → Type 0) (start steps : ℕ) → 7 ≤ steps → GoneBy P start 7 steps → (port : Port) → P (port_number port)
ports_gone P start steps end gone port = grind (arith, gone_all, dir_number_below)

-- at the port of a number nothing is there to take, and was not before
pub next_idle : (a b : Holdings) (i at : ℕ) (p : Port) → Stays a b → port_number p ≡ at → IsIdleAt b.ends.items (port_place i p) → (port : Port) → port_number port ≡ at →
    IsIdleAt a.ends.items (port_place i port)
next_idle a b i at p stays number idle port same = grind (arith, idle_before a b (port_place i p) stays idle)

-- ---- the ports in the order of their numbers

abbrev pub seven_ports : List Port
seven_ports = Link East ∷ Link NorthEast ∷ Link North ∷ Link West ∷ Link SouthWest ∷ Link South ∷ Local ∷ []

pub port_at : (n : ℕ) → n < 7 → port_number (get_or seven_ports n (Link East)) ≡ n
port_at n low = grind arith

-- a look after nothing was done is a look
pub looks_on : (cap patience : ℕ) (entries : List Entry) (r : RouterNode) (port : Port) (a b : Holdings) (look : Look) (c : Holdings) → Stays a b →
    Looks cap patience entries r port b look c → Looks cap patience entries r port a look c
looks_on most patience entries r port a b (Took t) c s l = search (rules, stays_goes)
looks_on most patience entries r port a b Empty c s l = (stays_on a b c s l.0, idle_before a b _ s l.1)
looks_on most patience entries r port a b NoRoom c s l = (stays_on a b c s l.0, λ roomy. l.1 (roomy_on most a b s roomy))
