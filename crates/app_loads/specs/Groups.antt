-- What a group of deliveries holds: packets and the places where each of them came.
use Rattle.std.specs.Prelude.{◌≡◌, ℕ, ◌≤◌, List, [], ◌∷◌, ◌++◌, All, length, map}
use Rattle.std.specs.List.{flat_map}
use Rattle.spin_base.specs.declared.copies.Delivery.{Delivery}
use Rattle.spin_base.specs.declared.copies.McCopy.{McCopy}
use Rattle.app_loads.specs.declared.arrivals.Arrival.{Arrival}
use Rattle.app_loads.specs.declared.group.Sent.{Sent}
use Rattle.app_loads.specs.declared.group.Group.TheInside.{Inside}
use Rattle.app_loads.specs.Grouping.{Grouped}

-- the delivery of a packet's copy at a place
abbrev pub delivery_of : Sent → Arrival → Delivery
delivery_of p a = record { vertex = a.vertex; copy = record { packet = p.packet; key = p.key; payload = p.payload; hop = a.hop } }

-- what a copy has in common with all copies of its packet
abbrev pub sent_of : McCopy → Sent
sent_of k = record { packet = k.packet; key = k.key; payload = k.payload }

-- and where it came
abbrev pub arrival_of : Delivery → Arrival
arrival_of d = record { vertex = d.vertex; hop = d.copy.hop }

-- a packet's deliveries
abbrev pub deliveries_at : List Arrival → Sent → List Delivery
deliveries_at arrivals p = map (delivery_of p) arrivals

-- those of all packets, packet by packet
abbrev pub deliveries_in : List Sent → List Arrival → List Delivery
deliveries_in sent arrivals = flat_map (deliveries_at arrivals) sent

abbrev pub grouped_of : Inside → Grouped
grouped_of g = record { deliveries = deliveries_in g.sent g.arrivals; arrivals = g.arrivals; least = g.least; greatest = g.greatest }

-- a packet's number is not below the least and not above the greatest
pub record IsBetween (least greatest : ℕ) (p : Sent) : Type 0 where
  pub low : least ≤ p.packet
  pub high : p.packet ≤ greatest

-- The deliveries are counted, and the packets lie between the least and the greatest.
pub record IsGroup (g : Inside) : Type 0 where
  pub counted : g.count ≡ length (deliveries_in g.sent g.arrivals)
  pub between : All (IsBetween g.least g.greatest) g.sent

-- The last of some deliveries, so many, are those of a packet that came there.
pub record EndsWith (deliveries : List Delivery) (arrivals : List Arrival) (p : Sent) (count : ℕ) : Type 0 where
  pub before : List Delivery
  pub is : deliveries ≡ before ++ deliveries_at arrivals p
  pub long : length arrivals ≡ count

-- where the packets of the last group came
abbrev pub last_arrivals : List Grouped → List Arrival
last_arrivals [] = []
last_arrivals (g ∷ []) = g.arrivals
last_arrivals (g ∷ h ∷ gs) = last_arrivals (h ∷ gs)
