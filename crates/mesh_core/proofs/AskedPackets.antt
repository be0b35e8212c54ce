-- The packets that a job asks for, each with its net.
use Rattle.mesh_core.proofs.Common.{AreOfNets, Asked, Contains, IsKeyOf, List, NetPlan, None, Option, Packet, Some, ap, arith, asked_at, asked_by, asked_in, get_or_from_slice_get, label_in, none-some}
use Rattle.mesh_core.proofs.Common.{same_Some, slice_get, slice_get_within, sym, ℕ, ◌∙◌, ◌≡◌}

-- what a packet of a net asks for
abbrev pub asks : NetPlan → Packet → Asked
asks net p = record { net = net; label = label_in net p }

-- the packet that was asked for by a number, and its net
pub record IsAsked (nets : List NetPlan) (packets : List Packet) (i : ℕ) (a : Asked) : Type 0 where
  pub packet : Packet
  pub net : NetPlan
  pub is_packet : slice_get packets i ≡ Some packet
  pub is_net : slice_get nets packet.net ≡ Some net
  pub is_asked : a ≡ asks net packet

pub asked_parts : (nets : List NetPlan) (packets : List Packet) (i : ℕ) (a : Asked) → asked_by nets packets i ≡ Some a → IsAsked nets packets i a
asked_parts nets packets i a asked = grind (arith, by_net, none-some)
  where
    by_net : (p : Packet) → slice_get packets i ≡ Some p → (net : Option NetPlan) → slice_get nets p.net ≡ net → asked_in p net ≡ Some a → IsAsked nets packets i a
    by_net p at (Some net) is e = record { packet = p; net = net; is_packet = at; is_net = is; is_asked = sym (same_Some (asks net p) a e) }
    by_net p at None is e = absurd (none-some a e)

-- and the other way round
pub asked_from : (nets : List NetPlan) (packets : List Packet) (i : ℕ) (p : Packet) (net : NetPlan) → slice_get packets i ≡ Some p → slice_get nets p.net ≡ Some net →
    asked_by nets packets i ≡ Some (asks net p)
asked_from nets packets i p net at is = ap (asked_at nets) at ∙ ap (asked_in p) is

-- the net of a packet is one of the list
pub net_in_list : (nets : List NetPlan) (p : Packet) (net : NetPlan) → slice_get nets p.net ≡ Some net → Contains nets net
net_in_list nets p net is = (p.net, slice_get_within nets p.net net is, get_or_from_slice_get nets p.net net net is)

-- what is asked for is of one of the nets, and has a key of it
pub asked_of_net : (nets : List NetPlan) (packets : List Packet) → AreOfNets nets packets → (i : ℕ) (a : Asked) → asked_by nets packets i ≡ Some a →
    Contains nets a.net × IsKeyOf a.net.block a.label.key
asked_of_net nets packets of_nets i a asked = grind (arith, net_in_list, same_Some)
