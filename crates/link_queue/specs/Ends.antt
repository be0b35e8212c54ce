-- What contracts see of a link and its ends.
use Rattle.std.specs.Prelude.{◌≡◌, ℕ, true}
use Rattle.crossbeam_queue.specs.Passes.{view, IsPassOf, ruled_capacity}
use Rattle.link_queue.specs.declared.known.Known.{Known}
use Rattle.link_queue.specs.declared.links.Link.{Link}
use Rattle.link_queue.specs.declared.links.Tx.{Tx}
use Rattle.link_queue.specs.declared.links.Rx.{Rx}

-- how many copies a link may hold
abbrev pub cap_of : Link → ℕ
cap_of link = ruled_capacity link.queue

-- what the sending end knows: the first list, what was taken of its offers, its notes of Full
abbrev pub sending : Tx → Known
sending tx = view tx.pass

-- what the receiving end knows: the first list, what it took, its notes of None
abbrev pub taking : Rx → Known
taking rx = view rx.pass

-- it is the sending end of this link
pub record IsTx (link : Link) (tx : Tx) : Type 0 where
  pub pass : IsPassOf link.queue tx.pass
  pub sends : (sending tx).sends ≡ true
  pub cap : (sending tx).cap ≡ cap_of link

-- it is the receiving end of this link
pub record IsRx (link : Link) (rx : Rx) : Type 0 where
  pub pass : IsPassOf link.queue rx.pass
  pub takes : (taking rx).takes ≡ true
