-- What one look, one offer or one copy does to what is held of a queue. The definitions are this project's own.
use Rattle.std.specs.Prelude.{◌≡◌, ℕ, ◌<◌, ◌≤◌, List, [], ◌∷◌, ◌++◌, length, Option, None, Some, slice_get, slice_set}
use Rattle.spin_base.specs.declared.copies.McCopy.{McCopy}
use Rattle.link_queue.specs.Ends.{sending, taking}
use Rattle.link_queue.specs.Moves.{TakesCopy, FindsNothing}
use Rattle.chip_node.specs.declared.ends.End.{End}
use Rattle.chip_node.specs.declared.ends.End.TheVariants.{Away, Own, Sends, Takes}
use Rattle.chip_node.specs.declared.ends.InEnd.{InEnd}
use Rattle.chip_node.specs.declared.ends.OutEnd.{OutEnd}
use Rattle.chip_node.specs.declared.ends.Seen.{Seen}
use Rattle.chip_node.specs.declared.ends.Seen.TheVariants.{Nothing, Front, Unknown}
use Rattle.chip_node.specs.declared.ends.Served.{Served}
use Rattle.chip_node.specs.declared.ends.Served.TheVariants.{Sent, Dumped}
use Rattle.chip_node.specs.Offers.{Sends as SendsOffer, RefusesOffers}
use Rattle.spin_base.specs.WithRoom.{WithRoom}
use Rattle.link_queue.specs.declared.links.Link.{Link}
use Rattle.chip_node.specs.Going.{EndHasRoom, IsEndOf, IsSending}

-- A copy may be offered by an end: it is a sending end, of the link at its place, and a lane has room for the copy or is full.
pub record MayOffer (links : List Link) (cap : ℕ) (e : End) : Type 0 where
  pub end : IsEndOf links e
  pub sends : IsSending e
  pub room : EndHasRoom cap e

-- a copy entered the lane, which was not full; or an offer of the sending end was taken
abbrev pub EndSends : ℕ → ℕ → McCopy → End → End → Type 0
EndSends cap patience k Away b = ⊥
EndSends cap patience k (Own a) b = (l : WithRoom McCopy) × (b ≡ Own l) × (l.items ≡ a.items ++ k ∷ []) × (length a.items < cap)
EndSends cap patience k (Sends a) b = (e : OutEnd) × (b ≡ Sends e) × (e.link ≡ a.link) × SendsOffer patience k (sending a.tx) (sending e.tx)
EndSends cap patience k (Takes a) b = ⊥

-- the lane was full; or the link refused as many offers as the patience
abbrev pub EndRefuses : ℕ → ℕ → End → End → Type 0
EndRefuses cap patience Away b = ⊥
EndRefuses cap patience (Own a) b = (b ≡ Own a) × (cap ≤ length a.items)
EndRefuses cap patience (Sends a) b = (e : OutEnd) × (b ≡ Sends e) × (e.link ≡ a.link) × RefusesOffers patience (sending a.tx) (sending e.tx)
EndRefuses cap patience (Takes a) b = ⊥

abbrev pub EndServes : ℕ → ℕ → McCopy → Served → End → End → Type 0
EndServes cap patience k Sent a b = EndSends cap patience k a b
EndServes cap patience k Dumped a b = EndRefuses cap patience a b

-- a copy left the lane's front, or was taken by the receiving end
abbrev pub EndTakes : McCopy → End → End → Type 0
EndTakes k Away b = ⊥
EndTakes k (Own a) b = (l : WithRoom McCopy) × (b ≡ Own l) × (a.items ≡ k ∷ l.items)
EndTakes k (Sends a) b = ⊥
EndTakes k (Takes a) b = (e : InEnd) × (b ≡ Takes e) × (e.link ≡ a.link) × TakesCopy (taking a.rx) k (taking e.rx)

-- nothing can be taken: there is no receiving end, the lane is empty, or the link was found empty
abbrev pub EndLacks : End → End → Type 0
EndLacks Away b = b ≡ Away
EndLacks (Own a) b = (b ≡ Own a) × (a.items ≡ [])
EndLacks (Sends a) b = b ≡ Sends a
EndLacks (Takes a) b = (e : InEnd) × (b ≡ Takes e) × (e.link ≡ a.link) × FindsNothing (taking a.rx) (taking e.rx)

-- What is seen of a queue without a change of it: the front copy of a lane, or that nothing can be taken; of a link nothing is known.
abbrev pub IsSeen : Seen → End → Type 0
IsSeen Nothing e = EndLacks e e
IsSeen (Front k) (Own a) = (rest : List McCopy) × (a.items ≡ k ∷ rest)
IsSeen (Front k) Away = ⊥
IsSeen (Front k) (Sends a) = ⊥
IsSeen (Front k) (Takes a) = ⊥
IsSeen Unknown e = Unit {0}

-- A copy was offered to the queue behind an output, where there is one, and each other queue is as it was.
pub record SendsThere (cap patience : ℕ) (q : ℕ) (k : McCopy) (fate : Served) (before after : List End) : Type 0 where
  pub old : End
  pub new : End
  pub stood : slice_get before q ≡ Some old
  pub stands : after ≡ slice_set before q new
  pub serves : EndServes cap patience k fate old new

abbrev pub SendsBehind : ℕ → ℕ → Option ℕ → McCopy → Served → List End → List End → Type 0
SendsBehind cap patience None k fate before after = (fate ≡ Dumped) × (after ≡ before)
SendsBehind cap patience (Some q) k fate before after = SendsThere cap patience q k fate before after
