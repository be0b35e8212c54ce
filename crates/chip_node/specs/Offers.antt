-- What offering one copy again and again tells of the end by which it is offered.
use Rattle.std.specs.Prelude.{◌≡◌, ℕ, ◌<◌, ◌≤◌, ◌++◌, length, replicate}
use Rattle.spin_base.specs.declared.copies.McCopy.{McCopy}
use Rattle.link_queue.specs.declared.known.Known.{Known}
use Rattle.link_queue.specs.TheRule.{put_of}
use Rattle.link_queue.specs.Moves.{TakesOffer}
use Rattle.chip_node.specs.declared.ends.Served.{Served}
use Rattle.chip_node.specs.declared.ends.Served.TheVariants.{Sent, Dumped}

-- n notes more of Full: each says how many copies had entered
abbrev pub full_noted_often : ℕ → Known → Known
full_noted_often n v = record v { fulls = v.fulls ++ replicate n (length (put_of v)) }

-- The queue refused n offers, each at a moment when it held all that it can, and left a note of each.
pub record RefusesOffers (n : ℕ) (v w : Known) : Type 0 where
  pub noted : w ≡ full_noted_often n v
  pub looked : 0 < n → v.held ≡ v.cap
  pub full : 0 < n → v.cap ≤ length (put_of v)

-- The queue refused fewer offers than the patience allows, and then took the copy.
pub record Sends (patience : ℕ) (k : McCopy) (v w : Known) : Type 0 where
  pub refusals : ℕ
  pub few : refusals < patience
  pub between : Known
  pub refused : RefusesOffers refusals v between
  pub taken : TakesOffer between k w

-- A copy is sent where one of the offers was taken, and dumped where all that the patience allows were refused (this
-- project's own; a router of the SpiNNaker datasheet waits for a time that can be set).
abbrev pub IsServedAs : ℕ → McCopy → Served → Known → Known → Type 0
IsServedAs patience k Sent v w = Sends patience k v w
IsServedAs patience k Dumped v w = RefusesOffers patience v w
