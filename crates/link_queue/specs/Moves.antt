-- What an offer and a take tell of their end.
use Rattle.std.specs.Prelude.{◌≡◌, ℕ, ◌≤◌, [], ◌∷◌, ◌++◌, length}
use Rattle.spin_base.specs.declared.copies.McCopy.{McCopy}
use Rattle.link_queue.specs.declared.known.Known.{Known}
use Rattle.link_queue.specs.declared.links.Offered.{Offered}
use Rattle.link_queue.specs.declared.links.Offered.TheVariants.{Taken, Full}
use Rattle.link_queue.specs.TheRule.{put_of, StartsWith}
use Rattle.link_queue.specs.Steps.{full_noted, none_noted}

-- a fact for an offer that was taken, and one of the copy that came back
abbrev pub MatchOffered : Offered → Type 0 → (McCopy → Type 0) → Type 0
MatchOffered Taken P Q = P
MatchOffered (Full x) P Q = Q x

-- one copy more was taken of the end's offers, and its notes stay
pub record TakesOffer (v : Known) (x : McCopy) (w : Known) : Type 0 where
  pub first : w.first ≡ v.first
  pub sent : w.sent ≡ v.sent ++ x ∷ []
  pub fulls : w.fulls ≡ v.fulls

-- one note more, of how many copies had entered; since the last of them by this end, the queue was found to hold all that it can
pub record RefusesOffer (cap : ℕ) (v w : Known) : Type 0 where
  pub noted : w ≡ full_noted v
  pub looked : v.held ≡ v.cap
  pub full : cap ≤ length (put_of v)

-- one copy more was taken by the end, and its notes stay
pub record TakesCopy (v : Known) (x : McCopy) (w : Known) : Type 0 where
  pub first : w.first ≡ v.first
  pub took : w.took ≡ v.took ++ x ∷ []
  pub nones : w.nones ≡ v.nones

-- one note more, of how many copies were taken, the whole first list among them; since the last of them the queue was found empty
pub record FindsNothing (v w : Known) : Type 0 where
  pub noted : w ≡ none_noted v
  pub looked : v.left ≡ 0
  pub whole : StartsWith v.took v.first
