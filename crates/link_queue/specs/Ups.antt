-- What bringing a link up and down, and having it rest, tells.
use Rattle.std.specs.Prelude.{◌≡◌, ℕ, ◌≤◌, true, List, [], ◌++◌, length, All}
use Rattle.spin_base.specs.declared.copies.McCopy.{McCopy}
use Rattle.link_queue.specs.declared.known.Known.{Known}
use Rattle.link_queue.specs.TheRule.{put_of, IsFullNote}

-- the end knows this first list, and nothing was sent, taken or noted by it
pub record NoNotes (list : List McCopy) (v : Known) : Type 0 where
  pub first : v.first ≡ list
  pub sent : v.sent ≡ []
  pub took : v.took ≡ []
  pub fulls : v.fulls ≡ []
  pub nones : v.nones ≡ []

-- the one seat that has placed these copies of the first list
pub record ListPlaced (cap : ℕ) (list : List McCopy) (v : Known) : Type 0 where
  pub start : NoNotes list v
  pub sends : v.sends ≡ true
  pub takes : v.takes ≡ true
  pub cap_is : v.cap ≡ cap

-- w is v after these copies were popped
pub record PoppedTo (v : Known) (got : List McCopy) (w : Known) : Type 0 where
  pub sends : w.sends ≡ true
  pub takes : w.takes ≡ true
  pub put : put_of w ≡ put_of v
  pub took_is : w.took ≡ v.took ++ got

-- What two ends tell of the copies that their link holds, so many, and that their knowledge began anew from these: the first
-- list and then what was sent is what was taken and then these, at most as many as the link can hold, and each note of Full fits.
pub record Rests (cap : ℕ) (sending taking sender receiver : Known) (count : ℕ) : Type 0 where
  pub held : List McCopy
  pub all : sending.first ++ sending.sent ≡ taking.took ++ held
  pub bound : length held ≤ cap
  pub noted : All (IsFullNote cap (put_of sending) taking.took) sending.fulls
  pub sender_new : NoNotes held sender
  pub receiver_new : NoNotes held receiver
  pub counts : count ≡ length held
