-- The rule of a link: a queue with one sender and one receiver. The rule is this project's own.
use Rattle.std.specs.Prelude.{◌≡◌, ℕ, ◌+◌, ◌≤◌, true, List, ◌++◌, length, All}
use mathlib.Core.Option.{some}
use lib.ListN.{get_elem?}
use Rattle.spin_base.specs.declared.copies.McCopy.{McCopy}
use Rattle.link_queue.specs.declared.known.Known.{Known}

-- all copies that entered, of which a sender knows: the first list, and then what was taken of its offers
abbrev pub put_of : Known → List McCopy
put_of v = v.first ++ v.sent

-- A note of Full is the number of copies that had entered when a push was refused: at least the capacity, and at most
-- the capacity above the number of copies that were taken.
abbrev pub IsFullNote : ℕ → List McCopy → List McCopy → ℕ → Type 0
IsFullNote cap put took x = (cap ≤ x) × (x ≤ length put) × (x ≤ cap + length took)

-- A note of None is the number of copies that had been taken when a pop found nothing: at least the first list's.
abbrev pub IsNoneNote : List McCopy → List McCopy → ℕ → Type 0
IsNoneNote first took x = (length first ≤ x) × (x ≤ length took)

-- the list begins with the first list
abbrev pub StartsWith : List McCopy → List McCopy → Type 0
StartsWith list first = (rest : List McCopy) × (first ++ rest ≡ list)

-- what a view that sends has: the sender's seat, all that entered, and a bound on how many copies are held
pub record SenderFits (seat : ℕ) (put took : List McCopy) (port : ℕ) (v : Known) : Type 0 where
  pub seated : port ≡ seat
  pub knows : put_of v ≡ put
  pub room : length put ≤ v.held + length took
  pub bound : v.held ≤ v.cap
  pub noted : All (IsFullNote v.cap put took) v.fulls

-- what a view that takes has: the receiver's seat, all that was taken, and a bound on how many copies are left
pub record ReceiverFits (seat : ℕ) (put took : List McCopy) (port : ℕ) (v : Known) : Type 0 where
  pub seated : port ≡ seat
  pub knows : v.took ≡ took
  pub room : length took + v.left ≤ length put
  pub begins : StartsWith put v.first
  pub noted : All (IsNoneNote v.first took) v.nones

abbrev pub FitsRule : ℕ → ℕ → List McCopy → List McCopy → ℕ → Known → Type 0
FitsRule sender receiver put took port v =
    (v.sends ≡ true → SenderFits sender put took port v) × (v.takes ≡ true → ReceiverFits receiver put took port v)

-- What entered is what was taken and then what the queue holds, first in first out. One view at most sends, and one takes.
pub record Kept (items : List McCopy) (views : List Known) : Type 0 where
  pub sender : ℕ
  pub receiver : ℕ
  pub put : List McCopy
  pub took : List McCopy
  pub balance : put ≡ took ++ items
  pub each : (port : ℕ) (v : Known) → get_elem? views port ≡ some v → FitsRule sender receiver put took port v
