-- What the steps of a link make of the view of the end that takes them.
use Rattle.std.specs.Prelude.{◌≡◌, ℕ, ◌≤◌, true, false, List, [], ◌∷◌, ◌++◌, drop, length, All}
use Rattle.spin_base.specs.declared.copies.McCopy.{McCopy}
use Rattle.link_queue.specs.declared.known.Known.{Known}
use Rattle.link_queue.specs.TheRule.{put_of, IsFullNote, StartsWith}

-- the view that knows nothing
abbrev pub blank : Known
blank = record { sends = false; takes = false; first = []; sent = []; fulls = []; took = []; nones = []; cap = 0; held = 0; left = 0 }

-- the view of a new queue's one pass, which sends and takes
abbrev pub newborn : Known
newborn = record { sends = true; takes = true; first = []; sent = []; fulls = []; took = []; nones = []; cap = 0; held = 0; left = 0 }

-- a copy of the first list entered; h bounds how many are held
abbrev pub placed : Known → McCopy → ℕ → Known
placed v x h = record v { first = v.first ++ x ∷ []; held = h }

-- a copy was taken of an offer
abbrev pub offered : Known → McCopy → ℕ → Known
offered v x h = record v { sent = v.sent ++ x ∷ []; held = h }

-- a copy was taken; h bounds how many are left
abbrev pub popped : Known → McCopy → ℕ → Known
popped v x h = record v { took = v.took ++ x ∷ []; left = h }

-- one note more of Full: how many copies had entered
abbrev pub full_noted : Known → Known
full_noted v = record v { fulls = v.fulls ++ length (put_of v) ∷ [] }

-- one note more of None: how many copies had been taken
abbrev pub none_noted : Known → Known
none_noted v = record v { nones = v.nones ++ length v.took ∷ [] }

-- the capacity is told
abbrev pub told : ℕ → Known → Known
told n v = record v { cap = n }

-- the sender's seat, and the receiver's, made of the one that places the first list
abbrev pub sender_of : Known → Known
sender_of v = record v { takes = false }

abbrev pub receiver_of : Known → Known
receiver_of v = record blank { takes = true; first = v.first }

-- both seats in one, which takes no more notes
abbrev pub joined : Known → Known → Known
joined v w = record v { takes = true; took = w.took; nones = []; left = 0 }

-- the joined seat, as if what is held had been placed and nothing else had ever entered
abbrev pub renewed : Known → Known
renewed v = record v { first = drop (length v.took) (put_of v); sent = []; fulls = []; took = []; nones = []; left = 0 }

-- what a refused push tells: as many are held as may be
abbrev pub SeenFull : Known → List McCopy → Type 0
SeenFull v items = (length items ≤ v.held) × (v.held ≤ v.cap) × (length items ≤ length (put_of v))

-- what a pop that finds nothing tells: all that entered was taken, the first list first
abbrev pub SeenEmpty : Known → List McCopy → Type 0
SeenEmpty v items = (v.left ≤ length items) × StartsWith (v.took ++ items) v.first

-- what the joined seat is told at any time
abbrev pub Balanced : Known → List McCopy → Type 0
Balanced v items = (put_of v ≡ v.took ++ items) × All (IsFullNote v.cap (put_of v) v.took) v.fulls
