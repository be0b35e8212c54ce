-- The queue behind an output of a router: where it stands, and that its end is one by which copies are sent.
use Rattle.chip_node.proofs.Common.{Behind, Chip, DumpRec, Dumped, End, HoldsSender, IsOutput, IsSending, List, McCopy, None, Option, Out, SendsBehind, Sent, Served, Some, WithRoom, [], ap}
use Rattle.chip_node.proofs.Common.{append-nil, arith, get_or, length, one_item_at, out_number, out_number_below, place_at_router, place_in, recorded, refl, slice_get, slice_get-get_or}
use Rattle.chip_node.proofs.Common.{slice_get_read, slice_get_within, subst, sym, ℕ, ◌++◌, ◌+◌, ◌<◌, ◌∙◌, ◌∷◌, ◌≡◌}

-- ---- the place behind an output

pub place_there : (behind : List (Option Behind)) (o : Out) (n : ℕ) (d : Option Behind) (b : Behind) → n ≡ out_number o → length behind ≡ 24 → IsOutput o → get_or behind n d ≡ Some b →
    place_at_router behind o ≡ Some b.place
place_there behind o n d b number long numbered is = grind (arith, out_number_below, get_or, slice_get-get_or)

-- ---- ends by which copies are sent

sender_below : (ends : List End) (q : ℕ) → HoldsSender ends q → q < length ends
sender_below ends q s = slice_get_within ends q s.end s.stands

module _ {ends : List End} {q : ℕ} (s : HoldsSender ends q) (x : End) (read : x ≡ get_or ends q x) where
  -- what is read at its place stands there, and sends
  pub sender_stands : slice_get ends q ≡ Some x
  sender_stands = slice_get_read ends (length ends) q x refl (sender_below ends q s) read

  pub sender_sends : IsSending x
  sender_sends = subst IsSending (one_item_at ends q q s.end x refl s.stands sender_stands) s.sends

-- ---- records

pub sent_recorded : (c : Chip) (o : Out) (k : McCopy) (fate : Served) (a b : WithRoom DumpRec) → fate ≡ Sent → b ≡ a → b.items ≡ a.items ++ recorded c (record { out = o; copy = k; fate = fate }) fate
sent_recorded c o k fate a b is same = grind (arith, append-nil a.items)

pub dumped_recorded : (c : Chip) (o : Out) (k : McCopy) (fate : Served) (a b : List DumpRec) → fate ≡ Dumped → b ≡ a ++ record { chip = c; out = o; copy = k } ∷ [] →
    b ≡ a ++ recorded c (record { out = o; copy = k; fate = fate }) fate
dumped_recorded c o k fate a b is more = subst (λ (f : Served). b ≡ a ++ recorded c (record { out = o; copy = k; fate = f }) f) (sym is) more

-- A record takes as much room as it says, and a copy that was sent none.
pub sent_room : (c : Chip) (o : Out) (k : McCopy) (fate : Served) (a b : WithRoom DumpRec) → fate ≡ Sent → b ≡ a →
    b.spare + length (recorded c (record { out = o; copy = k; fate = fate }) fate) ≡ a.spare
sent_room c o k fate a b is same = grind arith

pub dumped_room : (c : Chip) (o : Out) (k : McCopy) (fate : Served) (a b : ℕ) → fate ≡ Dumped → b + 1 ≡ a → b + length (recorded c (record { out = o; copy = k; fate = fate }) fate) ≡ a
dumped_room c o k fate a b is more = subst (λ (f : Served). b + length (recorded c (record { out = o; copy = k; fate = f }) f) ≡ a) (sym is) more

-- behind an output without a queue a copy is dumped
pub sent_nowhere : (cap patience : ℕ) (place : Option ℕ) (k : McCopy) (fate : Served) (before after : List End) → SendsBehind cap patience place k fate before after → place ≡ None → fate ≡ Dumped
sent_nowhere cap patience place k fate before after h is = grind arith
