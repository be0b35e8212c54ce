-- What a router sees at a port, and that there is room for what its turn needs.
use Rattle.std.proofs.Common.{rules}
use Rattle.chip_node.proofs.Common.{All, All-at, All-each, All-filter, All-nil, All-weaker, Away, Behind, Bool, End, EndHasRoom, EndLacks, EndTakes, Entry, Front, HasRoomBehind, HasRoomForOuts}
use Rattle.chip_node.proofs.Common.{HasRoomIn, Holdings, IsIdle, IsIdleAt, IsReadyRouter, IsSeen, Link, List, McCopy, None, Option, Out, Own, Port, RouterNode, Sends, Some, Stays, Takes, [], all_outs}
use Rattle.chip_node.proofs.Common.{arith, cond, false, get_or, has, last_hop, length, lookup, one_item_at, out_number, outputs_at, outs_of, place_in, port_place, refl, set, slice_get}
use Rattle.chip_node.proofs.Common.{slice_get-set_other, slice_get_read, slice_get_within, subst, sym, true, ℕ, ◌<◌, ◌==◌, ◌∙◌, ◌∷◌, ◌≡◌, ◌≤◌}
use Rattle.spin_base.specs.Outputs.{core_outs, link_outs}
use Rattle.chip_node.proofs.{Outputs.few_pass, EndSteps.end_lacks_idle, EndSteps.end_stays_lacks, Placing.stays_at, Placing.Writes}

-- ---- nothing to take

-- nothing can be taken at a place where an end stands from which nothing can
pub idle_at : (ends : List End) (q : ℕ) (x : End) → slice_get ends q ≡ Some x → IsIdle x → IsIdleAt ends q
idle_at ends q x at idle = λ y also. subst IsIdle (one_item_at ends q q x y refl at also) idle

-- nor where none stands
pub idle_past : (ends xs : List End) (n q : ℕ) → xs ≡ ends → n ≡ q → length xs ≤ n → IsIdleAt ends q
idle_past ends xs n q same at past = grind (arith, slice_get_within)

-- what is read at a place stands there
pub read_stands : (ends xs : List End) (n q : ℕ) (x : End) → xs ≡ ends → n ≡ q → n < length xs → x ≡ get_or xs n x → slice_get ends q ≡ Some x
read_stands ends xs n q x same at below read = grind (arith, slice_get_read xs (length xs) n x refl below read)

-- what is written at a place
pub end_written : (ends : List End) (n q : ℕ) (old new : End) → n ≡ q → q < length ends → old ≡ get_or ends n old → Writes ends (set ends n new) q old new
end_written ends n q old new at inside read = grind (arith, read_stands)

-- where nothing was found, there was nothing
pub lacks_at : (a b : Holdings) (q : ℕ) (old new : End) → Writes a.ends.items b.ends.items q old new → EndLacks old new → b.unsent.items ≡ a.unsent.items → b.deliveries ≡ a.deliveries →
    b.dumps ≡ a.dumps → Stays a b × IsIdleAt a.ends.items q
lacks_at a b q old new w lacks unsent deliveries dumps = search (rules, stays_at, end_stays_lacks, idle_at, end_lacks_idle)

-- ---- room

-- where there is room in each queue behind an output, there is behind each output
pub room_behind : (cap : ℕ) (r : RouterNode) (h : Holdings) → All (λ slot. HasRoomIn cap slot h) r.behind.now → (o : Out) → HasRoomBehind cap r h o
room_behind cap r h all o = λ q e at stands. by (slice_get r.behind.now (out_number o)) refl q e at stands
  where
    by : (s : Option (Option Behind)) → slice_get r.behind.now (out_number o) ≡ s → (q : ℕ) (e : End) → place_in s ≡ Some q → slice_get h.ends.items q ≡ Some e → EndHasRoom cap e
    by None is q e at stands = cc
    by (Some slot) is q e at stands = All-at (λ slot. HasRoomIn cap slot h) r.behind.now (out_number o) slot all is q e at stands

-- where there is room in each queue behind an output, and for 24 records, there is room at all outputs
pub room_everywhere : (cap : ℕ) (r : RouterNode) (h : Holdings) → All (λ slot. HasRoomIn cap slot h) r.behind.now → 24 ≤ h.dumps.spare → HasRoomForOuts cap r all_outs h
unfolding link_outs core_outs
room_everywhere cap r h all spare = record { behind = All-each (HasRoomBehind cap r h) all_outs (λ o has. room_behind cap r h all o); records = spare }

-- Where there is room for a copy at each of the 24 outputs, and for as many records, there is room for those that lookup gives.
pub room_for_all : (cap : ℕ) (entries : List Entry) (r : RouterNode) (port : Port) (k : McCopy) (h : Holdings) → HasRoomForOuts cap r all_outs h → HasRoomForOuts cap r (outputs_at entries port k) h
room_for_all cap entries r port k h room = by (k.hop == last_hop)
  where
    outs : List Out
    outs = outs_of (lookup entries k.key port)

    by : (b : Bool) → HasRoomForOuts cap r (cond b [] outs) h
    by true = record { behind = All-nil (HasRoomBehind cap r h); records = omega arith }
    by false = grind (arith, All-filter (has (lookup entries k.key port)) (HasRoomBehind cap r h) all_outs room.behind, few_pass (has (lookup entries k.key port)) all_outs)

-- what is taken of a queue whose front copy is seen is that copy
pub seen_first : (f k : McCopy) (x y : End) → IsSeen (Front f) x → EndTakes k x y → f ≡ k
seen_first f k x y its_4 its_5 = grind arith

-- what is taken at a port leaves the room behind the outputs
pub room_kept : (cap : ℕ) (links : List Link) (r : RouterNode) (port : Port) (outs : List Out) (a b : Holdings) (old new : End) → IsReadyRouter links r a
    → Writes a.ends.items b.ends.items (port_place r.index port) old new → b.dumps ≡ a.dumps → HasRoomForOuts cap r outs a → HasRoomForOuts cap r outs b
room_kept cap links r port outs a b old new ready w dumps room = grind (arith, All-weaker, slice_get-set_other)
