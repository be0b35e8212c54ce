-- What was done, one list after the other, is what both lists tell.
use Rattle.chip_node.proofs.Common.{All-append, All-map, All-nil, All-weaker, AreEndsOf, Away, CoreBank, End, EndGoes, EndStays, Goes, Holdings, HoldsSender, IsFullMoment, IsReadyBank, IsReadyRouter}
use Rattle.chip_node.proofs.Common.{IsSending, Item, LaneGoes, Link, List, McCopy, Own, RouterNode, Sends, Stays, Takes, [], ap, append-nil, append_assoc, arith, delivered_of, deliveries, dumped_of}
use Rattle.chip_node.proofs.Common.{entered, entered_by, flat_map-append, injection_place, left, left_by, length, length-append, length-map, lost_at, lost_by, map, records, refl, sent_by, sent_in}
use Rattle.chip_node.proofs.Common.{slice_index_or, subst, sym, ℕ, ◌*◌, ◌++◌, ◌+◌, ◌∙◌, ◌≡◌, ◌≤◌}
use Rattle.chip_node.proofs.Stays.{end_before, patient_on, sender_on, taker_on}

-- ---- lanes

-- a moment that comes after so many copies that entered and left
abbrev later : ℕ → ℕ → ℕ × ℕ → ℕ × ℕ
later came went e = (came + e.0, went + e.1)

moment_before : (cap held : ℕ) (c w e v : List McCopy) (m : ℕ × ℕ) → IsFullMoment cap held c w m → IsFullMoment cap held (c ++ e) (w ++ v) m
moment_before cap held c w e v m h = grind (arith, length-append c e, length-append w v)

moment_later : (cap held then : ℕ) (c w e v : List McCopy) (m : ℕ × ℕ) → held + length c ≡ length w + then → IsFullMoment cap then e v m →
    IsFullMoment cap held (c ++ e) (w ++ v) (later (length c) (length w) m)
moment_later cap held then c w e v m balance h = grind (arith, length-append c e, length-append w v)

pub lane_on : (cap patience : ℕ) (c w d e v f x y z : List McCopy) → LaneGoes cap patience c w d x y → LaneGoes cap patience e v f y z → LaneGoes cap patience (c ++ e) (w ++ v) (d ++ f) x z
lane_on cap patience c w d e v f x y z h k = record {
  in_order = sym (append_assoc x c e) ∙ (ap (λ l. l ++ e) h.in_order ∙ (append_assoc w y e ∙ (ap (λ l. w ++ l) k.in_order ∙ sym (append_assoc w v z))));
  within = λ fits. k.within (h.within fits);
  fulls = h.fulls ++ map (later (length c) (length w)) k.fulls;
  full = λ fits. All-append Now h.fulls (map (later (length c) (length w)) k.fulls)
      (All-weaker (IsFullMoment cap (length x) c w) Now (moment_before cap (length x) c w e v) h.fulls (h.full fits))
      (All-map Now (later (length c) (length w)) k.fulls
      (All-weaker (IsFullMoment cap (length y) e v) (λ m. Now (later (length c) (length w) m)) (λ m. moment_later cap (length x) (length y) c w e v m balance) k.fulls (k.full (h.within fits))));
  patient =
      let both = patient_on patience (length d) (length f) (length h.fulls) (length k.fulls) h.patient k.patient in
      let noted = length-append h.fulls (map (later (length c) (length w)) k.fulls) in
      let mapped = length-map k.fulls (later (length c) (length w)) in
      subst (λ n. patience * n ≤ length (h.fulls ++ map (later (length c) (length w)) k.fulls)) (sym (length-append d f))
      (let all : length h.fulls + length k.fulls ≡ length (h.fulls ++ map (later (length c) (length w)) k.fulls) = omega arith in
      subst (λ n. patience * (length d + length f) ≤ n) all both);
}
  where
    Now : ℕ × ℕ → Type 0
    Now = IsFullMoment cap (length x) (c ++ e) (w ++ v)

    balance : length x + length c ≡ length w + length y
    balance = (let came = length-append x c in let went = length-append w y in let same = ap length h.in_order in omega arith)

-- a lane that is as it was
pub lane_same : (cap patience : ℕ) (x : List McCopy) → LaneGoes cap patience [] [] [] x x
lane_same cap patience x = grind (arith, append-nil x, All-nil (IsFullMoment cap (length x) [] []))

-- ---- ends

pub end_goes_none : (cap patience : ℕ) (x y : End) → EndStays x y → EndGoes cap patience [] [] [] x y
end_goes_none cap patience x y its_4 = grind (arith, lane_same)

both_empty : (c e : List McCopy) → c ≡ [] → e ≡ [] → c ++ e ≡ []
both_empty c e none nothing = ap (λ l. l ++ e) none ∙ nothing

pub end_goes_on : (cap patience : ℕ) (c w d e v f : List McCopy) (x y z : End) → EndGoes cap patience c w d x y → EndGoes cap patience e v f y z → EndGoes cap patience (c ++ e) (w ++ v) (d ++ f) x z
end_goes_on cap patience c w d e v f Away Away Away h k = (both_empty c e h.0 k.0, both_empty w v h.1 k.1, both_empty d f h.2 k.2)
end_goes_on cap patience c w d e v f (Own x) (Own y) (Own z) h k = lane_on cap patience c w d e v f x.items y.items z.items h k
end_goes_on cap patience c w d e v f (Sends x) (Sends y) (Sends z) h k = (both_empty w v h.0 k.0, sender_on patience c d e f x y z h.1 k.1)
end_goes_on cap patience c w d e v f (Takes x) (Takes y) (Takes z) h k = (both_empty c e h.0 k.0, both_empty d f h.1 k.1, taker_on w v x y z h.2 k.2)
end_goes_on cap patience c w d e v f Away Away (Own z) h k = absurd k
end_goes_on cap patience c w d e v f Away Away (Sends z) h k = absurd k
end_goes_on cap patience c w d e v f Away Away (Takes z) h k = absurd k
end_goes_on cap patience c w d e v f (Own x) (Own y) Away h k = absurd k
end_goes_on cap patience c w d e v f (Own x) (Own y) (Sends z) h k = absurd k
end_goes_on cap patience c w d e v f (Own x) (Own y) (Takes z) h k = absurd k
end_goes_on cap patience c w d e v f (Sends x) (Sends y) Away h k = absurd k
end_goes_on cap patience c w d e v f (Sends x) (Sends y) (Own z) h k = absurd k
end_goes_on cap patience c w d e v f (Sends x) (Sends y) (Takes z) h k = absurd k
end_goes_on cap patience c w d e v f (Takes x) (Takes y) Away h k = absurd k
end_goes_on cap patience c w d e v f (Takes x) (Takes y) (Own z) h k = absurd k
end_goes_on cap patience c w d e v f (Takes x) (Takes y) (Sends z) h k = absurd k
end_goes_on cap patience c w d e v f Away (Own y) z h k = absurd h
end_goes_on cap patience c w d e v f Away (Sends y) z h k = absurd h
end_goes_on cap patience c w d e v f Away (Takes y) z h k = absurd h
end_goes_on cap patience c w d e v f (Own x) Away z h k = absurd h
end_goes_on cap patience c w d e v f (Own x) (Sends y) z h k = absurd h
end_goes_on cap patience c w d e v f (Own x) (Takes y) z h k = absurd h
end_goes_on cap patience c w d e v f (Sends x) Away z h k = absurd h
end_goes_on cap patience c w d e v f (Sends x) (Own y) z h k = absurd h
end_goes_on cap patience c w d e v f (Sends x) (Takes y) z h k = absurd h
end_goes_on cap patience c w d e v f (Takes x) Away z h k = absurd h
end_goes_on cap patience c w d e v f (Takes x) (Own y) z h k = absurd h
end_goes_on cap patience c w d e v f (Takes x) (Sends y) z h k = absurd h

-- ---- all that is held

-- where nothing was done
pub goes_none : (cap patience : ℕ) (a b : Holdings) → Stays a b → Goes cap patience a [] b
goes_none cap patience a b h = grind (arith, append-nil a.deliveries.items, append-nil a.dumps.items, end_goes_none)

-- one list of what was done after the other
pub goes_on : (cap patience : ℕ) (a b c : Holdings) (xs ys : List Item) → Goes cap patience a xs b → Goes cap patience b ys c → Goes cap patience a (xs ++ ys) c
goes_on cap patience a b c xs ys h k = grind (arith, end_before, end_goes_on, flat_map-append, append_assoc)

-- nothing was done, and then these were
pub stays_goes : (cap patience : ℕ) (a b c : Holdings) (xs : List Item) → Stays a b → Goes cap patience b xs c → Goes cap patience a xs c
stays_goes cap patience a b c xs h k = goes_on cap patience a b c [] xs (goes_none cap patience a b h) k

-- these were done, and then nothing
pub goes_stays : (cap patience : ℕ) (a b c : Holdings) (xs : List Item) → Goes cap patience a xs b → Stays b c → Goes cap patience a xs c
goes_stays cap patience a b c xs h k = grind (arith, append-nil xs, goes_on cap patience a b c xs, goes_none cap patience b c k)

-- ---- what is held after what was done

end_sends_on : (cap patience : ℕ) (c w d : List McCopy) (x y : End) → EndGoes cap patience c w d x y → IsSending x → IsSending y
end_sends_on cap patience c w d x y h sends = grind arith

-- a sending end that was held still is
pub holds_sender_on : (cap patience : ℕ) (a b : Holdings) (xs : List Item) (q : ℕ) → Goes cap patience a xs b → HoldsSender a.ends.items q → HoldsSender b.ends.items q
holds_sender_on cap patience a b xs q h s = grind (arith, end_before, end_sends_on)

-- A router that may begin its turn still may, and so may a bank. That ends of links are theirs is told by who changed them.
pub ready_router_on : (cap patience : ℕ) (links : List Link) (r : RouterNode) (a b : Holdings) (xs : List Item) → Goes cap patience a xs b → AreEndsOf links b.ends.items →
    IsReadyRouter links r a → IsReadyRouter links r b
ready_router_on cap patience links r a b xs h ends ready = record {
  senders = λ o q behind. holds_sender_on cap patience a b xs q h (ready.senders o q behind);
  differ = ready.differ;
  apart = ready.apart;
  ends = ends;
}

pub ready_bank_on : (cap patience : ℕ) (links : List Link) (k : CoreBank) (a b : Holdings) (xs : List Item) → Goes cap patience a xs b → AreEndsOf links b.ends.items →
    IsReadyBank links k a → IsReadyBank links k b
ready_bank_on cap patience links k a b xs h ends ready = grind (arith, holds_sender_on cap patience a b xs (injection_place k.index) h ready.sender)
