-- What stays where nothing was done: what is not there to take, what is full, and room.
use Rattle.std.proofs.Common.{rules}
use Rattle.chip_node.proofs.Common.{All-at, Away, Delivery, DumpRec, End, EndHasRoom, EndStays, HasAmpleRoom, Holdings, InEnd, IsIdle, IsIdleAt, List, McCopy, OutEnd, Own, SenderGoes, Sends, Some}
use Rattle.chip_node.proofs.Common.{Stays, TakerGoes, Takes, WithRoom, [], ap, append-nil, append_assoc, arith, get_or, length, length-append, refl, same_Some, sending, slice_get, slice_get-get_or}
use Rattle.chip_node.proofs.Common.{slice_get_there, slice_get_within, subst, sym, taking, ℕ, ◌*◌, ◌++◌, ◌+◌, ◌∙◌, ◌≡◌, ◌≤◌}

-- ---- ends of links, one step after the other

pub patient_on : (p d e m n : ℕ) → p * d ≤ m → p * e ≤ n → p * (d + e) ≤ m + n
patient_on p d e m n h k = omega (arith, h, k)

pub sender_on : (patience : ℕ) (c d : List McCopy) (e f : List McCopy) (x y z : OutEnd) → SenderGoes patience c d x y → SenderGoes patience e f y z → SenderGoes patience (c ++ e) (d ++ f) x z
sender_on patience c d e f x y z h k = grind (arith, append_assoc, patient_on, length-append)

pub taker_on : (w v : List McCopy) (x y z : InEnd) → TakerGoes w x y → TakerGoes v y z → TakerGoes (w ++ v) x z
taker_on w v x y z h k = grind (arith, append_assoc (taking x.rx).took w v)

-- an end that is as it was
pub sender_same : (x : OutEnd) → SenderGoes 0 [] [] x x
sender_same x = grind (arith, append-nil (sending x.tx).sent, append-nil (sending x.tx).fulls)

pub taker_same : (x : InEnd) → TakerGoes [] x x
taker_same x = record { link = refl; first = refl; took = sym (append-nil (taking x.rx).took) }

-- ---- ends

pub end_stays_same : (e : End) → EndStays e e
end_stays_same e = search (rules, sender_same, taker_same)

pub end_stays_on : (x y z : End) → EndStays x y → EndStays y z → EndStays x z
end_stays_on Away y z h k = subst (λ (e : End). EndStays e z) h k
end_stays_on (Own a) y z h k = subst (λ (e : End). EndStays e z) h k
end_stays_on (Sends a) y z (b, is, h) k = (let then : EndStays (Sends b) z = subst (λ (e : End). EndStays e z) is k in (then.0, then.1, sender_on 0 [] [] [] [] a b then.0 h then.2))
end_stays_on (Takes a) y z (b, is, h) k = (let then : EndStays (Takes b) z = subst (λ (e : End). EndStays e z) is k in (then.0, then.1, taker_on [] [] a b then.0 h then.2))

end_idle_before : (x y : End) → EndStays x y → IsIdle y → IsIdle x
end_idle_before x y its_2 idle = grind (arith, append-nil)

end_roomy_on : (cap : ℕ) (x y : End) → EndStays x y → EndHasRoom cap x → EndHasRoom cap y
end_roomy_on cap x y its_3 room = grind arith

-- ---- all that is held

pub stays_same : (a : Holdings) → Stays a a
stays_same a = grind (arith, same_Some, end_stays_same)

-- the end that stands at a place before where one stands there after
pub end_before : (a b : List End) (q : ℕ) (y : End) → length b ≡ length a → slice_get b q ≡ Some y → (x : End) × (slice_get a q ≡ Some x)
end_before a b q y long at = slice_get_there a q (let within = slice_get_within b q y at in omega arith)

-- nothing was done, and again nothing
pub stays_on : (a b c : Holdings) → Stays a b → Stays b c → Stays a c
stays_on a b c h k = record {
  ends_long = k.ends_long ∙ h.ends_long;
  ends = λ q x z at also. (let y = end_before b.ends.items c.ends.items q z k.ends_long also in end_stays_on x y.0 z (h.ends q x y.0 at y.1) (k.ends q y.0 z y.1 also));
  unsent = k.unsent ∙ h.unsent;
  deliveries = k.deliveries ∙ h.deliveries;
  dumps = k.dumps ∙ h.dumps;
}

-- where nothing was done and nothing is there to take, nothing was there before
pub idle_before : (a b : Holdings) (q : ℕ) → Stays a b → IsIdleAt b.ends.items q → IsIdleAt a.ends.items q
idle_before a b q h idle = λ x at. (let y = end_before b.ends.items a.ends.items q x (sym h.ends_long) at in end_idle_before x y.0 (h.ends q x y.0 at y.1) (idle y.0 y.1))

-- where nothing was done, there is as much room as before
pub roomy_on : (cap : ℕ) (a b : Holdings) → Stays a b → HasAmpleRoom cap a → HasAmpleRoom cap b
roomy_on cap a b h room = record {
  lanes = λ q d below.
      (let at = slice_get-get_or b.ends.items q d below in
      let y = get_or b.ends.items q d in
      let x = end_before a.ends.items b.ends.items q y h.ends_long at in
      end_roomy_on cap x.0 y (h.ends q x.0 y x.1 at) (All-at (EndHasRoom cap) a.ends.items q x.0 room.lanes x.1));
  dumps = subst (λ (l : WithRoom DumpRec). 24 ≤ l.spare) (sym h.dumps) room.dumps;
  deliveries = subst (λ (l : WithRoom Delivery). 1 ≤ l.spare) (sym h.deliveries) room.deliveries;
}
