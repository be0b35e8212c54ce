-- What one look, one offer or one copy makes of an end, as what was done tells it.
use Rattle.chip_node.proofs.Common.{All-nil, All-replicate, Away, End, EndGoes, EndLacks, EndRefuses, EndSends, EndStays, EndTakes, IsFullEnd, IsFullMoment, IsIdle, LaneGoes, List, McCopy, OutEnd}
use Rattle.chip_node.proofs.Common.{Own, RefusesOffers, SenderGoes, Sends, SendsOffer, Takes, [], append-nil, arith, length, length-append, length-replicate, put_of, replicate, sending, taking, ℕ}
use Rattle.chip_node.proofs.Common.{◌++◌, ◌<◌, ◌∷◌, ◌≡◌, ◌≤◌}
use Rattle.chip_node.proofs.Stays.{sender_same}

-- ---- a copy was sent

lane_sends : (cap patience : ℕ) (k : McCopy) (x y : List McCopy) → y ≡ x ++ k ∷ [] → length x < cap → LaneGoes cap patience (k ∷ []) [] [] x y
lane_sends cap patience k x y is below = grind (arith, length-append x (k ∷ []), All-nil (IsFullMoment cap (length x) (k ∷ []) []))

-- whatever the patience of the offers was
sender_sends : (patience tries : ℕ) (k : McCopy) (x y : OutEnd) → y.link ≡ x.link → SendsOffer tries k (sending x.tx) (sending y.tx) → SenderGoes patience (k ∷ []) [] x y
sender_sends patience tries k x y link s = grind arith

pub end_goes_sends : (cap patience tries : ℕ) (k : McCopy) (x y : End) → EndSends cap tries k x y → EndGoes cap patience (k ∷ []) [] [] x y
end_goes_sends cap patience tries k x y its_6 = grind (arith, lane_sends, sender_sends)

-- ---- a copy was dumped

lane_refuses : (cap patience : ℕ) (k : McCopy) (x : List McCopy) → cap ≤ length x → LaneGoes cap patience [] [] (k ∷ []) x x
lane_refuses cap patience k x full = record {
  in_order = append-nil x;
  within = λ fits. fits;
  fulls = replicate patience (0, 0);
  full = λ fits. All-replicate (IsFullMoment cap (length x) [] []) patience (0, 0) (record { entered_by_then = omega arith; left_by_then = omega arith; full = omega arith });
  patient = (let long : length (replicate {A = ℕ × ℕ} patience (0, 0)) ≡ patience = length-replicate patience (0, 0) in omega arith);
}

sender_refuses : (patience : ℕ) (k : McCopy) (x y : OutEnd) → y.link ≡ x.link → RefusesOffers patience (sending x.tx) (sending y.tx) → SenderGoes patience [] (k ∷ []) x y
sender_refuses patience k x y link r = grind (arith, append-nil (sending x.tx).sent, length-replicate patience (length (put_of (sending x.tx))))

pub end_goes_refuses : (cap patience : ℕ) (k : McCopy) (x y : End) → EndRefuses cap patience x y → EndGoes cap patience [] [] (k ∷ []) x y
end_goes_refuses cap patience k x y its_5 = grind (arith, lane_refuses, sender_refuses)

-- a copy that was refused, and not dumped
pub end_stays_refuses : (cap tries : ℕ) (x y : End) → EndRefuses cap tries x y → EndStays x y
end_stays_refuses cap tries x y its_4 = grind (arith, append-nil)

-- where an offer was refused, the queue was full
pub end_refuses_full : (cap tries : ℕ) (x y : End) → 0 < tries → EndRefuses cap tries x y → IsFullEnd cap x
end_refuses_full cap tries x y some its_5 = grind arith

-- ---- a copy was taken

pub end_goes_takes : (cap patience : ℕ) (k : McCopy) (x y : End) → EndTakes k x y → EndGoes cap patience [] (k ∷ []) [] x y
end_goes_takes cap patience k x y its_5 = grind (arith, append-nil, All-nil)

-- ---- nothing was there to take

pub end_stays_lacks : (x y : End) → EndLacks x y → EndStays x y
end_stays_lacks x y its_2 = grind (arith, sender_same, append-nil)

pub end_lacks_idle : (x y : End) → EndLacks x y → IsIdle x
end_lacks_idle x y its_2 = grind arith
