-- An end stays an end of its link, and one offer more is refused.
use Rattle.chip_node.proofs.Common.{InEnd, IsInEndOf, IsOutEndOf, IsRx, IsTx, Known, Link, List, OutEnd, RefusesOffer, RefusesOffers, Rx, Tx, append_assoc, arith, get_or, get_or_from_slice_get}
use Rattle.chip_node.proofs.Common.{replicate_more, subst, sym, ℕ, ◌+◌, ◌∙◌, ◌≡◌}

-- the link that is read is the one of which it is an end
pub in_end_stays : (links : List Link) (e : InEnd) (l : Link) (rx : Rx) → IsInEndOf links e → l ≡ get_or links e.link l → IsRx l rx → IsInEndOf links (record { link = e.link; rx = rx })
in_end_stays links e l rx h is end = record {
  of = h.of;
  stands = h.stands;
  is_end = subst (λ m. IsRx m rx) (is ∙ get_or_from_slice_get links e.link h.of l h.stands) end;
}

pub out_end_stays : (links : List Link) (e : OutEnd) (l : Link) (tx : Tx) → IsOutEndOf links e → l ≡ get_or links e.link l → IsTx l tx → IsOutEndOf links (record { link = e.link; tx = tx })
out_end_stays links e l tx h is end = record {
  of = h.of;
  stands = h.stands;
  is_end = subst (λ m. IsTx m tx) (is ∙ get_or_from_slice_get links e.link h.of l h.stands) end;
}

pub out_end_read : (links : List Link) (e : OutEnd) (l : Link) → IsOutEndOf links e → l ≡ get_or links e.link l → IsTx l e.tx
out_end_read links e l h is = subst (λ m. IsTx m e.tx) (sym (is ∙ get_or_from_slice_get links e.link h.of l h.stands)) h.is_end

-- an offer is refused
pub refuses_one : (cap : ℕ) (v u : Known) → RefusesOffer cap v u → v.cap ≡ cap → RefusesOffers 1 v u
refuses_one cap v u r is = record { noted = r.noted; looked = λ _. r.looked; full = λ _. (let full = r.full in omega arith) }

-- one offer more is refused
pub refuses_more : (n : ℕ) (v w u : Known) → RefusesOffers n v w → RefusesOffers 1 w u → RefusesOffers (n + 1) v u
refuses_more n v w u h r = grind (arith, append_assoc, replicate_more)
