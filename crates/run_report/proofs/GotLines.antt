-- The got lines of a report are those of the deliveries that the job asks for.
use Rattle.run_report.proofs.Common.{AllPairs, Delivery, Equal, IsAtRest, IsDeliveredOf, IsDeliveryNotAfter, IsMesh, List, MatchOrdering, McCopy, MeetsJobLedger, NetPlan, Ordering, Packet, Spot}
use Rattle.run_report.proofs.Common.{State, [], ap, arith, delivered_as_expected, delivery_key, expected_deliveries, false, flat_map, get_or, got_line, in_order_is_list, is_lt, map, named_delivery}
use Rattle.run_report.proofs.Common.{nat_cmp, nat_list_cmp_total, ordering_then, ranked, ranks_by, refl, sorted_far, sym, without_hop, ℕ, ◌++◌, ◌<◌, ◌∙◌, ◌∷◌, ◌≡◌}

-- what the order of keys tells of two deliveries
not_after : (x y : Delivery) (r t : Ordering) → MatchOrdering r (y.copy.packet < x.copy.packet) (y.copy.packet ≡ x.copy.packet) (x.copy.packet < y.copy.packet) →
    MatchOrdering t (y.vertex < x.vertex) (y.vertex ≡ x.vertex) (x.vertex < y.vertex) → is_lt (ordering_then r (ordering_then t Equal)) ≡ false → IsDeliveryNotAfter x y
not_after x y r t p v e = grind arith

module _ (placed : List (List ℕ × Spot)) where
  -- deliveries that are told in order stand so that none belongs before an earlier one
  pub none_after : (ds : List Delivery) (delivered : List (List ℕ × McCopy)) → (is : IsDeliveredOf placed ds delivered) → AllPairs IsDeliveryNotAfter is.sorted
  none_after ds delivered is = λ i j d less within.
      let x : Delivery = get_or is.sorted i d in
      let y : Delivery = get_or is.sorted j d in
      not_after x y (nat_cmp y.copy.packet x.copy.packet) (nat_cmp y.vertex x.vertex)
      (ranked y.copy.packet x.copy.packet _ refl) (ranked y.vertex x.vertex _ refl)
      (sorted_far _ (ranks_by (nat_list_cmp_total) delivery_key) is.sorted is.in_order.ascending i j d (omega arith) within)

  -- a got line tells no hop number
  lines_alike : (ds : List Delivery) → flat_map got_line (map (named_delivery placed) (map without_hop ds)) ≡ flat_map got_line (map (named_delivery placed) ds)
  lines_alike [] = refl
  lines_alike (d ∷ ds) = ap (λ l. got_line (named_delivery placed d) ++ l) (lines_alike ds)

  pub got_lines : (s : State) (nets : List NetPlan) (packets : List Packet) (delivered : List (List ℕ × McCopy)) → IsMesh s → MeetsJobLedger s nets packets →
      IsAtRest s → s.dumped ≡ [] → IsDeliveredOf placed s.delivered delivered →
      flat_map got_line delivered ≡ flat_map got_line (map (named_delivery placed) (expected_deliveries s.setup.spots nets packets))
  got_lines s nets packets delivered mesh job rest no_dump is =
      ap (flat_map got_line) is.named_each
      ∙ (sym (lines_alike is.sorted)
      ∙ ap (λ (l : List Delivery). flat_map got_line (map (named_delivery placed) l))
      (in_order_is_list s nets packets mesh job.ledger.ledger.nets_stand (delivered_as_expected s nets packets job rest no_dump) is.sorted is.in_order.same_items (none_after s.delivered delivered is)))
