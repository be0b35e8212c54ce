-- What a whole round does with one queue: a lane of one share, or a link between two.
use Rattle.mesh_run.proofs.Common.{All, All-map, All-weaker, Away, InEnd, IsDown, IsFullMoment, IsFullNote, Item, LinkEnds, List, McCopy, NoNotes, OutEnd, QueueGoes, Share, Some, WithRoom, [], ap}
use Rattle.mesh_run.proofs.Common.{arith, cap_of, cases_eq, end_at, entered, entered_by, get_or, inl, inr, left, left_by, length, length-append, length-map, lost_at, lost_by, map, min, put_of}
use Rattle.mesh_run.proofs.Common.{sending, subst, sym, taking, ℕ, ◌*◌, ◌++◌, ◌+◌, ◌-◌, ◌<◌, ◌∙◌, ◌≡◌, ◌≢◌, ◌≤◌}
use Rattle.mesh_run.proofs.Together.{LanePasses, PlayedParts, SenderPasses, TakerPasses, joined, none_passes, told_by_one}

module _ {cap patience : ℕ} {before after : List Share} {parts : List (List Item)} (h : PlayedParts cap patience before after parts) where
  abbrev items : List Item
  items = joined parts

  abbrev part : ℕ → List Item
  part k = get_or parts k []

  -- a queue that is a lane of one share
  pub lane_queue : (q s : ℕ) (a : WithRoom McCopy) (held : List McCopy) → s < length before → a.items ≡ held → length held ≤ cap →
      ((k : ℕ) → k < length before → k ≢ s → end_at before k q ≡ Some Away) → (p : LanePasses h s q a) → QueueGoes cap patience (joined parts) q held p.lane.items
  lane_queue q s a held below is fits others p = record {
    in_order = ap (λ (l : List McCopy). held ++ l) came ∙ (ap (λ (l : List McCopy). l ++ entered q (part s)) (sym is) ∙ (p.goes.in_order ∙ ap (λ (l : List McCopy). l ++ p.lane.items) (sym went)));
    within = p.goes.within begins;
    fulls = p.goes.fulls;
    full =
        subst (λ (l : List McCopy). All (IsFullMoment cap (length held) l (left q items)) p.goes.fulls) (sym came)
        (subst (λ (l : List McCopy). All (IsFullMoment cap (length held) (entered q (part s)) l) p.goes.fulls) (sym went)
        (subst (λ (l : List McCopy). All (IsFullMoment cap (length l) (entered q (part s)) (left q (part s))) p.goes.fulls) is (p.goes.full begins)));
    patient = subst (λ (l : List McCopy). patience * length l ≤ length p.goes.fulls) (sym lost) p.goes.patient;
  }
    where
      came : entered q items ≡ entered q (part s)
      came = told_by_one h (entered_by q) s below (λ j inside other. (none_passes h j q (others j inside other)).came)

      went : left q items ≡ left q (part s)
      went = told_by_one h (left_by q) s below (λ j inside other. (none_passes h j q (others j inside other)).went)

      lost : lost_at q items ≡ lost_at q (part s)
      lost = told_by_one h (lost_by q) s below (λ j inside other. (none_passes h j q (others j inside other)).lost)

      begins : length a.items ≤ cap
      begins = subst (λ (l : List McCopy). length l ≤ cap) (sym is) fits

  -- a queue that is a link between two shares
  pub record LinkPasses (q s r : ℕ) (a : OutEnd) (b : InEnd) (held : List McCopy) (e : LinkEnds) (rest : List McCopy) (turns : ℕ) : Type 0 where
    pub sender_in : s < length before
    pub receiver_in : r < length before
    pub two : s ≢ r
    pub others : (k : ℕ) → k < length before → k ≢ s → k ≢ r → end_at before k q ≡ Some Away
    pub sender_new : NoNotes held (sending a.tx)
    pub receiver_new : NoNotes held (taking b.rx)
    pub sends : SenderPasses h s q a
    pub takes : TakerPasses h r q b
    pub tx : sends.sender.tx ≡ e.tx
    pub rx : takes.taker.rx ≡ e.rx
    pub down : IsDown e rest
    pub fits : length held ≤ cap
    pub few : cap_of e.link ≤ cap
    pub enough : min cap (length held + (turns + 1)) ≤ cap_of e.link
    pub filled : length (entered q (joined parts)) ≤ turns

  module _ (q s r : ℕ) (a : OutEnd) (b : InEnd) (held : List McCopy) (e : LinkEnds) (rest : List McCopy) (turns : ℕ) (l : LinkPasses q s r a b held e rest turns) where
    came : entered q items ≡ entered q (part s)
    came = told_by_one h (entered_by q) s l.sender_in (λ j inside other. elim (cases_eq j r) [
      | inl here ↦ subst (λ k. entered q (part k) ≡ []) (sym here) l.takes.came
      | inr away ↦ (none_passes h j q (l.others j inside other away)).came
    ])

    lost : lost_at q items ≡ lost_at q (part s)
    lost = told_by_one h (lost_by q) s l.sender_in (λ j inside other. elim (cases_eq j r) [
      | inl here ↦ subst (λ k. lost_at q (part k) ≡ []) (sym here) l.takes.lost
      | inr away ↦ (none_passes h j q (l.others j inside other away)).lost
    ])

    went : left q items ≡ left q (part r)
    went = told_by_one h (left_by q) r l.receiver_in (λ j inside other. elim (cases_eq j s) [
      | inl here ↦ subst (λ k. left q (part k) ≡ []) (sym here) l.sends.went
      | inr away ↦ (none_passes h j q (l.others j inside away other)).went
    ])

    put : put_of (sending e.tx) ≡ held ++ entered q items
    put = grind (arith, came)

    took : (taking e.rx).took ≡ left q items
    took = ap (λ t. (taking t).took) (sym l.rx) ∙ (l.takes.goes.took ∙ (ap (λ (x : List McCopy). x ++ left q (part r)) l.receiver_new.took ∙ sym went))

    fulls : (sending e.tx).fulls ≡ l.sends.goes.notes
    fulls = ap (λ t. (sending t).fulls) (sym l.tx) ∙ (l.sends.goes.fulls ∙ ap (λ (x : List ℕ). x ++ l.sends.goes.notes) l.sender_new.fulls)

    abbrev moment : ℕ → ℕ × ℕ
    moment x = (x - length held, x - cap)

    -- A note of Full is such a moment: turns cannot fill a link that has fewer places than its queue.
    full_note : (x : ℕ) → IsFullNote (cap_of e.link) (put_of (sending e.tx)) (taking e.rx).took x → IsFullMoment cap (length held) (entered q items) (left q items) (moment x)
    full_note x note = grind (arith, put, length-append held (entered q items), took)

    pub link_queue : QueueGoes cap patience (joined parts) q held rest
    link_queue = record {
      in_order = sym put ∙ (l.down.all ∙ ap (λ (x : List McCopy). x ++ rest) took);
      within = let bound = l.down.bound in let few = l.few in omega (arith, bound, few);
      fulls = map moment l.sends.goes.notes;
      full = All-map (IsFullMoment cap (length held) (entered q items) (left q items)) moment l.sends.goes.notes
          (subst (All (λ x. IsFullMoment cap (length held) (entered q items) (left q items) (moment x))) fulls
          (All-weaker (IsFullNote (cap_of e.link) (put_of (sending e.tx)) (taking e.rx).took) (λ x. IsFullMoment cap (length held) (entered q items) (left q items) (moment x)) full_note
          (sending e.tx).fulls l.down.noted));
      patient =
          let noted = length-map l.sends.goes.notes moment in
          subst (λ n. patience * length (lost_at q items) ≤ n) (sym noted) (subst (λ (x : List McCopy). patience * length x ≤ length l.sends.goes.notes) (sym lost) l.sends.goes.patient);
    }
