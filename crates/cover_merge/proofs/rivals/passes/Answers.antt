-- Rivals decide, in order of generality.
use Rattle.cover_merge.proofs.Common.{AreRivalsAt, IsRivaled, PassesUp, Rival, ap, arith, get_or, is_at_one, place_for, props, refl, sym, ∥∥₁_elim, ◌∙◌}
use Rattle.cover_merge.proofs.{Answering.answers_no, RivalLemmas.all_passed, RivalLemmas.away_refuses, RivalLemmas.other_refuses, RivalLemmas.rest_pass, RivalLemmas.rivals_read}
use Rattle.cover_merge.proofs.rivals.passes.Goals.{After-as_slice-list, then-rival-bits-via-then-rival-bits, then-rival-bits-via-else-rival-bits+then-not-is_at_one}
use Rattle.cover_merge.proofs.rivals.passes.Goals as goal

abbrev none : Rival
none = record { serial = 0; general = 0; bits = 0 }

-- the list that was read has the rivals of the row
read : (c : After-as_slice-list) → let t = c.args.row.table in IsRivaled t.rows.now t.rivals.now → AreRivalsAt t.rows.now t.rivals.now.serials.items c.args.row.s c.as_slice-list.result.now
read c rivaled = grind (arith, rivals_read)

pub returns-then-rival-general : goal.returns-then-rival-general
returns-then-rival-general c =
    let t = c.args.row.table in
    let list = c.as_slice-list.result.now in
    ∥∥₁_elim t.rivaled (hlevel props) (λ rivaled. (
      λ yes. rest_pass _ _ rivaled _ c.args.row.are.in_range _ list (read (goal.at.returns-then-rival-general c).After-as_slice-list rivaled) c.args.general c.loop-k.k c.loop-k.invariant none c.loop-k-test.true c.if-rival-general.true,
      λ up. refl,
    ))

pub returns-then-rival-bits : goal.returns-then-rival-bits
returns-then-rival-bits c =
    let t = c.args.row.table in
    let list = c.as_slice-list.result.now in
    ∥∥₁_elim t.rivaled (hlevel props) (λ rivaled.
    let are = read (goal.at.returns-then-rival-bits c).After-as_slice-list rivaled in
    answers_no (PassesUp t.rows.now c.args.row.places.now c.args.row.s (place_for t.rows.now c.args.general)) (elim c.then-rival-bits.branch [
      | then-rival-bits-via-then-rival-bits w ↦
          other_refuses _ _ rivaled _ c.args.row.are.in_range _ list are c.args.general c.args.row.are.one_route c.loop-k.k none c.loop-k-test.true c.if-rival-general.false
          c.index-rows-s.result w.if-rival-bits.true
      | then-rival-bits-via-else-rival-bits+then-not-is_at_one w ↦
          away_refuses _ _ rivaled _ c.args.row.are.in_range _ list are c.args.general c.args.row.are.one_route c.loop-k.k none c.loop-k-test.true c.if-rival-general.false
          (sym (w.is_at_one.ensures ∙ ap (λ l. is_at_one l c.args.row.places.now (get_or list c.loop-k.k none).serial) c.deref.ensures.value) ∙ w.if-not-is_at_one.true)
    ]))

pub returns : goal.returns
returns c =
    let t = c.args.row.table in
    let list = c.as_slice-list.result.now in
    ∥∥₁_elim t.rivaled (hlevel props) (λ rivaled. (
      λ yes. all_passed _ _ rivaled _ c.args.row.are.in_range _ list (read (goal.at.returns c).After-as_slice-list rivaled) c.args.general c.loop-k.k c.loop-k.invariant c.loop-k-test.false,
      λ up. refl,
    ))
