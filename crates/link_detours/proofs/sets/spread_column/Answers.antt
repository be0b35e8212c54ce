use Rattle.link_detours.proofs.Common.{cases_eq, get_or, inl, inr, refl, rules}
use Rattle.link_detours.proofs.sets.spread_column.Goals as goal

pub returns : goal.returns
returns c = record {
  word = c.spread_word-word.result;
  is = refl;
  fits = c.spread_word-word.type_inv;
  rises = c.spread_word-word.ensures.rises;
  spread = λ y high. (
    λ bit. c.spread_word-word.ensures.only y high bit,
    λ by. elim by [ inl bit ↦ c.spread_word-word.ensures.old y bit | inr leads ↦ c.spread_word-word.ensures.new y leads.0 high leads.1 ],
  );
  named = c.with_column.ensures.same;
  told = λ off. elim (cases_eq c.spread_word-word.result (get_or c.args.column.front.set.now c.args.column.x 0)) [
    | inl same ↦ same
    | inr other ↦ absurd (off (c.with_column.ensures.named (search rules)))
  ];
  grew = elim (cases_eq c.spread_word-word.result (get_or c.args.column.front.set.now c.args.column.x 0)) [
    | inl same ↦ inl (c.with_column.ensures.unnamed (search rules))
    | inr other ↦ inr other
  ];
}
