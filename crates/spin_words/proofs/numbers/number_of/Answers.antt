use Rattle.std.proofs.Common.{◌<◌, arith, length, get_or, ap, sym, ◌∙◌}
use Rattle.std.specs.{List.list_all, Char.is_ascii_digit}
use Rattle.spin_words.proofs.NumberWords.{number-empty, number-other, number-zero, number-parsed, number-unparsed}
use Rattle.spin_words.proofs.numbers.number_of.Goals as goal

pub returns-then-digits-eq0 : goal.returns-then-digits-eq0
returns-then-digits-eq0 c = number-empty c.args.word.now (omega (arith, ap length c.as_bytes-digits.ensures.value))

pub returns-then-not-are_digits : goal.returns-then-not-are_digits
returns-then-not-are_digits c =
    number-other c.args.word.now (ap (list_all is_ascii_digit) (sym c.as_bytes-digits.ensures.value) ∙ sym c.are_digits.ensures ∙ c.if-not-are_digits.true)

pub returns-then-digits-gt1 : goal.returns-then-digits-gt1
returns-then-digits-gt1 c =
    number-zero c.args.word.now (ap (list_all is_ascii_digit) (sym c.as_bytes-digits.ensures.value) ∙ sym c.are_digits.ensures ∙ c.if-not-are_digits.false)
    (ap (λ l. get_or l 0 0) (sym c.as_bytes-digits.ensures.value) ∙ c.if-digits-eq48.true)
    (omega (arith, ap length c.as_bytes-digits.ensures.value))

pub returns-in-Ok : goal.returns-in-Ok
returns-in-Ok c =
    let some : 0 < length c.args.word.now = omega (arith, ap length c.as_bytes-digits.ensures.value) in
    number-parsed c.args.word.now c.parse.result c.in-Ok.number c.parse.ensures.value.0 c.in-Ok.is
    (ap (list_all is_ascii_digit) (sym c.as_bytes-digits.ensures.value) ∙ sym c.are_digits.ensures ∙ c.if-not-are_digits.false)
    some
    (λ first. omega (arith, ap length c.as_bytes-digits.ensures.value, ap (λ l. get_or l 0 0) c.as_bytes-digits.ensures.value, c.else-digits-eq48.either))

pub returns-in-Err : goal.returns-in-Err
returns-in-Err c =
    let some : 0 < length c.args.word.now = omega (arith, ap length c.as_bytes-digits.ensures.value) in
    number-unparsed c.args.word.now c.parse.result c.in-Err.field-0 c.parse.ensures.value.0 c.in-Err.is
    (ap (list_all is_ascii_digit) (sym c.as_bytes-digits.ensures.value) ∙ sym c.are_digits.ensures ∙ c.if-not-are_digits.false)
    some
    (λ first. omega (arith, ap length c.as_bytes-digits.ensures.value, ap (λ l. get_or l 0 0) c.as_bytes-digits.ensures.value, c.else-digits-eq48.either))
