use Rattle.std.proofs.Common.{rules, ◌≡◌, ◌∙◌, None, sym}
use Rattle.text_fields.specs.Reading.{digits_at}
use Rattle.text_fields.proofs.DigitsRead.{digits_go_on, digits_stop, digits_end_at, digit_shorter}
use Rattle.text_fields.proofs.reading.digits_of.Goals as goal

pub digits-preserved : goal.digits-preserved
digits-preserved c = digits_go_on c.digits.rest.now c.digits.number c.in-Some.digit c.in_ok-number.number c.in-Some.others.now (sym c.in-Some.ensures) (sym c.in_ok-number.ensures) ∙ c.digits.invariant

pub digits-smaller : goal.digits-smaller
digits-smaller c = digit_shorter c.digits.rest.now c.in-Some.digit c.in-Some.others.now (sym c.in-Some.ensures)

pub returns-in_err-number : goal.returns-in_err-number
returns-in_err-number c =
    let stopped = digits_stop c.digits.rest.now c.digits.number c.in-Some.digit c.in-Some.others.now (sym c.in-Some.ensures) (sym c.in_err-number.ensures) in
    let none : digits_at c.args.prefix c.args.bytes.now ≡ None = sym c.digits.invariant ∙ stopped in
    rw none (search rules)

pub returns : goal.returns
returns c = sym (digits_end_at c.digits.rest.now c.digits.number (sym c.in_default.ensures)) ∙ c.digits.invariant
