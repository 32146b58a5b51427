use Rattle.std.proofs.Common.{rules, ◌≡◌, ◌+◌, [], length, Err, sym, ap, subst, ◌∙◌}
use Rattle.std.proofs.lemmas.Bool.{eqb-false, eqb-true}
use Rattle.std.proofs.lemmas.List.{nil_from_length}
use Rattle.std.proofs.lemmas.Result.{err_from_is_err_and}
use Rattle.result_text.specs.Taking.{IsAt}
use Rattle.result_text.proofs.Verdicts.{next_shorter}
use Rattle.result_text.proofs.Pieces.{whole_after, goes_on, come_to_an_error}
use Rattle.result_text.proofs.taking.read_lines.Goals as goal

pub lines-smaller : goal.lines-smaller
lines-smaller c = next_shorter c.lines.draft c.next_line.new.draft c.lines.rest.now c.in_ok-rest.rest.now c.in_ok-rest.ensures

pub lines-preserved : goal.lines-preserved
lines-preserved c =
    let i = c.lines.invariant in
    let more : c.in-Some.next ≡ c.lines.line + 1 = search rules in (
      whole_after c.lines.draft c.next_line.new.draft c.lines.rest.now c.in_ok-rest.rest.now i.0 c.in_ok-rest.ensures,
      λ octets at. goes_on c.lines.line c.in-Some.next c.lines.draft c.next_line.new.draft octets c.lines.rest.now c.in_ok-rest.rest.now more (i.1 octets at) c.in_ok-rest.ensures,
    )

pub returns-in_err-rest : goal.returns-in_err-rest
returns-in_err-rest c = λ octets at.
    let i = c.lines.invariant in
    let p = err_from_is_err_and c.from_residual.result c.from_residual.ensures.1 in
    come_to_an_error c.lines.line c.lines.draft c.next_line.new.draft octets c.lines.rest.now c.in_err-rest.field-0.0 c.from_residual.result (p.1 ∙ ap (λ e. Err e) p.2) i.0
    (eqb-false (length c.lines.rest.now) 0 (sym c.lines-test.ensures)) (i.1 octets at) c.in_err-rest.ensures

pub returns : goal.returns
returns c = λ octets at.
    let none : c.lines.rest.now ≡ [] = nil_from_length c.lines.rest.now (eqb-true (length c.lines.rest.now) 0 (sym c.lines-test.ensures)) in
    subst (IsAt c.lines.line c.lines.draft octets) none (c.lines.invariant.1 octets at)
