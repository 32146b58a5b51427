use Rattle.std.proofs.Common.{rules, ◌≡◌, ◌+◌, Err, sym, ap, subst, ◌∙◌, arith}
use Rattle.std.proofs.lemmas.Result.{err_from_is_err_and}
use Rattle.result_text.specs.Taking.{AreWhole, IsAt}
use Rattle.result_text.proofs.Pieces.{whole_after, goes_on, come_to_an_error}
use Rattle.result_text.proofs.taking.read_long.Goals as goal

pub read_lines-requires : goal.read_lines-requires
read_lines-requires c =
    record {
      whole = subst AreWhole (sym c.as_slice.ensures) (whole_after c.args.draft.now c.next_long.new.draft c.args.lines.now c.next_long.new.octets c.requires.whole c.in_ok-next_long.ensures);
    }

pub returns-in_err-next_long : goal.returns-in_err-next_long
returns-in_err-next_long c = λ octets at.
    let p = err_from_is_err_and c.from_residual.result c.from_residual.ensures.1 in
    let some = c.requires.some in
    come_to_an_error c.args.line.now c.args.draft.now c.next_long.new.draft octets c.args.lines.now c.in_err-next_long.field-0.0 c.from_residual.result (p.1 ∙ ap (λ e. Err e) p.2) c.requires.whole
    (λ none. omega (arith, none, some)) at c.in_err-next_long.ensures

pub returns : goal.returns
returns c = λ octets at.
    let more : c.in-Some.next ≡ c.args.line.now + 1 = search rules in
    c.read_lines.ensures octets (subst (IsAt c.in-Some.next c.next_long.new.draft octets) (sym c.as_slice.ensures)
    (goes_on c.args.line.now c.in-Some.next c.args.draft.now c.next_long.new.draft octets c.args.lines.now c.next_long.new.octets more at c.in_ok-next_long.ensures))
