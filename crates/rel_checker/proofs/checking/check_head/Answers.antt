use Rattle.std.proofs.Common.{suc, refl, arith}
use Rattle.result_rules.specs.declared.rule.Rule.TheVariants.{HeadSound}
use Rattle.line_rules.proofs.GivenFirsts.{ratio_breaks, given_breaks, head_met}
use Rattle.rel_checker.proofs.Settling.{none_met, next_met, judged, refused}
use Rattle.rel_checker.proofs.checking.check_head.Goals as goal

pub returns-then-file-gt-MAX_RATIO : goal.returns-then-file-gt-MAX_RATIO
returns-then-file-gt-MAX_RATIO c =
    let file = c.args.file.now in
    judged file c.no.result 3 1 c.no.ensures
    (refused file HeadSound 0 0 3 1 refl (none_met file) (ratio_breaks file (λ h. omega (arith, h, c.if-file-gt-MAX_RATIO.true))) refl refl)

pub returns-in-Some : goal.returns-in-Some
returns-in-Some c =
    let file = c.args.file.now in
    judged file c.no-in-Some.result c.given_line.result 1 c.no-in-Some.ensures
    (refused file HeadSound 0 (suc c.in-Some.place) c.given_line.result 1 refl (none_met file)
    (given_breaks file c.if-file-gt-MAX_RATIO.false c.in_ok-place.field-0 c.in_ok-place.ensures c.in-Some.place c.in-Some.is) refl c.given_line.ensures)

pub returns-in-None : goal.returns-in-None
returns-in-None c =
    let file = c.args.file.now in
    next_met file HeadSound 0 refl (none_met file) (head_met file c.if-file-gt-MAX_RATIO.false c.in_ok-place.field-0 c.in_ok-place.ensures c.in-None.is)
