use Rattle.std.proofs.Common.{◌≡◌, ◌+◌, ◌^◌, length, ap, subst, refl, arith}
use Rattle.line_rules.specs.Breaches.{First}
use Rattle.line_rules.specs.Serving.{MarkedAt, ServesAt}
use Rattle.line_rules.proofs.MarkedLines.{edge_breaks, none_breaks, open_breaks}
use Rattle.rel_checker.proofs.mark_rules.find_by_cover.Goals as goal

pub returns-in-Some : goal.returns-in-Some
returns-in-Some c =
    let file = c.args.file.now in
    edge_breaks file c.in-Some.place (subst (First (MarkedAt file) (length file.edges)) c.in-Some.is c.in_ok-place.ensures)

pub overflow_add-result : goal.overflow_add-result
overflow_add-result c =
    let file = c.args.file.now in
    let opens = subst (First (ServesAt file) (length file.probes)) c.in-Some-useless.is c.in_ok-useless.ensures in
    let e : 2 ^ 40 ≡ 1099511627776 = refl in
    omega (arith, opens.0, c.requires.lines, c.len.ensures, e)

pub returns-in-Some-useless : goal.returns-in-Some-useless
returns-in-Some-useless c =
    let file = c.args.file.now in
    let borne = subst (First (MarkedAt file) (length file.edges)) c.in_default.is c.in_ok-place.ensures in
    let opens = subst (First (ServesAt file) (length file.probes)) c.in-Some-useless.is c.in_ok-useless.ensures in
    open_breaks file (c.len.result + c.in-Some-useless.place) c.in-Some-useless.place (ap (λ n. n + c.in-Some-useless.place) c.len.ensures) borne opens

pub returns-in-None : goal.returns-in-None
returns-in-None c =
    let file = c.args.file.now in
    none_breaks file (subst (First (MarkedAt file) (length file.edges)) c.in_default.is c.in_ok-place.ensures)
    (subst (First (ServesAt file) (length file.probes)) c.in-None.is c.in_ok-useless.ensures)
