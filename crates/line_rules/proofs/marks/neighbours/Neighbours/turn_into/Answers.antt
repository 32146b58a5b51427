use Rattle.std.proofs.Common.{rules, ◌≡◌, Some, slice_get, get_or, length, refl, subst, arith}
use Rattle.std.proofs.lemmas.List.Elements.{Contains-get_or}
use Rattle.line_rules.specs.Neighbours.{HasBack}
use Rattle.line_rules.proofs.TurnedRows.{turned-none, turned-more, turned-done}
use Rattle.line_rules.proofs.marks.neighbours.Neighbours.turn_into.Goals as goal

pub loop-place-init : goal.loop-place-init
loop-place-init c = turned-none c.args.self.now c.args.turned.now (length c.args.self.now) refl c.requires.empty

pub add_to_each-requires : goal.add_to_each-requires
add_to_each-requires c = λ k d lt.
    let row = c.of.result.now in
    let within = c.requires.inside c.unwrap-edge.result (get_or row k d) (row, c.of.ensures, Contains-get_or row k d lt) in
    omega (arith, within, c.loop-place.invariant.many)

pub loop-place-preserved : goal.loop-place-preserved
loop-place-preserved c =
    let rows = c.args.self.now in
    let row = c.of.result.now in
    let old = c.loop-place.turned in
    let new = c.add_to_each.new.self in
    let same : c.unwrap-edge.result ≡ c.loop-place.place = search rules in
    turned-more rows old new c.loop-place.place row (subst (λ k. slice_get rows k ≡ Some row) same c.of.ensures) c.loop-place.invariant
    (subst (λ k. HasBack k row old new) same c.in_ok-add_to_each.ensures)

pub returns : goal.returns
returns c =
    let test = c.loop-place-test.false in
    let end = c.loop-place.auto.place-end in
    turned-done c.args.self.now c.loop-place.turned c.loop-place.place (omega (arith, test, end, c.len-place-end.ensures)) c.loop-place.invariant
