use Rattle.std.proofs.Common.{◌+◌, ◌++◌, sym, subst, arith}
use Rattle.std.proofs.lemmas.List.{append-nil, take_all}
use Rattle.tor_numbers.specs.Slots.{IsInserted}
use Rattle.drawing.specs.Shifted.{HasNumbers}
use Rattle.drawing.proofs.Choosing.{numbers_of}
use Rattle.drawing.proofs.Towering.{numbers_more}
use Rattle.drawing.proofs.tower.add_numbers.Goals as goal

pub loop-neighbour-init : goal.loop-neighbour-init
loop-neighbour-init c near has = subst (HasNumbers c.args.nearer.now) (sym (append-nil near)) has

pub loop-neighbour-preserved : goal.loop-neighbour-preserved
loop-neighbour-preserved c near has =
    let l = c.loop-neighbour in
    let new = c.insert.new.self in
    numbers_more c.args.neighbours.now l.neighbour-index _ near l.nearer new c.in_ok-insert.field-0 c.loop-neighbour-test.true (l.invariant near has)
    (subst (λ m. IsInserted (m + 2) l.nearer new c.in_ok-insert.field-0) c.from.ensures c.in_ok-insert.ensures.ok)

pub returns : goal.returns
returns c near has =
    let l = c.loop-neighbour in
    subst (λ xs. HasNumbers l.nearer (near ++ numbers_of xs))
    (take_all l.neighbour-index c.args.neighbours.now (omega (arith, c.loop-neighbour-test.false))) (l.invariant near has)
