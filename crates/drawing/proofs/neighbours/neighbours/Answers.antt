use Rattle.std.proofs.Common.{◌∙◌, All, ap, arith, sym, subst}
use Rattle.std.proofs.lemmas.List.{take_all}
use Rattle.drawing.specs.Order.{IsShort}
use Rattle.drawing.specs.Neighbours.{neighbours}
use Rattle.drawing.proofs.Sorting.{with_edge}
use Rattle.drawing.proofs.neighbours.neighbours.Goals as goal

pub loop-edge-preserved : goal.loop-edge-preserved
loop-edge-preserved c =
    with_edge c.args.asked c.args.group c.args.edges.now c.loop-edge.edge-index _ c.loop-edge.found.items c.add_neighbour.new.found.items c.loop-edge-test.true
    c.in-Ok.ensures.added c.in-Ok.ensures.short c.loop-edge.invariant

pub loop-edge-init : goal.loop-edge-init
loop-edge-init c = record { is = c.new-found.ensures.items; small = subst (All IsShort) (sym c.new-found.ensures.items) (λ k d lt. absurd (omega (arith, lt))) }

pub returns-clause-all : goal.returns-clause-all
returns-clause-all c =
    let l = c.loop-edge in
    l.invariant.is ∙ ap (neighbours c.args.asked c.args.group) (take_all l.edge-index c.args.edges.now (omega (arith, c.loop-edge-test.false)))

pub returns-clause-short : goal.returns-clause-short
returns-clause-short c = c.loop-edge.invariant.small
