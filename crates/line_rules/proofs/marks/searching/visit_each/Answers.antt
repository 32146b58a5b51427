use Rattle.std.proofs.Common.{◌<◌, [], ◌∷◌, length, take, sym, subst, arith}
use Rattle.std.proofs.lemmas.List.{take_all}
use Rattle.tor_arena.proofs.Gets.{take_item}
use Rattle.line_rules.specs.Searching.{RoundComesTo}
use Rattle.line_rules.proofs.Rounds.{rounds-none, rounds-more}
use Rattle.line_rules.proofs.marks.searching.visit_each.Goals as goal

pub loop-edge-preserved : goal.loop-edge-preserved
loop-edge-preserved c =
    let row = c.args.row.now in
    let i = c.loop-edge.edge-index in
    rw (take_item row i c.edge-item.result c.loop-edge-test.true c.edge-item.is)
    (rounds-more c.args.round (take i row) (c.edge-item.result ∷ []) c.args.rounds.now.items c.loop-edge.rounds.items c.visit.new.rounds.items c.args.found.now c.loop-edge.found c.visit.new.found
    c.loop-edge.invariant c.in_ok-visit.ensures)

pub visit-requires : goal.visit-requires
visit-requires c =
    let many = c.loop-edge.invariant.many in
    let below = subst (λ k. k < length c.args.rounds.now.items) (sym c.edge-item.is) (c.requires c.loop-edge.edge-index c.edge-item.result c.loop-edge-test.true) in
    omega (arith, below, many)

pub loop-edge-init : goal.loop-edge-init
loop-edge-init c = rounds-none c.args.round c.args.rounds.now.items c.args.found.now

pub returns : goal.returns
returns c =
    subst (λ row. RoundComesTo c.args.round row c.args.rounds.now.items c.loop-edge.rounds.items c.args.found.now c.loop-edge.found)
    (take_all c.loop-edge.edge-index c.args.row.now (omega (arith, c.loop-edge-test.false))) c.loop-edge.invariant
