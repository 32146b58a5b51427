use Rattle.std.proofs.Common.{◌≡◌, Some, slice_get, refl, sym, subst, arith}
use Rattle.relationships.specs.Graph.{edge_of}
use Rattle.line_rules.specs.EdgeLines.{edges_of}
use Rattle.line_rules.proofs.ListedEdges.{within_lines}
use Rattle.line_rules.proofs.Showings.{shown-absent, shown-more}
use Rattle.line_rules.proofs.marks.showing.show.Goals as goal

pub returns-in_default-clause-shown : goal.returns-in_default-clause-shown
returns-in_default-clause-shown c = λ orders h.
    shown-absent c.args.lines.now c.requires.apart orders c.args.over c.args.under c.args.shown.now.items (rw c.requires.table at c.in_default.ensures.found) h

pub unreachable-requires : goal.unreachable-requires
unreachable-requires c =
    let within = within_lines c.args.lines.now c.in-Some.place (edge_of c.args.over c.args.under) (rw c.requires.table at c.in-Some.ensures.found) in
    let le = c.in_default-from_place.ensures.none.0 refl in
    omega (arith, within, le, c.requires.few)

pub put-requires : goal.put-requires
put-requires c =
    let within = within_lines c.args.lines.now c.in-Some.place (edge_of c.args.over c.args.under) (rw c.requires.table at c.in-Some.ensures.found) in
    omega (arith, within, c.in-Some-from_place.ensures.some, c.requires.many)

pub returns-clause-shown : goal.returns-clause-shown
returns-clause-shown c = λ orders h.
    let lines = c.args.lines.now in
    let at = subst (λ k. slice_get (edges_of lines) k ≡ Some (edge_of c.args.over c.args.under)) (sym c.in-Some-from_place.ensures.some) (rw c.requires.table at c.in-Some.ensures.found) in
    let within = within_lines lines c.in-Some-from_place.edge (edge_of c.args.over c.args.under) at in
    shown-more lines c.requires.apart orders c.args.over c.args.under c.in-Some-from_place.edge c.args.shown.now.items c.put.new.self.items at (omega (arith, within, c.requires.many))
    c.put.ensures.items h

pub returns-in_default-clause-many : goal.returns-in_default-clause-many
returns-in_default-clause-many c = c.requires.many
