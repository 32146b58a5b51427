use Rattle.std.proofs.Common.{arith}
use Rattle.std.proofs.lemmas.Bool.{both_ways}
use Rattle.std.proofs.lemmas.Option.{slice_get-get_or}
use Rattle.relationships.specs.Graph.{edge_of}
use Rattle.line_rules.specs.Flipping.{FlipsTo, flipped_orders}
use Rattle.line_rules.proofs.OrderPlaces.{absent, otherwise, flips_of, indexed}
use Rattle.line_rules.proofs.ListedEdges.{within_lines}
use Rattle.line_rules.proofs.marks.serving.start_of.Goals as goal

pub returns-in_default : goal.returns-in_default
returns-in_default c =
    absent c.args.lines.now c.requires.apart c.args.probe.now.over c.args.probe.now.under (rw c.requires.table at c.in_default.ensures.found)

pub bounds-lines-place : goal.bounds-lines-place
bounds-lines-place c =
    within_lines c.args.lines.now c.in-Some.place (edge_of c.args.probe.now.over c.args.probe.now.under) (rw c.requires.table at c.in-Some.ensures.found)

pub offset_bounds-lines-place : goal.offset_bounds-lines-place
offset_bounds-lines-place c =
    let within = within_lines c.args.lines.now c.in-Some.place (edge_of c.args.probe.now.over c.args.probe.now.under) (rw c.requires.table at c.in-Some.ensures.found) in
    omega (arith, within, c.requires.few)

pub returns-then-not-flips_to : goal.returns-then-not-flips_to
returns-then-not-flips_to c =
    let at = rw c.requires.table at c.in-Some.ensures.found in
    let within = within_lines c.args.lines.now c.in-Some.place (edge_of c.args.probe.now.over c.args.probe.now.under) at in
    otherwise c.args.lines.now c.requires.apart c.in-Some.place _ c.args.probe.now.over c.args.probe.now.under at (slice_get-get_or c.args.lines.now c.in-Some.place _ within)
    (λ e. both_ways c.flips_to.result c.if-not-flips_to.true (c.flips_to.ensures.1 e))

pub returns : goal.returns
returns c =
    let at = rw c.requires.table at c.in-Some.ensures.found in
    let within = within_lines c.args.lines.now c.in-Some.place (edge_of c.args.probe.now.over c.args.probe.now.under) at in
    let flips = flips_of c.args.lines.now c.in-Some.place c.args.probe.now.over c.args.probe.now.under _ (slice_get-get_or c.args.lines.now c.in-Some.place _ within)
    (c.flips_to.ensures.0 c.if-not-flips_to.false) in
    indexed (λ k. FlipsTo (flipped_orders c.args.lines.now) k c.args.probe.now.over c.args.probe.now.under) _ c.in-Some.place c.from_place.result c.from_place.ensures.none
    c.from_place.ensures.some (omega (arith, within, c.requires.few)) flips
