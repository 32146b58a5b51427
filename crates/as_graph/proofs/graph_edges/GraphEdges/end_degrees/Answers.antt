use Rattle.std.proofs.Common.{◌∙◌, length, count_by, ap, arith}
use Rattle.tor_numbers.specs.Edges.{edge_at}
use Rattle.as_graph.specs.Inside.{is_incident}
use Rattle.as_graph.proofs.EdgeLemmas.{counted_there, count_read, ends_there}
use Rattle.as_graph.proofs.graph_edges.GraphEdges.end_degrees.Goals as goal

pub index-requires : goal.index-requires
index-requires c =
    let n = ap length c.self.view_is in
    let there = c.requires in
    let at = ends_there c.self.inside.table c.self.inside.ases c.self.inside.counts.items c.self.inside.ends.items c.args.id c.place.result c.index-ends.result.now
    c.self.invariant (omega (arith, n, there)) c.place.ensures.place c.index-ends.ensures in
    let within = counted_there c.self.inside.table c.self.inside.ases c.self.inside.counts.items _ _ c.self.invariant.degrees at.0 in
    let low = c.place-2.ensures.place in
    omega (arith, low, within)

pub index-requires-2 : goal.index-requires-2
index-requires-2 c =
    let n = ap length c.self.view_is in
    let there = c.requires in
    let at = ends_there c.self.inside.table c.self.inside.ases c.self.inside.counts.items c.self.inside.ends.items c.args.id c.place.result c.index-ends.result.now
    c.self.invariant (omega (arith, n, there)) c.place.ensures.place c.index-ends.ensures in
    let within = counted_there c.self.inside.table c.self.inside.ases c.self.inside.counts.items _ _ c.self.invariant.degrees at.1 in
    let high = c.place-3.ensures.place in
    omega (arith, high, within)

pub returns-clause-low : goal.returns-clause-low
returns-clause-low c =
    let n = ap length c.self.view_is in
    let there = c.requires in
    let at = ends_there c.self.inside.table c.self.inside.ases c.self.inside.counts.items c.self.inside.ends.items c.args.id c.place.result c.index-ends.result.now
    c.self.invariant (omega (arith, n, there)) c.place.ensures.place c.index-ends.ensures in
    count_read c.self.inside.table c.args.self.now c.self.inside.ases c.self.inside.counts.items _ _ c.place-2.result c.index.result.now c.self.invariant.degrees at.0
    c.place-2.ensures.place c.index.ensures c.self.view_is ∙ ap (λ es. count_by (is_incident (edge_at es c.args.id).0) c.args.self.now) c.self.view_is

pub returns-clause-high : goal.returns-clause-high
returns-clause-high c =
    let n = ap length c.self.view_is in
    let there = c.requires in
    let at = ends_there c.self.inside.table c.self.inside.ases c.self.inside.counts.items c.self.inside.ends.items c.args.id c.place.result c.index-ends.result.now
    c.self.invariant (omega (arith, n, there)) c.place.ensures.place c.index-ends.ensures in
    count_read c.self.inside.table c.args.self.now c.self.inside.ases c.self.inside.counts.items _ _ c.place-3.result c.index-2.result.now c.self.invariant.degrees at.1
    c.place-3.ensures.place c.index-2.ensures c.self.view_is ∙ ap (λ es. count_by (is_incident (edge_at es c.args.id).1) c.args.self.now) c.self.view_is
