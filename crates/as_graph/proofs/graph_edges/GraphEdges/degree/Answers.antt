use Rattle.std.proofs.Common.{◌∙◌, count_by, refl, ap, sym, arith}
use Rattle.as_graph.specs.Inside.{is_incident}
use Rattle.as_graph.proofs.EdgeLemmas.{counted_there, count_read}
use Rattle.as_graph.proofs.graph_edges.GraphEdges.degree.Goals as goal

pub index-requires : goal.index-requires
index-requires c =
    let within = counted_there c.self.inside.table c.self.inside.ases c.self.inside.counts.items c.in-Some.place _ c.self.invariant.degrees c.in-Some.ensures in
    omega (arith, within)

pub returns-in-Some : goal.returns-in-Some
returns-in-Some c =
    count_read c.self.inside.table c.args.self.now c.self.inside.ases c.self.inside.counts.items c.in-Some.place c.args.end c.in-Some.place c.index.result.now
    c.self.invariant.degrees c.in-Some.ensures refl c.index.ensures c.self.view_is

pub returns-in-None : goal.returns-in-None
returns-in-None c = sym (c.self.invariant.degrees.other c.args.end c.in-None.ensures) ∙ ap (count_by (is_incident c.args.end)) c.self.view_is
