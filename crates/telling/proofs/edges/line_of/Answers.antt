use Rattle.std.proofs.Common.{length, ap, arith}
use Rattle.std.proofs.lemmas.Option.{slice_get_within}
use Rattle.tor_arena.proofs.Gets.{has-from_Contains, slice_get-unmap}
use Rattle.relationships.specs.Graph.{Edge, edge_of}
use Rattle.result_rules.specs.File.{its_edges}
use Rattle.telling.specs.Told.{edge_on}
use Rattle.telling.proofs.edges.line_of.Goals as goal

pub returns : goal.returns
returns c there =
    let lines = c.args.file.now.edges in
    let e = edge_of c.args.one c.args.other in
    let k = has-from_Contains (its_edges c.args.file.now) e there in
    let w = slice_get-unmap {Y = Edge} edge_on lines k.0 e k.1 in
    let lt = slice_get_within lines k.0 w.0 w.1 in
    c.loop-line.invariant k.0 w.0 (omega (arith, lt, c.loop-line-test.false, ap length c.as_slice-line-items.ensures, c.loop-line.auto.line-index-end)) w.1 w.2
