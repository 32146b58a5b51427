use Rattle.std.proofs.Common.{◌≤◌, ◌*◌, ◌↔◌, max, min, IsTrue, subst, arith}
use Rattle.relationships.specs.Graph.{degree}
use Rattle.peering.specs.Peerings.{edge_in}
use Rattle.peering.proofs.Reading.{degree_small}
use Rattle.peering.proofs.alike.is_alike.Goals as goal

pub is_within-requires-clause-first : goal.is_within-requires-clause-first
is_within-requires-clause-first c =
    let small = degree_small c.args.graph.now (edge_in c.args.graph.now c.args.edge).0 c.facts.ensures.edges in
    let is = c.end_degrees-ends.ensures.low in
    omega (arith, small, is)

pub is_within-requires-clause-second : goal.is_within-requires-clause-second
is_within-requires-clause-second c =
    let small = degree_small c.args.graph.now (edge_in c.args.graph.now c.args.edge).1 c.facts.ensures.edges in
    let is = c.end_degrees-ends.ensures.high in
    omega (arith, small, is)

pub returns : goal.returns
returns c =
    let paths = c.args.graph.now in
    let ratio = c.args.ratio in
    let r = c.is_within.result in
    let e = edge_in paths c.args.edge in
    let high = c.end_degrees-ends.result.high in
    let one : IsTrue r ↔ (max (degree paths e.0) high ≤ ratio * min (degree paths e.0) high) =
    subst (λ m. IsTrue r ↔ (max m high ≤ ratio * min m high)) c.end_degrees-ends.ensures.low c.is_within.ensures in
    subst (λ m. IsTrue r ↔ (max (degree paths e.0) m ≤ ratio * min (degree paths e.0) m)) c.end_degrees-ends.ensures.high one
