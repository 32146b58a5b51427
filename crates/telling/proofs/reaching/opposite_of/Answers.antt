use Rattle.std.proofs.Common.{arith}
use Rattle.std.proofs.lemmas.Option.{slice_get_within}
use Rattle.tor_arena.proofs.Gets.{Contains-from_has}
use Rattle.relationships.specs.Graph.{edge_of}
use Rattle.telling.proofs.reaching.opposite_of.Goals as goal

pub returns-in_default-clause-none : goal.returns-in_default-clause-none
returns-in_default-clause-none c u there has =
    c.in_default.ensures.found (Contains-from_has c.args.all.now.edges (edge_of c.args.probe.now.under c.args.probe.now.over) (u, has.at))

pub edge_id-edge-requires : goal.edge_id-edge-requires
edge_id-edge-requires c =
    let lt = slice_get_within c.args.all.now.edges c.in-Some.place (edge_of c.args.probe.now.under c.args.probe.now.over) c.in-Some.ensures.found in
    omega (arith, lt, c.requires.nodes)
