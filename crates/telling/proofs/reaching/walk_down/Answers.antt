use Rattle.std.proofs.Common.{◌≡◌, Some, slice_get, sym, subst, arith}
use Rattle.std.proofs.lemmas.Option.{slice_get_within}
use Rattle.relationships.specs.Graph.{edge_of}
use Rattle.telling.proofs.DownLemmas.{line_held}
use Rattle.telling.proofs.reaching.walk_down.Goals as goal

pub unreachable-requires : goal.unreachable-requires
unreachable-requires c =
    let line = c.args.line.now in
    c.in_default.ensures.found (line_held c.args.file.now c.requires.accepted c.args.all.now.edges c.args.all.now.labels.items c.requires.labels line c.requires.there c.requires.is_open)

pub edge_id-start-requires : goal.edge_id-start-requires
edge_id-start-requires c =
    let line = c.args.line.now in
    let lt = slice_get_within c.args.all.now.edges c.in-Some.place (edge_of line.low line.high) c.in-Some.ensures.found in
    omega (arith, lt, c.requires.downs.nodes)

pub walk_reached-found-requires-clause-start : goal.walk_reached-found-requires-clause-start
walk_reached-found-requires-clause-start c =
    let line = c.args.line.now in
    subst (λ n. slice_get c.args.all.now.edges n ≡ Some (edge_of line.low line.high)) (sym c.edge_id-start.ensures) c.in-Some.ensures.found
