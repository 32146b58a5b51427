use Rattle.std.proofs.Common.{◌≡◌, drop}
use Rattle.relationships.specs.Graph.{edges_from}
use Rattle.tor_numbers.specs.Edges.{with_edges}
use Rattle.tor_survey.specs.Sets.{with_ases, IsKnown, HaveEnds}
use Rattle.tor_survey.proofs.counting.add_others.Given as goal

abbrev pub invariant-loop-to : goal.invariant-loop-to
invariant-loop-to l =
    (with_ases l.ases (drop l.to-index l.others) ≡ with_ases l.fn.ases l.others)
    × (with_edges l.edges (edges_from l.from (drop l.to-index l.others)) ≡ with_edges l.fn.edges (edges_from l.fn.first l.others))
    × HaveEnds l.ases l.edges × IsKnown l.ases l.from
