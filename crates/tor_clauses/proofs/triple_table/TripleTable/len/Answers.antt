use Rattle.std.proofs.Common.{length, sym, ap, ◌∙◌}
use Rattle.tor_clauses.specs.Tables.{Implications}
use Rattle.tor_clauses.proofs.PlacedTriples.{triples_at-length}
use Rattle.tor_clauses.proofs.triple_table.TripleTable.len.Goals as goal

pub returns-clause-len : goal.returns-clause-len
returns-clause-len c =
    c.len.ensures.length ∙ sym (triples_at-length c.self.inside.places.items c.self.inside.digraph.arcs c.self.invariant.standing.many) ∙ ap (λ (i : Implications). length i.triples) c.self.view_is
