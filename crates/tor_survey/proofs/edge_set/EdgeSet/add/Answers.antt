use Rattle.std.proofs.Common.{◌∙◌, ap, not}
use Rattle.std.specs.List.{list_any}
use Rattle.relationships.specs.Graph.{edge_of, is_same}
use Rattle.tor_numbers.specs.Edges.{with_edge}
use Rattle.tor_survey.proofs.Additions.{edge_inserted}
use Rattle.tor_survey.proofs.edge_set.EdgeSet.add.Goals as goal

pub returns-then-is_new-clause-added : goal.returns-then-is_new-clause-added
returns-then-is_new-clause-added c =
    (edge_inserted c.self.inside.numbers c.insert.new.self c.args.a c.args.b c.min.result c.max.result c.number_of_edge.result c.in_ok-is_new.is_new
    c.min.ensures c.max.ensures c.number_of_edge.ensures.least c.number_of_edge.ensures.edge c.self.invariant.0 c.in_ok-is_new.ensures.ok).0 ∙
    ap (λ es. with_edge es (edge_of c.args.a c.args.b)) c.self.view_is

pub returns-then-is_new-clause-answer : goal.returns-then-is_new-clause-answer
returns-then-is_new-clause-answer c =
    (edge_inserted c.self.inside.numbers c.insert.new.self c.args.a c.args.b c.min.result c.max.result c.number_of_edge.result c.in_ok-is_new.is_new
    c.min.ensures c.max.ensures c.number_of_edge.ensures.least c.number_of_edge.ensures.edge c.self.invariant.0 c.in_ok-is_new.ensures.ok).1 ∙
    ap (λ es. not (list_any (is_same (edge_of c.args.a c.args.b)) es)) c.self.view_is

pub returns-else-is_new-clause-added : goal.returns-else-is_new-clause-added
returns-else-is_new-clause-added c =
    (edge_inserted c.self.inside.numbers c.insert.new.self c.args.a c.args.b c.min.result c.max.result c.number_of_edge.result c.in_ok-is_new.is_new
    c.min.ensures c.max.ensures c.number_of_edge.ensures.least c.number_of_edge.ensures.edge c.self.invariant.0 c.in_ok-is_new.ensures.ok).0 ∙
    ap (λ es. with_edge es (edge_of c.args.a c.args.b)) c.self.view_is

pub returns-else-is_new-clause-answer : goal.returns-else-is_new-clause-answer
returns-else-is_new-clause-answer c =
    (edge_inserted c.self.inside.numbers c.insert.new.self c.args.a c.args.b c.min.result c.max.result c.number_of_edge.result c.in_ok-is_new.is_new
    c.min.ensures c.max.ensures c.number_of_edge.ensures.least c.number_of_edge.ensures.edge c.self.invariant.0 c.in_ok-is_new.ensures.ok).1 ∙
    ap (λ es. not (list_any (is_same (edge_of c.args.a c.args.b)) es)) c.self.view_is
