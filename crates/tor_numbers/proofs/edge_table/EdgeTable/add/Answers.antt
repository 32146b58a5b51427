use Rattle.std.proofs.Common.{◌∙◌, ap, not}
use Rattle.std.specs.List.{list_any}
use Rattle.relationships.specs.Graph.{edge_of, is_same}
use Rattle.tor_numbers.specs.Edges.{with_edge}
use Rattle.tor_numbers.proofs.EdgeNumbers.{edge_got, numbers_put}
use Rattle.tor_numbers.proofs.EdgeLists.{edges_put, distinct_put, put_is_new, in_order}
use Rattle.tor_numbers.proofs.edge_table.EdgeTable.add.Goals as goal

pub invariant_of-self-2 : goal.invariant_of-self-2
invariant_of-self-2 c =
    let n = c.number_of_edge.result in
    let old = c.self.inside.numbers in (
      distinct_put old c.add.new.self n c.self.invariant.1 c.number_of_edge.ensures.least c.in_ok-place.ensures.ok c.self.invariant.0,
      numbers_put old c.add.new.self n c.self.invariant.1 c.number_of_edge.ensures.is_number c.in_ok-place.ensures.ok,
    )

pub returns-clause-ok : goal.returns-clause-ok
returns-clause-ok c =
    let n = c.number_of_edge.result in
    let e = edge_of c.args.a c.args.b in
    let is = c.number_of_edge.ensures.edge ∙ in_order c.args.a c.args.b c.min.ensures c.max.ensures in
    edges_put c.self.inside.numbers c.add.new.self n e c.self.invariant.1 c.number_of_edge.ensures.least is c.in_ok-place.ensures.ok ∙
    ap (λ es. with_edge es e) c.self.view_is

pub returns-clause-place : goal.returns-clause-place
returns-clause-place c =
    let n = c.number_of_edge.result in
    let is = c.number_of_edge.ensures.edge ∙ in_order c.args.a c.args.b c.min.ensures c.max.ensures in
    edge_got c.add.new.self c.in_ok-place.place n (edge_of c.args.a c.args.b) is c.in_ok-place.ensures.place

pub returns-clause-is_new : goal.returns-clause-is_new
returns-clause-is_new c =
    let n = c.number_of_edge.result in
    let e = edge_of c.args.a c.args.b in
    let is = c.number_of_edge.ensures.edge ∙ in_order c.args.a c.args.b c.min.ensures c.max.ensures in
    put_is_new c.self.inside.numbers c.add.new.self c.in_ok-place.place c.len-count.result n e c.self.invariant.1 c.number_of_edge.ensures.least is
    c.len-count.ensures.length c.in_ok-place.ensures.ok c.in_ok-place.ensures.place ∙
    ap (λ es. not (list_any (is_same e) es)) c.self.view_is
