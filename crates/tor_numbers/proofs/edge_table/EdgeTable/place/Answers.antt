use Rattle.std.proofs.Common.{◌≡◌, ◌∙◌, ◌<◌, ◌↔◌, ℕ, Some, MatchOption, IsTrue, Contains, length, subst}
use Rattle.std.specs.Prelude.{slice_get, IsNone, IsFalse}
use Rattle.std.specs.List.{list_any}
use Rattle.relationships.specs.Graph.{edge_of, is_same}
use Rattle.tor_numbers.specs.Edges.{edge_at, edges_numbered}
use Rattle.tor_numbers.proofs.EdgeLists.{edge_found, edge_only, edge_absent, in_order}
use Rattle.tor_numbers.proofs.edge_table.EdgeTable.place.Goals as goal

pub returns-clause-found : goal.returns-clause-found
returns-clause-found c =
    let n = c.number_of_edge.result in
    let e = edge_of c.args.a c.args.b in
    let is = c.number_of_edge.ensures.edge ∙ in_order c.args.a c.args.b c.min.ensures c.max.ensures in
    subst (λ es. MatchOption c.place.result (Contains es e → ⊥) (λ k. slice_get es k ≡ Some e)) c.self.view_is
    (edge_found c.self.inside.numbers n e c.place.result c.self.invariant.1 c.number_of_edge.ensures.least is c.place.ensures)

pub returns-clause-only : goal.returns-clause-only
returns-clause-only c =
    let n = c.number_of_edge.result in
    let e = edge_of c.args.a c.args.b in
    let is = c.number_of_edge.ensures.edge ∙ in_order c.args.a c.args.b c.min.ensures c.max.ensures in
    subst (λ es. (k : ℕ) → k < length es → IsTrue (is_same e (edge_at es k)) ↔ (c.place.result ≡ Some k)) c.self.view_is
    (edge_only (edges_numbered c.self.inside.numbers) e c.place.result c.self.invariant.0
    (edge_found c.self.inside.numbers n e c.place.result c.self.invariant.1 c.number_of_edge.ensures.least is c.place.ensures))

pub returns-clause-none : goal.returns-clause-none
returns-clause-none c =
    let n = c.number_of_edge.result in
    let e = edge_of c.args.a c.args.b in
    let is = c.number_of_edge.ensures.edge ∙ in_order c.args.a c.args.b c.min.ensures c.max.ensures in
    subst (λ es. IsNone c.place.result ↔ IsFalse (list_any (is_same e) es)) c.self.view_is
    (edge_absent (edges_numbered c.self.inside.numbers) e c.place.result
    (edge_found c.self.inside.numbers n e c.place.result c.self.invariant.1 c.number_of_edge.ensures.least is c.place.ensures))
