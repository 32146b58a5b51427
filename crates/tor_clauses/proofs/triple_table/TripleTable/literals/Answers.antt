use Rattle.std.proofs.Common.{rules, ◌≡◌, ◌*◌, ◌<◌, length, Some, sym, ◌∙◌, subst}
use Rattle.std.specs.Prelude.{slice_get}
use Rattle.tor_clauses.specs.Tables.{Implications}
use Rattle.tor_clauses.proofs.PlacedTriples.{arc_within, literals_read}
use Rattle.tor_clauses.proofs.triple_table.TripleTable.literals.Goals as goal

pub ends-tail-requires : goal.ends-tail-requires
ends-tail-requires c =
    let same : c.unwrap-arc.result ≡ c.args.place * 2 = search rules in
    subst (λ k. k < length c.self.inside.digraph.arcs) (sym same)
    (arc_within c.self.invariant.known c.self.inside.places.items c.self.inside.digraph.arcs c.self.invariant.standing c.args.place
    (subst (λ (i : Implications). c.args.place < length i.triples) (sym c.self.view_is) c.requires))

pub returns : goal.returns
returns c = λ t there.
    let same : c.unwrap-arc.result ≡ c.args.place * 2 = search rules in
    let read = literals_read c.self.invariant.known c.self.inside.places.items c.self.inside.digraph.arcs c.self.invariant.standing c.args.place t
    (subst (λ (i : Implications). slice_get i.triples c.args.place ≡ Some t) (sym c.self.view_is) there) c.ends-tail.result
    (subst (λ k. slice_get c.self.inside.digraph.arcs k ≡ Some c.ends-tail.result) same c.ends-tail.ensures.arc) in
    (c.of_node.ensures.literal ∙ read.0, c.of_node-2.ensures.literal ∙ read.1)
