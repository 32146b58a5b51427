use Rattle.std.proofs.Common.{◌≡◌, ◌*◌, ◌≤◌, ℕ, length, take, sym, ap, ap₂, ◌∙◌, subst, arith}
use Rattle.tor_digraph.specs.Walks.{Net}
use Rattle.tor_clauses.specs.Tables.{Implications, AreStanding, triples_at}
use Rattle.tor_clauses.proofs.Cuts.{inside_first}
use Rattle.tor_clauses.proofs.PlacedTriples.{triples_at-length, triples_at-take, standing-cut}
use Rattle.tor_clauses.proofs.triple_table.TripleTable.cut_to.Goals as goal

pub prove-unreachable-requires-2 : goal.prove-unreachable-requires-2
prove-unreachable-requires-2 c =
    let le = subst (λ (i : Implications). c.args.count ≤ length i.triples) (sym c.self.view_is) c.requires in
    let many = c.self.invariant.standing.many in
    let long = triples_at-length c.self.inside.places.items c.self.inside.digraph.arcs many in
    omega (arith, le, many, long)

pub undo_to-requires-clause-inside : goal.undo_to-requires-clause-inside
undo_to-requires-clause-inside c =
    inside_first _ c.self.inside.digraph c.node_count-nodes.result _ c.node_count-nodes.ensures.nodes c.node_count-nodes.ensures.inside

pub invariant_of-self : goal.invariant_of-self
invariant_of-self c =
    let known = c.self.invariant.known in
    let ps = c.self.inside.places.items in
    let le = subst (λ (i : Implications). c.args.count ≤ length i.triples) (sym c.self.view_is) c.requires in
    let long = triples_at-length ps c.self.inside.digraph.arcs c.self.invariant.standing.many in
    let arcs : c.undo_to.new.self.arcs ≡ take (c.args.count * 2) c.self.inside.digraph.arcs = ap (λ (n : Net ℕ). n.arcs) c.undo_to.ensures in
    record {
      known = take c.args.count known;
      standing = subst (λ ps'. AreStanding (take c.args.count known) ps' c.undo_to.new.self.arcs) (sym c.cut_to.ensures.items)
          (subst (λ es. AreStanding (take c.args.count known) (take c.args.count ps) es) (sym arcs)
          (standing-cut c.args.count known ps c.self.inside.digraph.arcs c.self.invariant.standing (omega (arith, le, long))));
      has = c.cut_numbers.ensures known c.self.invariant.has;
    }

pub returns-clause-triples : goal.returns-clause-triples
returns-clause-triples c =
    let arcs : c.undo_to.new.self.arcs ≡ take (c.args.count * 2) c.self.inside.digraph.arcs = ap (λ (n : Net ℕ). n.arcs) c.undo_to.ensures in
    ap₂ triples_at c.cut_to.ensures.items arcs ∙ triples_at-take c.args.count c.self.inside.places.items c.self.inside.digraph.arcs ∙
    ap (λ (i : Implications). take c.args.count i.triples) c.self.view_is
