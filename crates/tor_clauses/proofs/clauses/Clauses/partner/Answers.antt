use Rattle.std.proofs.Common.{rules, ℕ, ◌≡◌, ◌*◌, ◌<◌, flat_map, length, sym, ap, ◌∙◌, subst, arith}
use Rattle.tor_digraph.specs.Walks.{Net}
use Rattle.tor_clauses.specs.Triples.{arcs_of}
use Rattle.tor_clauses.specs.Formulas.{Formula}
use Rattle.tor_clauses.proofs.Arcs.{length-arcs, partner_even, partner_odd}
use Rattle.tor_clauses.proofs.clauses.Clauses.partner.Goals as goal
use Rattle.tor_clauses.proofs.clauses.Clauses.partner.Goals.{then-place-eq0, else-place-eq0}

pub prove-unreachable-requires : goal.prove-unreachable-requires
prove-unreachable-requires c =
    let many : length c.self.inside.table.net.arcs ≡ length c.self.inside.table.triples * 2 = ap length c.self.invariant ∙ length-arcs c.self.inside.table.triples in
    let below : c.args.arc < length c.self.inside.table.net.arcs = subst (λ (f : Formula). c.args.arc < length f.net.arcs) (sym c.self.view_is) c.requires in
    let same : length c.digraph.result.now.arcs ≡ length c.self.inside.table.net.arcs = ap (λ (n : Net ℕ). length n.arcs) c.digraph.ensures in
    elim c.if-place-eq0.branch [
      | then-place-eq0 w ↦ omega (arith, many, below, same)
      | else-place-eq0 w ↦ omega (arith, many, below, same)
    ]

pub returns-clause-partner : goal.returns-clause-partner
returns-clause-partner c = λ l m arc.
    let triples = c.args.self.now.triples in
    let arcs = c.args.self.now.net.arcs in
    let are : arcs ≡ flat_map arcs_of triples = subst (λ (f : Formula). f.net.arcs ≡ flat_map arcs_of f.triples) c.self.view_is c.self.invariant in
    let same : c.unwrap.result ≡ c.if-place-eq0.other = search rules in
    elim c.if-place-eq0.branch [
      | then-place-eq0 w ↦ partner_even triples arcs c.args.arc c.unwrap.result l m are (omega arith) (omega (arith, same)) arc
      | else-place-eq0 w ↦ partner_odd triples arcs c.args.arc c.unwrap.result l m are (omega arith) (omega (arith, same)) arc
    ]
