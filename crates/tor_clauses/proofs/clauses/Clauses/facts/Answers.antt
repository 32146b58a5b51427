use Rattle.std.proofs.Common.{◌≡◌, flat_map, subst, sym}
use Rattle.tor_digraph.specs.Walks.{HasArc}
use Rattle.tor_clauses.specs.Literals.{opposite_node}
use Rattle.tor_clauses.specs.Triples.{arcs_of}
use Rattle.tor_clauses.specs.Formulas.{Formula}
use Rattle.tor_clauses.proofs.Arcs.{partners}
use Rattle.tor_clauses.proofs.clauses.Clauses.facts.Goals as goal

pub returns-clause-partners : goal.returns-clause-partners
returns-clause-partners c =
    let arcs : c.args.self.now.net.arcs ≡ flat_map arcs_of c.args.self.now.triples = subst (λ (f : Formula). f.net.arcs ≡ flat_map arcs_of f.triples) c.self.view_is c.self.invariant in
    λ l m h. subst (λ as'. HasArc as' (opposite_node m) (opposite_node l)) (sym arcs) (partners c.args.self.now.triples l m (subst (λ as'. HasArc as' l m) arcs h))
