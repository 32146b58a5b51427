use Rattle.std.proofs.Common.{◌≡◌, ◌*◌, flat_map, length, ap, ◌∙◌, subst, arith}
use Rattle.tor_clauses.specs.Triples.{arcs_of}
use Rattle.tor_clauses.specs.Formulas.{Formula}
use Rattle.tor_clauses.proofs.Arcs.{length-arcs}
use Rattle.tor_clauses.proofs.clauses.Clauses.arcs_before.Goals as goal

pub returns-clause-there : goal.returns-clause-there
returns-clause-there c =
    let arcs = subst (λ (f : Formula). f.net.arcs ≡ flat_map arcs_of f.triples) c.self.view_is c.self.invariant in
    let many : length c.args.self.now.net.arcs ≡ length c.args.self.now.triples * 2 = ap length arcs ∙ length-arcs c.args.self.now.triples in
    omega (arith, many, c.requires)

pub returns-clause-all : goal.returns-clause-all
returns-clause-all c all =
    let arcs = subst (λ (f : Formula). f.net.arcs ≡ flat_map arcs_of f.triples) c.self.view_is c.self.invariant in
    let many : length c.args.self.now.net.arcs ≡ length c.args.self.now.triples * 2 = ap length arcs ∙ length-arcs c.args.self.now.triples in
    omega (arith, many, all)
