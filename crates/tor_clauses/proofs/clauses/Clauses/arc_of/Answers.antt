use Rattle.std.proofs.Common.{rules, ◌≡◌, ◌*◌, flat_map, length, ap, ◌∙◌, subst, arith}
use Rattle.tor_clauses.specs.Triples.{arcs_of}
use Rattle.tor_clauses.specs.Formulas.{Formula}
use Rattle.tor_clauses.proofs.Arcs.{length-arcs}
use Rattle.tor_clauses.proofs.clauses.Clauses.arc_of.Goals as goal

pub returns-clause-there : goal.returns-clause-there
returns-clause-there c =
    let arcs = subst (λ (f : Formula). f.net.arcs ≡ flat_map arcs_of f.triples) c.self.view_is c.self.invariant in
    let many : length c.args.self.now.net.arcs ≡ length c.args.self.now.triples * 2 = ap length arcs ∙ length-arcs c.args.self.now.triples in
    let same : c.unwrap.result ≡ c.args.triple * 2 = search rules in
    omega (arith, many, same, c.requires)
