use Rattle.std.proofs.Common.{ℕ, ap}
use Rattle.tor_digraph.specs.Walks.{Net}
use Rattle.tor_clauses.proofs.Cuts.{arcs_cut}
use Rattle.tor_clauses.proofs.clauses.Clauses.cut_to.Goals as goal

pub invariant_of-self : goal.invariant_of-self
invariant_of-self c =
    arcs_cut c.args.mark.triples c.self.inside.table.triples c.cut_to.new.self.triples c.self.inside.table.net.arcs c.cut_to.new.self.net.arcs c.self.invariant
    (ap (λ (n : Net ℕ). n.arcs) c.cut_to.ensures.net) c.cut_to.ensures.triples
