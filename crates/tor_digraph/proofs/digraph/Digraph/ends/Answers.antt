use Rattle.std.proofs.Common.{◌≡◌, ◌<◌, Some, subst}
use Rattle.std.specs.Prelude.{slice_get}
use Rattle.tor_digraph.proofs.digraph.Digraph.ends.Goals as goal

pub returns-clause-arc : goal.returns-clause-arc
returns-clause-arc g c = subst (λ v. slice_get v.arcs (g.A.Index.place_of c.args.arc) ≡ Some c.get.result.now) c.self.view_is c.get.ensures

pub returns-clause-tail : goal.returns-clause-tail
returns-clause-tail g c = subst (λ v. g.N.Index.place_of c.get.result.now.0 < v.nodes) c.self.view_is
    (c.self.invariant.1.tails (g.A.Index.place_of c.args.arc) c.get.result.now.0 c.get.result.now.1 c.get.ensures)

pub returns-clause-head : goal.returns-clause-head
returns-clause-head g c = subst (λ v. g.N.Index.place_of c.get.result.now.1 < v.nodes) c.self.view_is
    (c.self.invariant.1.heads (g.A.Index.place_of c.args.arc) c.get.result.now.0 c.get.result.now.1 c.get.ensures)
