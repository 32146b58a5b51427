use Rattle.std.proofs.Common.{◌≤◌, length, subst, arith}
use Rattle.tor_digraph.specs.Closing.{IsOnce}
use Rattle.tor_digraph.proofs.Searches.{kept-few}
use Rattle.tor_digraph.proofs.reached.Reached.into_nodes.Goals as goal

pub prove-unreachable-requires : goal.prove-unreachable-requires
prove-unreachable-requires g c =
    let few : length c.self.inside.nodes ≤ length c.self.inside.found.items = kept-few g.N.Index.place_of g.met.N.Index.is_one c.self.inside.found.items c.self.inside.nodes c.self.invariant in
    omega arith

pub returns-clause-once : goal.returns-clause-once
returns-clause-once g c = subst (λ v. IsOnce v.nodes) c.self.view_is c.self.invariant.once
