use Rattle.std.proofs.Common.{◌≤◌, length, arith}
use Rattle.tor_digraph.proofs.Searches.{kept-few}
use Rattle.tor_digraph.proofs.reached.Reached.nodes.Goals as goal

pub prove-unreachable-requires : goal.prove-unreachable-requires
prove-unreachable-requires g c =
    let few : length c.self.inside.nodes ≤ length c.self.inside.found.items = kept-few g.N.Index.place_of g.met.N.Index.is_one c.self.inside.found.items c.self.inside.nodes c.self.invariant in
    omega arith
