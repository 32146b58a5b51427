use Rattle.std.proofs.Common.{length}
use Rattle.tor_digraph.proofs.Leavings.{on-latest, on-exact_Contains, on-once, latest-can}
use Rattle.tor_digraph.proofs.digraph.Digraph.arcs_from.Goals as goal

pub returns-clause-arcs : goal.returns-clause-arcs
returns-clause-arcs g c = on-latest g.N.Index.place_of g.met.N.Index.is_one g.A.Index.place_of c.args.self.now.arcs c.args.node (length c.args.self.now.arcs)
    c.first_arc.result c.first_arc.ensures

pub returns-clause-exact : goal.returns-clause-exact
returns-clause-exact g c = on-exact_Contains g.N.Index.place_of g.met.N.Index.is_one g.A.Index.place_of c.args.self.now.arcs c.args.node
    c.first_arc.result c.first_arc.ensures

pub returns-clause-once : goal.returns-clause-once
returns-clause-once g c = on-once g.N.Index.place_of g.met.N.Index.is_one g.A.Index.place_of c.args.self.now.arcs c.args.node c.first_arc.result c.first_arc.ensures

pub returns-clause-can : goal.returns-clause-can
returns-clause-can g c = latest-can g.N.Index.place_of g.met.N.Index.is_one g.A.Index.place_of c.args.self.now.arcs c.args.node (length c.args.self.now.arcs)
    c.first_arc.result c.first_arc.ensures
