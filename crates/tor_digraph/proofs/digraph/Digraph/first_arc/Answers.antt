use Rattle.std.proofs.Common.{length, subst}
use Rattle.tor_digraph.specs.Links.{IsLatest}
use Rattle.tor_digraph.proofs.Chains.{latest-below, latest-by_index}
use Rattle.tor_digraph.proofs.digraph.Digraph.first_arc.Goals as goal

pub arc-requires : goal.arc-requires
arc-requires g c =
    let arcs = c.self.inside.ends.items in
    latest-below arcs c.args.node (length arcs) g.A.Index.LIMIT c.get-first.result.now c.self.invariant.0
    (c.self.invariant.1.latest c.args.node c.get-first.result.now c.get-first.ensures)

pub returns : goal.returns
returns g c =
    let arcs = c.self.inside.ends.items in
    subst (λ net. IsLatest g.A.Index.place_of net.arcs c.args.node (length net.arcs) c.arc.result) c.self.view_is
    (latest-by_index g.A.Index.place_of arcs c.args.node (length arcs) c.get-first.result.now c.arc.result c.arc.ensures
    (c.self.invariant.1.latest c.args.node c.get-first.result.now c.get-first.ensures))
