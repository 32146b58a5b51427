use Rattle.std.proofs.Common.{◌<◌, length, subst, sym, arith}
use Rattle.tor_arena.proofs.Gets.{slice_get-some}
use Rattle.tor_digraph.specs.Walks.{IsArc}
use Rattle.tor_digraph.specs.Links.{IsLatest}
use Rattle.tor_digraph.proofs.Chains.{latest-below, latest-by_index}
use Rattle.tor_digraph.proofs.digraph.Digraph.next_arc.Goals as goal

pub arc-requires : goal.arc-requires
arc-requires g c =
    let arcs = c.self.inside.ends.items in
    let place = g.A.Index.place_of c.args.arc in
    let there : place < length arcs = subst (λ net. place < length net.arcs) (sym c.self.view_is) c.requires in
    let arc = slice_get-some arcs place there in
    let few = c.self.invariant.0 in
    latest-below arcs arc.0.0 place g.A.Index.LIMIT c.get-next.result.now (omega (arith, there, few))
    (c.self.invariant.1.before place arc.0.0 arc.0.1 c.get-next.result.now arc.1 c.get-next.ensures)

pub returns : goal.returns
returns g c = λ u v is.
    let place = g.A.Index.place_of c.args.arc in
    subst (λ net. IsLatest g.A.Index.place_of net.arcs u place c.arc.result) c.self.view_is
    (latest-by_index g.A.Index.place_of c.self.inside.ends.items u place c.get-next.result.now c.arc.result c.arc.ensures
    (c.self.invariant.1.before place u v c.get-next.result.now (subst (λ net. IsArc net.arcs place u v) (sym c.self.view_is) is) c.get-next.ensures))
