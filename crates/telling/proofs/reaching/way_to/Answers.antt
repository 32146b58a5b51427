use Rattle.std.proofs.Common.{[], subst}
use Rattle.std.specs.Prelude.{IfSome}
use Rattle.tor_digraph.specs.Reached.{LeadsFromNear}
use Rattle.telling.specs.Reaching.{IsPlainWay}
use Rattle.telling.proofs.ReachLemmas.{none_is}
use Rattle.telling.proofs.WayLemmas.{way_once}
use Rattle.telling.proofs.reaching.way_to.Goals as goal

pub unreachable-requires : goal.unreachable-requires
unreachable-requires c = c.in_ok-way.ensures.none.0 (none_is c.in_ok-way.field-0 c.in-None.is) c.requires

pub returns : goal.returns
returns c net begin is =
    let way = c.in-Some.way in
    let leads = subst (λ o. IfSome o (LeadsFromNear (λ n. n) (λ a. a) c.args.reached.now c.args.edge)) c.in-Some.is c.in_ok-way.ensures.near in
    let l = leads net.nodes net.arcs [] is.flooded in
    (subst (λ v. IsPlainWay net.arcs v c.args.edge way.nodes way.arcs) (is.root l.0 l.1) l.2, way_once net c.args.reached.now is.flooded c.args.edge way leads)
