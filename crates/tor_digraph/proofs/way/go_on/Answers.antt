use Rattle.std.proofs.Common.{subst}
use Rattle.tor_digraph.specs.Walks.{IsWay}
use Rattle.tor_digraph.proofs.Ways.{back-pop, way-push_made}
use Rattle.tor_digraph.proofs.way.go_on.Goals as goal

pub loop-step-init : goal.loop-step-init
loop-step-init g c = λ arcs start from end back way. (from, way, back)

pub loop-step-preserved : goal.loop-step-preserved
loop-step-preserved g c = λ arcs start from end back way.
    let w = c.loop-step.invariant arcs start from end back way in
    let p = back-pop g.A.Index.place_of arcs w.0 end c.in-Some.step c.loop-step.steps c.pop.new.self c.in-Some.ensures w.2 in (
      c.in-Some.step.0,
      way-push_made g.A.Index.place_of arcs start w.0 c.in-Some.step.0 c.in-Some.step.1 c.loop-step.way.nodes _ c.loop-step.way.arcs _ w.1 p.0 c.in_ok-push.ensures.ok c.in_ok-push-2.ensures.ok,
      p.1,
    )

pub returns : goal.returns
returns g c = λ arcs start from end back way.
    let w = c.loop-step.invariant arcs start from end back way in
    subst (λ n. IsWay g.A.Index.place_of arcs start n c.loop-step.way.nodes c.loop-step.way.arcs) (w.2.done c.in_default.ensures.0) w.1
