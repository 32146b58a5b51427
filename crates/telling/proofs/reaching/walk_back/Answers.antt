use Rattle.std.proofs.Common.{◌≡◌, ◌+◌, ◌-◌, length, sym, subst, arith}
use Rattle.telling.specs.Reaching.{IsBack}
use Rattle.telling.proofs.ReachLemmas.{back_begun}
use Rattle.telling.proofs.reaching.walk_back.Goals as goal

pub loop-at-init : goal.loop-at-init
loop-at-init c =
    let (u, v, way, has) = c.requires.way in
    let file = c.args.file.now in
    let es = c.args.all.now.edges in
    let nodes = c.args.way.now.nodes in
    let walk = c.in_ok-walk.walk in
    let e = c.len-at.ensures in (
      omega (arith, e),
      subst (λ n. IsBack file es nodes c.args.probe.now.over c.args.probe.now.under n walk) (sym e)
          (back_begun file es nodes c.args.probe.now.over c.args.probe.now.under (length c.args.way.now.arcs) v walk way.one_more way.last has c.in_ok-walk.ensures.ases c.in_ok-walk.ensures.links),
    )

pub step_back-requires-clause-way : goal.step_back-requires-clause-way
step_back-requires-clause-way c = let (u, v, way, has) = c.requires.way in (u, v, way)

pub loop-at-preserved : goal.loop-at-preserved
loop-at-preserved c =
    let at = c.loop-at.at in
    let over = c.args.probe.now.over in
    let under = c.args.probe.now.under in
    let (le, back) = c.loop-at.invariant in
    let e : at ≡ at - 1 + 1 = omega (arith, c.loop-at-test.true) in (
      omega (arith, le),
      c.in-Ok.ensures over under (subst (λ n. IsBack c.args.file.now c.args.all.now.edges c.args.way.now.nodes over under n c.loop-at.walk) e back),
    )
