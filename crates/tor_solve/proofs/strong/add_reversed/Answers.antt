use Rattle.std.proofs.Common.{◌≡◌, length, subst, arith}
use Rattle.std.specs.Prelude.{IfSome}
use Rattle.tor_solve.proofs.Orders.{reversed-more, reversed-done}
use Rattle.tor_solve.proofs.strong.add_reversed.Goals as goal

pub loop-place-preserved : goal.loop-place-preserved
loop-place-preserved g c =
    let at : g.A.Index.place_of c.unwrap-arc.result ≡ c.loop-place.place = subst (λ o. IfSome o (λ i. g.A.Index.place_of i ≡ c.loop-place.place)) c.unwrap-arc.ensures c.from_place.ensures.some in
    reversed-more c.args.graph.now c.loop-place.other c.add_arc.new.self c.loop-place.place c.ends-tail.result.0 c.ends-tail.result.1 c.loop-place.invariant c.in-Ok-add_arc.ensures.added
    (g.A.Index.place_of c.unwrap-arc.result) at c.ends-tail.ensures.arc

pub returns : goal.returns
returns g c = reversed-done c.args.graph.now c.loop-place.other c.loop-place.other c.loop-place.place
    (let e : c.arc_count-place-end.result ≡ length c.args.graph.now.arcs = c.arc_count-place-end.ensures.arcs in omega arith) c.loop-place.invariant
