use Rattle.std.proofs.Common.{◌≡◌, ◌+◌, ◌<◌, Some, length, set, sym, ap, subst, arith}
use Rattle.std.specs.Prelude.{slice_get, slice_index_or, IfSome}
use Rattle.std.proofs.lemmas.Option.{slice_get_within, slice_get-get_or}
use Rattle.tor_digraph.proofs.Filling.{AreCounted, counting-next, counting-few, summing-begins, summing-next, summing-few}
use Rattle.tor_digraph.proofs.Members.{some-if_not_none}
use Rattle.tor_digraph.proofs.rows.count_ends.Goals as goal

pub overflow_add-ends : goal.overflow_add-ends
overflow_add-ends g c =
    let arcs = c.args.graph.now.arcs in
    let ends = c.loop-place.ends in
    let place = c.loop-place.place in
    let tail = g.N.Index.place_of c.ends-tail.result.0 in
    let same : g.A.Index.place_of c.unwrap.result ≡ place = subst (λ o. IfSome o (λ i. g.A.Index.place_of i ≡ place)) c.unwrap.ensures c.from_place.ensures.some in
    let arc = subst (λ k. slice_get arcs k ≡ Some c.ends-tail.result) same c.ends-tail.ensures.arc in
    let many = c.loop-place.invariant.many in
    let below = c.ends-tail.ensures.tail in
    let few = counting-few g.N.Index.place_of arcs c.args.graph.now.nodes place ends c.ends-tail.result (slice_index_or ends tail 0) c.loop-place.invariant arc
    (slice_get-get_or ends tail 0 (omega (arith, many, below))) in
    let at : slice_index_or ends c.place.result 0 + 1 ≡ slice_index_or ends tail 0 + 1 = ap (λ p. slice_index_or ends p 0 + 1) c.place.ensures.place in
    let short = g.met.A.Index.is_short in
    let most = c.arc_count-place-end.ensures.below in
    record { fits = omega (arith, at, few, short, most) }

pub loop-place-preserved : goal.loop-place-preserved
loop-place-preserved g c =
    let arcs = c.args.graph.now.arcs in
    let ends = c.loop-place.ends in
    let place = c.loop-place.place in
    let tail = g.N.Index.place_of c.ends-tail.result.0 in
    let same : g.A.Index.place_of c.unwrap.result ≡ place = subst (λ o. IfSome o (λ i. g.A.Index.place_of i ≡ place)) c.unwrap.ensures c.from_place.ensures.some in
    let arc = subst (λ k. slice_get arcs k ≡ Some c.ends-tail.result) same c.ends-tail.ensures.arc in
    let many = c.loop-place.invariant.many in
    let below = c.ends-tail.ensures.tail in
    subst (λ p. AreCounted g.N.Index.place_of arcs c.args.graph.now.nodes (place + 1) (set ends p (slice_index_or ends p 0 + 1))) (sym c.place.ensures.place)
    (counting-next g.N.Index.place_of arcs c.args.graph.now.nodes place ends c.ends-tail.result (slice_index_or ends tail 0) c.loop-place.invariant arc
    (slice_get-get_or ends tail 0 (omega (arith, many, below))))

pub loop-place-2-init : goal.loop-place-2-init
loop-place-2-init g c =
    let test = c.loop-place-test.false in
    let all = c.arc_count-place-end.ensures.arcs in
    summing-begins g.N.Index.place_of c.args.graph.now.arcs c.args.graph.now.nodes c.loop-place.place c.loop-place.ends c.loop-place.invariant (omega (arith, test, all))

pub overflow_add-sum : goal.overflow_add-sum
overflow_add-sum g c =
    let ends = c.loop-place-2.ends in
    let place = c.loop-place-2.place in
    let test = c.loop-place-2-test.true in
    let end = c.loop-place-2.auto.place-end in
    let within : place < length ends = omega (arith, test, end) in
    let few = summing-few g.N.Index.place_of c.args.graph.now.arcs c.args.graph.now.nodes place c.loop-place-2.sum ends (slice_index_or ends place 0) c.loop-place-2.invariant
    (slice_get-get_or ends place 0 within) in
    let short = g.met.A.Index.is_short in
    let most = c.arc_count-place-end.ensures.below in
    record { fits = omega (arith, few, short, most) }

pub loop-place-2-preserved : goal.loop-place-2-preserved
loop-place-2-preserved g c =
    let ends = c.loop-place-2.ends in
    let place = c.loop-place-2.place in
    let test = c.loop-place-2-test.true in
    let end = c.loop-place-2.auto.place-end in
    let within : place < length ends = omega (arith, test, end) in
    summing-next g.N.Index.place_of c.args.graph.now.arcs c.args.graph.now.nodes place c.loop-place-2.sum ends (slice_index_or ends place 0) c.loop-place-2.invariant
    (slice_get-get_or ends place 0 within)

pub returns-clause-ends : goal.returns-clause-ends
returns-clause-ends g c =
    let test = c.loop-place-2-test.false in
    let end = c.loop-place-2.auto.place-end in
    λ u n at. c.loop-place-2.invariant.summed u n (
    let lt = slice_get_within c.loop-place-2.ends u n at in
    omega (arith, lt, test, end)
    ) at

pub unwrap-requires : goal.unwrap-requires
unwrap-requires g c = some-if_not_none c.from_place.result (λ none.
    let most = c.from_place.ensures.none.0 none in
    let test = c.loop-place-test.true in
    let all = c.arc_count-place-end.ensures in
    let many = all.arcs in
    let below = all.below in
    omega (arith, most, test, many, below))

pub ends-tail-requires : goal.ends-tail-requires
ends-tail-requires g c =
    let same : g.A.Index.place_of c.unwrap.result ≡ c.loop-place.place =
    subst (λ o. IfSome o (λ i. g.A.Index.place_of i ≡ c.loop-place.place)) c.unwrap.ensures c.from_place.ensures.some in
    let test = c.loop-place-test.true in
    let many = c.arc_count-place-end.ensures.arcs in
    omega (arith, same, test, many)
