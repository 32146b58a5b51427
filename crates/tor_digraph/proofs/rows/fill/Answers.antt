use Rattle.std.proofs.Common.{◌≡◌, ◌+◌, ◌-◌, ◌≤◌, Some, length, sym, subst, ◌∙◌, arith, length-set, set}
use Rattle.std.specs.Prelude.{slice_get, slice_index_or, IfSome}
use Rattle.std.proofs.lemmas.Option.{slice_get-get_or}
use Rattle.tor_digraph.specs.InRows.{IsFilled}
use Rattle.tor_digraph.proofs.Filling.{filling-begins, filling-room, filling-few, filling-next}
use Rattle.tor_digraph.proofs.Members.{some-if_not_none}
use Rattle.tor_digraph.proofs.rows.fill.Goals as goal

pub loop-left-init : goal.loop-left-init
loop-left-init g c =
    let all = c.arc_count-left.ensures.arcs in
    record {
      many = c.requires.many;
      few = omega (arith, all);
      filled = filling-begins g.N.Index.place_of g.A.Index.place_of g.met.N.Index.is_one c.args.graph.now.arcs c.arc_count-left.result c.args.ends.now c.args.rows.now
          c.requires.ends c.requires.rows all;
    }

pub overflow_sub-at : goal.overflow_sub-at
overflow_sub-at g c =
    let test = c.loop-left-test.true in
    let left = c.loop-left.left in
    let arcs = c.args.graph.now.arcs in
    let same : g.A.Index.place_of c.unwrap-arc.result ≡ left - 1 = subst (λ o. IfSome o (λ i. g.A.Index.place_of i ≡ left - 1)) c.unwrap-arc.ensures c.from_place.ensures.some in
    let arc = subst (λ k. slice_get arcs k ≡ Some c.ends-tail.result) same c.ends-tail.ensures.arc in
    let back : left ≡ left - 1 + 1 = omega (arith, test) in
    let so = subst (λ n. IsFilled g.N.Index.place_of g.A.Index.place_of arcs n c.loop-left.ends c.loop-left.rows) back c.loop-left.invariant.filled in
    let many = c.loop-left.invariant.many in
    let below = c.ends-tail.ensures.tail in
    let at-s = slice_get-get_or c.loop-left.ends (g.N.Index.place_of c.ends-tail.result.0) 0 (omega (arith, many, below)) in
    let room = filling-room g.N.Index.place_of g.A.Index.place_of g.met.N.Index.is_one arcs (left - 1) c.loop-left.ends c.loop-left.rows so
    c.ends-tail.result.0 c.ends-tail.result.1 arc (slice_index_or c.loop-left.ends (g.N.Index.place_of c.ends-tail.result.0) 0) at-s in
    subst (λ p. 1 ≤ slice_index_or c.loop-left.ends p 0) (sym c.place-place.ensures.place) (omega (arith, room))

pub prove-unreachable-requires : goal.prove-unreachable-requires
prove-unreachable-requires g c =
    let test = c.loop-left-test.true in
    let left = c.loop-left.left in
    let arcs = c.args.graph.now.arcs in
    let same : g.A.Index.place_of c.unwrap-arc.result ≡ left - 1 = subst (λ o. IfSome o (λ i. g.A.Index.place_of i ≡ left - 1)) c.unwrap-arc.ensures c.from_place.ensures.some in
    let arc = subst (λ k. slice_get arcs k ≡ Some c.ends-tail.result) same c.ends-tail.ensures.arc in
    let back : left ≡ left - 1 + 1 = omega (arith, test) in
    let so = subst (λ n. IsFilled g.N.Index.place_of g.A.Index.place_of arcs n c.loop-left.ends c.loop-left.rows) back c.loop-left.invariant.filled in
    let many = c.loop-left.invariant.many in
    let below = c.ends-tail.ensures.tail in
    let s = slice_index_or c.loop-left.ends (g.N.Index.place_of c.ends-tail.result.0) 0 in
    let at-s = slice_get-get_or c.loop-left.ends (g.N.Index.place_of c.ends-tail.result.0) 0 (omega (arith, many, below)) in
    let room = filling-room g.N.Index.place_of g.A.Index.place_of g.met.N.Index.is_one arcs (left - 1) c.loop-left.ends c.loop-left.rows so
    c.ends-tail.result.0 c.ends-tail.result.1 arc s at-s in
    let few = filling-few g.N.Index.place_of g.A.Index.place_of g.met.N.Index.is_one arcs (left - 1) c.loop-left.ends c.loop-left.rows so
    c.ends-tail.result.0 c.ends-tail.result.1 arc s at-s in
    let past = subst (λ p. length c.loop-left.rows ≤ slice_index_or c.loop-left.ends p 0 - 1) c.place-place.ensures.place c.if-prove.true in
    omega (arith, room, few, past)

pub loop-left-preserved : goal.loop-left-preserved
loop-left-preserved g c =
    let test = c.loop-left-test.true in
    let left = c.loop-left.left in
    let arcs = c.args.graph.now.arcs in
    let ends = c.loop-left.ends in
    let rows = c.loop-left.rows in
    let arc_id = c.unwrap-arc.result in
    let head = c.ends-tail.result.1 in
    let same : g.A.Index.place_of c.unwrap-arc.result ≡ left - 1 = subst (λ o. IfSome o (λ i. g.A.Index.place_of i ≡ left - 1)) c.unwrap-arc.ensures c.from_place.ensures.some in
    let arc = subst (λ k. slice_get arcs k ≡ Some c.ends-tail.result) same c.ends-tail.ensures.arc in
    let back : left ≡ left - 1 + 1 = omega (arith, test) in
    let so = subst (λ n. IsFilled g.N.Index.place_of g.A.Index.place_of arcs n ends rows) back c.loop-left.invariant.filled in
    let many = c.loop-left.invariant.many in
    let below = c.ends-tail.ensures.tail in
    let tail = g.N.Index.place_of c.ends-tail.result.0 in
    let at-s = slice_get-get_or ends tail 0 (omega (arith, many, below)) in
    let few = c.loop-left.invariant.few in
    record {
      many = length-set ends c.place-place.result (slice_index_or ends c.place-place.result 0 - 1) ∙ many;
      few = omega (arith, few);
      filled = subst (λ p. IsFilled g.N.Index.place_of g.A.Index.place_of arcs (left - 1) (set ends p (slice_index_or ends p 0 - 1))
          (set rows (slice_index_or ends p 0 - 1) (arc_id, head))) (sym c.place-place.ensures.place)
          (filling-next g.N.Index.place_of g.A.Index.place_of g.met.N.Index.is_one arcs (left - 1) ends rows so c.ends-tail.result.0 head arc
          (slice_index_or ends tail 0) at-s arc_id same);
    }

pub returns-clause-filled : goal.returns-clause-filled
returns-clause-filled g c =
    let done = c.loop-left-test.false in
    let none : c.loop-left.left ≡ 0 = omega (arith, done) in
    subst (λ n. IsFilled g.N.Index.place_of g.A.Index.place_of c.args.graph.now.arcs n c.loop-left.ends c.loop-left.rows) none c.loop-left.invariant.filled

pub unwrap-arc-requires : goal.unwrap-arc-requires
unwrap-arc-requires g c = some-if_not_none c.from_place.result (λ none.
    let most = c.from_place.ensures.none.0 none in
    let test = c.loop-left-test.true in
    let few = c.loop-left.invariant.few in
    let below = c.arc_count-left.ensures.below in
    omega (arith, most, test, few, below))

pub ends-tail-requires : goal.ends-tail-requires
ends-tail-requires g c =
    let same : g.A.Index.place_of c.unwrap-arc.result ≡ c.loop-left.left - 1 =
    subst (λ o. IfSome o (λ i. g.A.Index.place_of i ≡ c.loop-left.left - 1)) c.unwrap-arc.ensures c.from_place.ensures.some in
    let test = c.loop-left-test.true in
    let few = c.loop-left.invariant.few in
    omega (arith, same, test, few)

pub bounds-ends-place : goal.bounds-ends-place
bounds-ends-place g c =
    let many = c.loop-left.invariant.many in
    let tail = c.ends-tail.ensures.tail in
    let place = c.place-place.ensures.place in
    omega (arith, many, tail, place)

pub loop-left-smaller : goal.loop-left-smaller
loop-left-smaller g c = let test = c.loop-left-test.true in omega (arith, test)

pub bounds-ends-place-in-loop-left : goal.bounds-ends-place-in-loop-left
bounds-ends-place-in-loop-left g c =
    let many = c.loop-left.invariant.many in
    let tail = c.ends-tail.ensures.tail in
    let place = c.place-place.ensures.place in
    omega (arith, many, tail, place)

pub bounds-rows-at : goal.bounds-rows-at
bounds-rows-at g c = let test = c.if-prove.false in omega (arith, test)

pub overflow_sub-left : goal.overflow_sub-left
overflow_sub-left g c = let test = c.loop-left-test.true in omega (arith, test)
