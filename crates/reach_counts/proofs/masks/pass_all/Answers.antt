use Rattle.std.proofs.Common.{◌≡◌, ◌<◌, ◌≤◌, subst, arith}
use Rattle.std.specs.Prelude.{IfSome}
use Rattle.reach_counts.specs.Masks.{AreBitsPassed}
use Rattle.reach_counts.proofs.MaskLemmas.{before-next, before-all}
use Rattle.reach_counts.proofs.masks.pass_all.Goals as goal

pub loop-place-preserved : goal.loop-place-preserved
loop-place-preserved c =
    let at : c.unwrap.result ≡ c.loop-place.place = subst (λ o. IfSome o (λ i. i ≡ c.loop-place.place)) c.unwrap.ensures c.from_place.ensures.some in
    let test = c.loop-place-test.true in
    let count = c.node_count-place-end.ensures.nodes in
    let lt : c.loop-place.place < c.args.rows.now.nodes = omega (arith, test, count) in
    record {
      many = c.pass_from.ensures.many;
      bits = λ source first. before-next c.args.rows.now source c.requires.rising c.loop-place.place c.loop-place.masks c.pass_from.new.masks (c.loop-place.invariant.bits source first) lt
          (subst (λ n. AreBitsPassed c.args.rows.now.arcs n c.loop-place.masks c.pass_from.new.masks) at c.pass_from.ensures.passed);
    }

pub returns : goal.returns
returns c =
    let test = c.loop-place-test.false in
    let count = c.node_count-place-end.ensures.nodes in
    let le : c.args.rows.now.nodes ≤ c.loop-place.place = omega (arith, test, count) in
    record {
      many = c.loop-place.invariant.many;
      bits = λ source first. before-all c.args.rows.now source c.requires.rising c.loop-place.place c.loop-place.masks c.node_count-place-end.ensures.inside le (c.loop-place.invariant.bits source first);
    }
