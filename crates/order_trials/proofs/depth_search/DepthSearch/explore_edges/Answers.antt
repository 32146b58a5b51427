use Rattle.std.proofs.Common.{arith}
use Rattle.order_trials.proofs.Choosing.{order_done, seen_all}
use Rattle.order_trials.proofs.depth_search.DepthSearch.explore_edges.Goals as goal

pub loop-place-init : goal.loop-place-init
loop-place-init c = record {
  so_far = c.requires.order;
  idle = c.requires.idle;
  seen = λ k n label lt. absurd (omega (arith, lt));
}

pub returns : goal.returns
returns c =
    let test = c.loop-place-test.false in
    let count = c.edge_count-place-end.ensures in
    let labelled = c.facts.ensures.posed.labelled in
    let so = c.loop-place.invariant in
    record {
      inside = so.so_far.inside;
      only = so.so_far.only;
      all = λ n is. order_done c.args.problem.now c.loop-place.self so.so_far so.idle n is
          (seen_all c.args.problem.now.labels c.loop-place.place c.loop-place.self.seen.items so.seen (omega (arith, test, count, labelled)) n is);
    }
