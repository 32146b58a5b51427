use Rattle.std.proofs.Common.{◌≡◌, ◌<◌, ◌-◌, ◌+◌, length, get_or, arith}
use Rattle.std.proofs.lemmas.Option.{slice_get-get_or}
use Rattle.reach_counts.proofs.CycleLemmas.{linked-more}
use Rattle.as_ranks.proofs.cycles.link.Goals as goal

pub loop-left-preserved : goal.loop-left-preserved
loop-left-preserved c =
    let p = c.loop-left.left - 1 in
    let test = c.loop-left-test.true in
    let inside = c.loop-left.invariant.inside in
    let one : c.loop-left.left ≡ p + 1 = omega (arith, test) in
    let lt : p < length c.args.of.now = omega (arith, test, inside) in
    let class = slice_get-get_or c.args.of.now p 0 lt in
    let below = c.requires.below p (get_or c.args.of.now p 0) class in
    let classes = c.loop-left.invariant.linked.classes in
    record {
      linked = linked-more c.args.of.now (length c.args.first.now) p c.loop-left.left (get_or c.args.of.now p 0) _ c.loop-left.first c.loop-left.next one lt class
          (slice_get-get_or c.loop-left.first (get_or c.args.of.now p 0) 0 (omega (arith, below, classes))) c.loop-left.invariant.linked;
      inside = omega (arith, inside);
    }
