use Rattle.std.proofs.Common.{arith}
use Rattle.std.proofs.lemmas.List.{length-map}
use Rattle.tor_arena.proofs.Gets.{slice_get-some}
use Rattle.route_leaks.specs.Leaks.{row_met}
use Rattle.leak_text.specs.LeakText.{strange_rows}
use Rattle.leak_text.proofs.LineLemmas.{few_rows, lines_more, small_totals, totals_more}
use Rattle.leak_text.proofs.writing.put_lines.Goals as goal

pub put_strange-totals-requires-clause-free : goal.put_strange-totals-requires-clause-free
put_strange-totals-requires-clause-free g c =
    let leaks = c.args.leaks.now in
    (small_totals leaks.rel leaks.known (strange_rows leaks) leaks.fates c.loop-place.place c.loop-place.totals (few_rows leaks.rows leaks.met leaks.few) c.loop-place.invariant.totals).free

pub put_strange-totals-requires-clause-valley : goal.put_strange-totals-requires-clause-valley
put_strange-totals-requires-clause-valley g c =
    let leaks = c.args.leaks.now in
    (small_totals leaks.rel leaks.known (strange_rows leaks) leaks.fates c.loop-place.place c.loop-place.totals (few_rows leaks.rows leaks.met leaks.few) c.loop-place.invariant.totals).valley

pub put_strange-totals-requires-clause-unknown : goal.put_strange-totals-requires-clause-unknown
put_strange-totals-requires-clause-unknown g c =
    let leaks = c.args.leaks.now in
    (small_totals leaks.rel leaks.known (strange_rows leaks) leaks.fates c.loop-place.place c.loop-place.totals (few_rows leaks.rows leaks.met leaks.few) c.loop-place.invariant.totals).unknown

pub put_strange-totals-requires-clause-leak : goal.put_strange-totals-requires-clause-leak
put_strange-totals-requires-clause-leak g c =
    let leaks = c.args.leaks.now in
    (small_totals leaks.rel leaks.known (strange_rows leaks) leaks.fates c.loop-place.place c.loop-place.totals (few_rows leaks.rows leaks.met leaks.few) c.loop-place.invariant.totals).leak

pub loop-place-preserved : goal.loop-place-preserved
loop-place-preserved g c =
    let leaks = c.args.leaks.now in
    let k = c.loop-place.place in
    let below = c.loop-place-test.true in
    let end = c.len-place-end.ensures in
    let many = length-map leaks.met (row_met leaks.rows) in
    let each = leaks.each in
    let (row, at) = slice_get-some (strange_rows leaks) k (omega (arith, below, end, many)) in
    let (fate, its) = slice_get-some leaks.fates k (omega (arith, below, end, each)) in
    record {
      lines = lines_more leaks.rel leaks.own leaks.known (strange_rows leaks) leaks.fates k row fate at its _ _ _ c.loop-place.invariant.lines
          (c.put_strange-totals.ensures.line row fate at its);
      totals = totals_more leaks.rel leaks.own leaks.known (strange_rows leaks) leaks.fates k row fate at its c.loop-place.totals c.put_strange-totals.result
          c.loop-place.invariant.totals (c.put_strange-totals.ensures.totals row fate at its);
    }
