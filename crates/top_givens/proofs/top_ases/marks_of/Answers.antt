use Rattle.std.proofs.Common.{rules}
use Rattle.top_givens.proofs.SortedTop.{marks_more}
use Rattle.top_givens.proofs.top_ases.marks_of.Goals as goal

pub loop-k-preserved : goal.loop-k-preserved
loop-k-preserved c = record {
  all = search rules;
  marked = marks_more c.args.ases.now c.loop-k.marks c.loop-k.k c.loop-k.invariant.all c.loop-k.invariant.marked;
}
