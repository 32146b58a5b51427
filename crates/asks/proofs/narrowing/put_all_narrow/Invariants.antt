use Rattle.asks.specs.Narrowing.{IsNarrowedTo}
use Rattle.asks.proofs.narrowing.put_all_narrow.Given as goal

abbrev pub invariant-loop-place : goal.invariant-loop-place
invariant-loop-place l = IsNarrowedTo l.marks l.count l.graph l.place l.other
