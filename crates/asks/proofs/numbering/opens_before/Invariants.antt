use Rattle.asks.proofs.Opens.{AreBeforeTo}
use Rattle.asks.proofs.numbering.opens_before.Given as goal

abbrev pub invariant-loop-place : goal.invariant-loop-place
invariant-loop-place l = AreBeforeTo l.marks l.place l.count l.before
