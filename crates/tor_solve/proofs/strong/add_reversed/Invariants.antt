use Rattle.tor_solve.specs.Classes.{IsReversedTo}
use Rattle.tor_solve.proofs.strong.add_reversed.Given as goal

abbrev pub invariant-loop-place : goal.invariant-loop-place
invariant-loop-place g l = IsReversedTo l.graph l.other l.place
