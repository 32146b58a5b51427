use Rattle.line_rules.proofs.TestingLemmas.{IsBatchSoFar}
use Rattle.line_rules.proofs.marks.consistency.Testing.test_batch.Given as goal

abbrev pub invariant-loop-at : goal.invariant-loop-at
invariant-loop-at l = IsBatchSoFar l.file l.flips.implied l.flips.conflicting l.implying l.places l.fn.self l.at l.self l.waiting
