use Rattle.line_rules.proofs.TestingLemmas.{IsTriedSoFar}
use Rattle.line_rules.proofs.marks.consistency.Testing.try_batch.Given as goal

abbrev pub invariant-loop-at : goal.invariant-loop-at
invariant-loop-at l = IsTriedSoFar l.file l.flips.implied l.flips.conflicting l.places l.fn.self l.at l.self l.waiting
