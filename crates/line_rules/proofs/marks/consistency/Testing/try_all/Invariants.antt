use Rattle.std.proofs.Common.{length}
use Rattle.line_rules.specs.Testing.{IsUnderWay}
use Rattle.line_rules.proofs.marks.consistency.Testing.try_all.Given as goal

abbrev pub invariant-loop-alloc : goal.invariant-loop-alloc
invariant-loop-alloc l = IsUnderWay l.file l.flips.implied l.end 1 l.fn.self.failing l.self l.waiting

abbrev pub decreases-loop-alloc : goal.decreases-loop-alloc
decreases-loop-alloc l = length l.waiting
