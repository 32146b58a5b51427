use Rattle.line_rules.proofs.Soundness.{AreSound}
use Rattle.line_rules.proofs.paths.find_unclean.Given as goal

abbrev pub invariant-loop-place : goal.invariant-loop-place
invariant-loop-place l = AreSound l.file l.place l.numbers
