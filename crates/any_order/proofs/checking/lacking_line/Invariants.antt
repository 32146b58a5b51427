use Rattle.any_order.proofs.Lackings.{AreThereUpTo}
use Rattle.any_order.proofs.checking.lacking_line.Given as goal

abbrev pub invariant-loop-place : goal.invariant-loop-place
invariant-loop-place l = AreThereUpTo l.file l.table.rows l.place
