use Rattle.std.proofs.Common.{◌<◌, length}
use Rattle.line_rules.proofs.marks.noted.slot_for.Given as goal

abbrev pub invariant-loop : goal.invariant-loop
invariant-loop l = l.place < length l.slots
