use Rattle.std.proofs.Common.{◌+◌, ◌-◌, ◌<◌, ◌≤◌}
use Rattle.line_rules.proofs.marks.noted.slots_for.Given as goal

abbrev pub invariant-loop-count : goal.invariant-loop-count
invariant-loop-count l = record {
  some : 0 < l.count;
  few : l.count ≤ l.numbers + 16;
}

abbrev pub decreases-loop-count : goal.decreases-loop-count
decreases-loop-count l = l.numbers + 16 - l.count
