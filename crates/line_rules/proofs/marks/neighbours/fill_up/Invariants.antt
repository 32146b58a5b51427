use Rattle.std.proofs.Common.{◌≡◌, ◌⊎◌, ◌-◌, ◌≤◌, length}
use Rattle.line_rules.specs.Neighbours.{filled_up}
use Rattle.line_rules.proofs.marks.neighbours.fill_up.Given as goal

abbrev pub invariant-loop-alloc : goal.invariant-loop-alloc
invariant-loop-alloc l = record {
  filled : l.rows.items ≡ filled_up l.fn.rows.items (length l.rows.items);
  least : length l.fn.rows.items ≤ length l.rows.items;
  few : (length l.rows.items ≤ length l.fn.rows.items) ⊎ (length l.rows.items ≤ l.count);
}

abbrev pub decreases-loop-alloc : goal.decreases-loop-alloc
decreases-loop-alloc l = l.count - length l.rows.items
