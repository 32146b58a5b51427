use Rattle.std.proofs.Common.{◌≡◌, ◌-◌, ◌++◌, length}
use Rattle.path_order.specs.Entries.{AreToCome, paths_left, row_places, times_left}
use Rattle.path_order.proofs.ordering.add_others.Given as goal

abbrev pub invariant-loop-size : goal.invariant-loop-size
invariant-loop-size l = record {
  left : AreToCome l.rows l.times l.size l.remaining.left.items;
  paths_are : l.paths ++ paths_left l.rows l.times l.remaining.left.items
      ≡ l.initial.paths ++ paths_left l.rows l.times (row_places l.kept (length l.rows - l.kept));
  times_are : l.ordered ++ times_left l.rows l.times l.remaining.left.items
      ≡ l.initial.ordered ++ times_left l.rows l.times (row_places l.kept (length l.rows - l.kept));
}
