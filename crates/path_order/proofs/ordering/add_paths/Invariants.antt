use Rattle.std.proofs.Common.{◌≡◌, ◌++◌, take}
use Rattle.path_order.specs.Entries.{rows_at, places_of}
use Rattle.path_order.proofs.ordering.add_paths.Given as goal

abbrev pub invariant-loop-k : goal.invariant-loop-k
invariant-loop-k l = l.paths ≡ l.initial.paths ++ rows_at l.rows (places_of (take l.k l.entries))
