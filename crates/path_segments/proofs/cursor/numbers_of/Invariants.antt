use Rattle.std.proofs.Common.{◌≡◌, ◌++◌, length}
use Rattle.path_segments.proofs.cursor.numbers_of.Given as goal

-- the numbers so far, and those that are left
abbrev pub invariant-numbers : goal.invariant-numbers
invariant-numbers l = l.ases ++ l.left ≡ l.segment.ases

abbrev pub decreases-numbers : goal.decreases-numbers
decreases-numbers l = length l.left
