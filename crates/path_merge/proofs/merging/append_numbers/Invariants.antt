use Rattle.std.proofs.Common.{◌≡◌, length}
use Rattle.std.specs.List.{fold}
use Rattle.path_merge.specs.Merging.{merged_behind}
use Rattle.path_merge.proofs.merging.append_numbers.Given as goal

-- with the numbers that are left the path comes to what it is with all
abbrev pub invariant-numbers : goal.invariant-numbers
invariant-numbers l = fold (merged_behind l.start) l.numbers.items l.left ≡ fold (merged_behind l.fn.start) l.fn.numbers.items l.fn.ases

abbrev pub decreases-numbers : goal.decreases-numbers
decreases-numbers l = length l.left
