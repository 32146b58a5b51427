use Rattle.std.proofs.Common.{◌≡◌, ◌≤◌, ◌+◌, ◌++◌, length, nat_eq, vec_len, vec_capacity}
use Rattle.std.specs.List.{dedup, dedup_from}
use Rattle.path_merge.proofs.merging.append_merged.Given as goal

-- with the run that isn't put yet, and the numbers that are left, it comes to what it is with all, and there is room for these
abbrev pub invariant-numbers : goal.invariant-numbers
invariant-numbers l =
    (l.numbers.items ++ dedup_from nat_eq l.last l.left ≡ l.fn.numbers.items ++ dedup nat_eq l.fn.ases)
    × (vec_len l.numbers + (1 + length l.left) ≤ vec_capacity l.numbers)

abbrev pub decreases-numbers : goal.decreases-numbers
decreases-numbers l = length l.left
