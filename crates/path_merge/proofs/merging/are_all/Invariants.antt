use Rattle.std.proofs.Common.{◌≡◌, ◌==◌, length}
use Rattle.std.specs.List.{list_all}
use Rattle.path_merge.proofs.merging.are_all.Given as goal

abbrev pub invariant-numbers : goal.invariant-numbers
invariant-numbers l = list_all (λ other. other == l.number) l.left ≡ list_all (λ other. other == l.number) l.fn.ases

abbrev pub decreases-numbers : goal.decreases-numbers
decreases-numbers l = length l.left
