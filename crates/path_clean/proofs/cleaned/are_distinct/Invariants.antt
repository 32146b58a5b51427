use Rattle.std.proofs.Common.{◌≡◌, length}
use Rattle.tor_arena.specs.Distinct.{is_distinct}
use Rattle.path_clean.proofs.cleaned.are_distinct.Given as goal

abbrev pub invariant-numbers : goal.invariant-numbers
invariant-numbers l = is_distinct l.rest ≡ is_distinct l.path

abbrev pub decreases-numbers : goal.decreases-numbers
decreases-numbers l = length l.rest
