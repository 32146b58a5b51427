use Rattle.std.proofs.Common.{◌≡◌, ◌++◌, take}
use Rattle.std.specs.List.{flat_map}
use Rattle.as_ranks.specs.Nets.{both_ases}
use Rattle.as_ranks.proofs.net.add_ends.Given as goal

abbrev pub invariant-loop-line : goal.invariant-loop-line
invariant-loop-line l = l.ases.items ≡ l.fn.ases.items ++ flat_map both_ases (take l.line-index l.lines)
