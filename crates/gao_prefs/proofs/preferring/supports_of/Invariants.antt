use Rattle.std.proofs.Common.{◌≡◌, take, map}
use Rattle.gao_prefs.specs.Supports.{votes_cast}
use Rattle.gao_prefs.proofs.preferring.supports_of.Given as goal

abbrev pub invariant-loop-ends : goal.invariant-loop-ends
invariant-loop-ends l = l.supports.items ≡ map votes_cast (take l.ends-index l.votes)
