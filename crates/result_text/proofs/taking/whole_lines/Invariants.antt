use Rattle.std.proofs.Common.{◌≡◌, ◌≤◌, true, length, drop}
use Rattle.result_text.specs.Taking.{feedless}
use Rattle.result_text.proofs.taking.whole_lines.Given as goal

abbrev pub invariant-back : goal.invariant-back
invariant-back l = (l.end ≤ length l.octets) × (feedless (drop l.end l.octets) ≡ true)

abbrev pub decreases-back : goal.decreases-back
decreases-back l = l.end
