use Rattle.std.proofs.Common.{ℕ, List, length}
use Rattle.result_text.specs.Taking.{AreWhole, IsAt}
use Rattle.result_text.proofs.taking.read_lines.Given as goal

abbrev pub invariant-lines : goal.invariant-lines
invariant-lines l = AreWhole l.rest × ((octets : List ℕ) → IsAt l.fn.line l.fn.draft octets l.lines → IsAt l.line l.draft octets l.rest)

abbrev pub decreases-lines : goal.decreases-lines
decreases-lines l = length l.rest
