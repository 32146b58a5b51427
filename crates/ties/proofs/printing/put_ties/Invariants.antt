use Rattle.std.proofs.Common.{◌≡◌, ◌++◌, take}
use Rattle.ties.specs.TiesText.{tie_texts}
use Rattle.ties.proofs.printing.put_ties.Given as goal

abbrev pub invariant-loop-line : goal.invariant-loop-line
invariant-loop-line l = l.out ≡ l.fn.out ++ tie_texts (take l.line-index l.lines)
