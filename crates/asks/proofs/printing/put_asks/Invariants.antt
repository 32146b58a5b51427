use Rattle.std.proofs.Common.{◌≡◌, ◌++◌, take}
use Rattle.asks.specs.AsksText.{ask_texts}
use Rattle.asks.proofs.printing.put_asks.Given as goal

abbrev pub invariant-loop-line : goal.invariant-loop-line
invariant-loop-line l = l.out ≡ l.fn.out ++ ask_texts (take l.line-index l.lines)
