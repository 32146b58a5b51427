use Rattle.std.proofs.Common.{◌≡◌, ◌++◌, take}
use Rattle.as_rel.specs.Givens.{givens_in}
use Rattle.as_rel.proofs.givens.take_givens.Given as goal

abbrev pub invariant-loop-line : goal.invariant-loop-line
invariant-loop-line l = l.givens ≡ l.fn.givens ++ givens_in (take l.line-index l.lines)
