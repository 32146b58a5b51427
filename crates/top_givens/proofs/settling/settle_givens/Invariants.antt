use Rattle.std.proofs.Common.{take}
use Rattle.top_givens.specs.Binding.{SettlesMore}
use Rattle.top_givens.specs.TopGivens.{given_pairs}
use Rattle.top_givens.proofs.settling.settle_givens.Given as goal

abbrev pub invariant-loop-given : goal.invariant-loop-given
invariant-loop-given l = SettlesMore l.top (given_pairs (take l.given-index l.givens)) l.fn.settled l.settled
