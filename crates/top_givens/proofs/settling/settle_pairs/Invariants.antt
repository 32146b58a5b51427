use Rattle.std.proofs.Common.{take}
use Rattle.top_givens.specs.Binding.{SettlesMore}
use Rattle.top_givens.proofs.settling.settle_pairs.Given as goal

abbrev pub invariant-loop-pair : goal.invariant-loop-pair
invariant-loop-pair l = SettlesMore l.top (take l.pair-index l.pairs) l.fn.settled l.settled
