use Rattle.std.proofs.Common.{◌≡◌, take}
use Rattle.rel_infer.specs.Returns.{numbers_from}
use Rattle.rel_infer.proofs.returns.numbers_of.Given as goal

abbrev pub invariant-loop-place : goal.invariant-loop-place
invariant-loop-place l = l.numbers ≡ numbers_from l.graph 1 (take l.place l.givens)
