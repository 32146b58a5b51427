use Rattle.std.proofs.Common.{take}
use Rattle.rel_infer.specs.Returns.{AreRelinked}
use Rattle.rel_infer.proofs.relinking.relinked_fates.Given as goal

abbrev pub invariant-loop-place : goal.invariant-loop-place
invariant-loop-place l = AreRelinked l.paths l.numbers (take l.place l.fates) l.relinked
