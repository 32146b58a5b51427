use Rattle.std.proofs.Common.{◌≡◌, map, take}
use Rattle.rel_infer.specs.FirstEnds.{provider_of}
use Rattle.rel_infer.proofs.earlier_ends.ends_by.Given as goal

abbrev pub invariant-loop-line : goal.invariant-loop-line
invariant-loop-line l = l.ends.items ≡ map (λ line. provider_of line.label) (take l.line-index l.lines)
