use Rattle.telling.specs.Reaching.{NoneTo}
use Rattle.telling.proofs.reaching.first_opposed.Given as goal

-- no open line before this one has its opposite among what is reached
abbrev pub invariant-loop-probe : goal.invariant-loop-probe
invariant-loop-probe l = NoneTo l.file l.all.edges l.reached.nodes l.probe-index
