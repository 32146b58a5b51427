use Rattle.std.proofs.Common.{ℕ, ◌<◌}
use Rattle.tor_solve.specs.Solving.{HaveOneClass}
use Rattle.tor_solve.proofs.later.clash.Given as goal

abbrev pub invariant-loop-place : goal.invariant-loop-place
invariant-loop-place l = (edge : ℕ) → edge < l.place → HaveOneClass l.parts.of edge → ⊥
