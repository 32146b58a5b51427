use Rattle.std.proofs.Common.{ℕ, ◌<◌}
use Rattle.tor_digraph.specs.Trails.{StandsAt}
use Rattle.tor_clauses.proofs.rounding.place_of.Given as goal

abbrev pub invariant-loop-place : goal.invariant-loop-place
invariant-loop-place l = (j : ℕ) → j < l.place → StandsAt l.visited.items j l.node → ⊥
