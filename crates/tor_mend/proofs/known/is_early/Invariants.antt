use Rattle.std.proofs.Common.{◌≡◌, ◌<◌, ℕ, Some}
use Rattle.std.specs.Prelude.{slice_get}
use Rattle.tor_mend.proofs.known.is_early.Given as goal

abbrev pub invariant-loop-arc : goal.invariant-loop-arc
invariant-loop-arc l = (k a : ℕ) → k < l.arc-index → slice_get l.way.arcs k ≡ Some a → a < l.first
