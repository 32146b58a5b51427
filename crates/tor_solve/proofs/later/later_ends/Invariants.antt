use Rattle.std.proofs.Common.{◌≡◌, length}
use Rattle.tor_solve.specs.Solving.{AreLater}
use Rattle.tor_solve.proofs.later.later_ends.Given as goal

abbrev pub invariant-loop-place : goal.invariant-loop-place
invariant-loop-place l = record {
  many : length l.ends ≡ l.place;
  later : AreLater l.parts.of l.ends;
}
