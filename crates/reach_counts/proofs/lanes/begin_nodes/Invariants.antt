use Rattle.std.proofs.Common.{◌≡◌, length}
use Rattle.reach_counts.specs.Masks.{AreSeeds}
use Rattle.reach_counts.proofs.lanes.begin_nodes.Given as goal

abbrev pub invariant-loop-lane : goal.invariant-loop-lane
invariant-loop-lane l = record {
  many : length l.masks ≡ l.parts.count;
  seeds : AreSeeds l.parts.of l.base l.lane l.masks;
}
