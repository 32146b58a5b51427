use Rattle.std.proofs.Common.{◌≡◌}
use Rattle.as_ranks.specs.Lots.{AreGathered}
use Rattle.as_ranks.proofs.cones.add_members.Given as goal

abbrev pub invariant-loop-place : goal.invariant-loop-place
invariant-loop-place l = record {
  gathered : AreGathered l.ases l.parts.of l.masks l.place l.members.items;
  capacity : l.members.cap ≡ l.fn.members.cap;
}
