use Rattle.std.proofs.Common.{◌≡◌, ◌≤◌, length, take}
use Rattle.as_ranks.specs.Lots.{picked}
use Rattle.as_ranks.proofs.cones.pick.Given as goal

abbrev pub invariant-loop-member : goal.invariant-loop-member
invariant-loop-member l = record {
  picked : l.row.items ≡ picked l.lane (take l.member-index l.members);
  few : length l.row.items ≤ l.member-index;
  capacity : l.row.cap ≡ l.fn.row.cap;
}
