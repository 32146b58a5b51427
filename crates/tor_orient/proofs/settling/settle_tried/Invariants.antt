use Rattle.std.proofs.Common.{◌≡◌}
use Rattle.tor_orient.proofs.Findings.{IsJoining}
use Rattle.tor_orient.proofs.settling.settle_tried.Given as goal

abbrev pub invariant-loop-place : goal.invariant-loop-place
invariant-loop-place l = record {
  count : l.settled.count ≡ l.fn.settled.count;
  joining : IsJoining l.tried.nodes.items l.place l.fn.settled.items l.settled.items;
}
