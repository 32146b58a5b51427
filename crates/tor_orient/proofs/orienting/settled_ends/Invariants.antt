use Rattle.std.proofs.Common.{◌≡◌, length}
use Rattle.tor_orient.specs.Steps.{AreEndsOf}
use Rattle.tor_orient.proofs.orienting.settled_ends.Given as goal

abbrev pub invariant-loop-place : goal.invariant-loop-place
invariant-loop-place l = (length l.ends.items ≡ l.place) × AreEndsOf l.settled.items l.ends.items
