use Rattle.std.proofs.Common.{◌≡◌, length}
use Rattle.tor_mend.specs.Mends.{flipped_back, AreInside}
use Rattle.tor_mend.proofs.flipping.flip_back.Given as goal

abbrev pub invariant-loop-flip : goal.invariant-loop-flip
invariant-loop-flip l = record {
  flips : AreInside (length l.ends) l.flips;
  back : flipped_back l.ends l.flips ≡ flipped_back l.fn.ends l.fn.flips;
}

abbrev pub decreases-loop-flip : goal.decreases-loop-flip
decreases-loop-flip l = length l.flips
