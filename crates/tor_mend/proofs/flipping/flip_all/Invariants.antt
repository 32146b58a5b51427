use Rattle.std.proofs.Common.{◌≡◌, ◌*◌, ◌<◌, ℕ, length}
use Rattle.tor_digraph.specs.Trails.{StandsAt}
use Rattle.tor_mend.specs.Mends.{flipped_back, AreInside}
use Rattle.tor_mend.proofs.Flips.{IsFlipped}
use Rattle.tor_mend.proofs.flipping.flip_all.Given as goal

abbrev pub invariant-loop-place : goal.invariant-loop-place
invariant-loop-place l = record {
  many : length l.ends ≡ length l.fn.ends;
  flips : AreInside (length l.ends) l.flips;
  back : flipped_back l.ends l.flips ≡ flipped_back l.fn.ends l.fn.flips;
  inside : (k x : ℕ) → k < l.place → StandsAt l.visited.items k x → x < length l.fn.ends * 2;
  flipped : IsFlipped l.fn.ends l.ends l.visited.items l.place;
}
