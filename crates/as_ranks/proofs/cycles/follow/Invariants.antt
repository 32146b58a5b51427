use Rattle.std.proofs.Common.{ℕ, List, ◌-◌, length}
use Rattle.as_ranks.specs.Linking.{AreLinesLinked}
use Rattle.as_ranks.proofs.FollowLemmas.{AreFollowed}
use Rattle.as_ranks.proofs.cycles.follow.Given as goal

abbrev pub invariant-loop-at : goal.invariant-loop-at
invariant-loop-at l = (ases : List ℕ) → AreLinesLinked l.lines ases l.fn.start l.next → AreFollowed l.lines ases l.at l.row

abbrev pub decreases-loop-at : goal.decreases-loop-at
decreases-loop-at l = length l.lines - l.at
