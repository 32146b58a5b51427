use Rattle.as_ranks.specs.Placing.{ArePlacedTo}
use Rattle.as_ranks.proofs.ranking.place_all.Given as goal

abbrev pub invariant-loop-place : goal.invariant-loop-place
invariant-loop-place l = ArePlacedTo l.place l.fn.ranks.items l.ranks.items
