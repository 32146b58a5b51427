use Rattle.asks.proofs.Opens.{ArePlacesTo}
use Rattle.asks.proofs.numbering.open_places.Given as goal

abbrev pub invariant-loop-place : goal.invariant-loop-place
invariant-loop-place l = ArePlacesTo l.marks l.place l.places
