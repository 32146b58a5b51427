use Rattle.tor_survey.specs.Sets.{HaveEnds}
use Rattle.tor_survey.proofs.Countings.{AreCounted}
use Rattle.tor_survey.proofs.counting.figures.Given as goal

abbrev pub invariant-loop-place : goal.invariant-loop-place
invariant-loop-place l = AreCounted l.paths l.place l.ases l.edges l.longest × HaveEnds l.ases l.edges
