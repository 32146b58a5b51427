use Rattle.std.proofs.Common.{◌+◌}
use Rattle.gao_prefs.specs.Ends.{along}
use Rattle.gao_prefs.proofs.TopLemmas.{IsTopSoFar}
use Rattle.gao_prefs.proofs.top.top_place.Given as goal

abbrev pub invariant-loop-place : goal.invariant-loop-place
invariant-loop-place l = IsTopSoFar (along l.degrees l.steps) (l.place + 1) l.top l.highest
