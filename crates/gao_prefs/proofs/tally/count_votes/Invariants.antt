use Rattle.gao_prefs.proofs.VoteLemmas.{IsCounted}
use Rattle.gao_prefs.proofs.tally.count_votes.Given as goal

abbrev pub invariant-loop-path : goal.invariant-loop-path
invariant-loop-path l = IsCounted l.graph l.kept l.path-index l.votes.items
