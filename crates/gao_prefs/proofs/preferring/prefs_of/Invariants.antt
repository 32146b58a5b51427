use Rattle.gao_prefs.proofs.PrefLemmas.{ArePrefs}
use Rattle.gao_prefs.proofs.preferring.prefs_of.Given as goal

abbrev pub invariant-loop-place : goal.invariant-loop-place
invariant-loop-place l = ArePrefs l.votes l.degrees l.place l.prefs.items
