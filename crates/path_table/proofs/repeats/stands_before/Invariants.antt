use Rattle.path_table.proofs.RepeatLemmas.{HasComeTo}
use Rattle.path_table.proofs.repeats.stands_before.Given as goal

abbrev pub invariant-chain : goal.invariant-chain
invariant-chain l = HasComeTo l.fn.many l.rows l.hashes l.fn.place l.at

abbrev pub decreases-chain : goal.decreases-chain
decreases-chain l = l.at
