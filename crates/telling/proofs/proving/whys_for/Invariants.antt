use Rattle.telling.proofs.Chains.{LeadFrom}
use Rattle.telling.proofs.proving.whys_for.Given as goal

-- the walks that were found lead on from the order that is still to be shown
abbrev pub invariant-loop-place : goal.invariant-loop-place
invariant-loop-place l = LeadFrom l.file l.place l.whys.items l.order.0 l.order.1 l.fn.over l.fn.under

abbrev pub decreases-loop-place : goal.decreases-loop-place
decreases-loop-place l = l.place
