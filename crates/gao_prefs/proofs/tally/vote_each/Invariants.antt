use Rattle.std.proofs.Common.{◌≡◌, ℕ, ◌+◌, length, take}
use Rattle.std.specs.List.{count_by}
use Rattle.relationships.specs.declared.label.End.{End}
use Rattle.gao_prefs.specs.Ends.{number_at, is_vote}
use Rattle.gao_prefs.proofs.tally.vote_each.Given as goal

abbrev pub invariant-loop-step : goal.invariant-loop-step
invariant-loop-step l = record {
  long : length l.votes.items ≡ length l.fn.votes.items;
  counted : (k : ℕ) (e : End) → number_at l.votes.items k e ≡ number_at l.fn.votes.items k e + count_by (is_vote l.climbing k e) (take l.step-index l.steps);
}
