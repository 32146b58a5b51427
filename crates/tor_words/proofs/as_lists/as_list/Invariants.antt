use Rattle.std.proofs.Common.{length}
use Rattle.tor_words.proofs.ListsRead.{IsLeft}
use Rattle.tor_words.proofs.as_lists.as_list.Given as goal

abbrev pub invariant-numbers : goal.invariant-numbers
invariant-numbers l = IsLeft l.text l.rest l.ases

abbrev pub decreases-numbers : goal.decreases-numbers
decreases-numbers l = length l.rest
