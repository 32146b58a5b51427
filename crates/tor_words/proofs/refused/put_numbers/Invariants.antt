use Rattle.tor_words.specs.Refused.{HasUsageLine}
use Rattle.tor_words.proofs.refused.put_numbers.Given as goal

abbrev pub invariant-loop-octet : goal.invariant-loop-octet
invariant-loop-octet l = HasUsageLine l.fn.lines → HasUsageLine l.lines
