use Rattle.tor_words.specs.Refused.{HasUsageLine}
use Rattle.tor_words.proofs.refused.put_text.Given as goal

abbrev pub invariant-loop-character : goal.invariant-loop-character
invariant-loop-character l = HasUsageLine l.fn.lines → HasUsageLine l.lines
