use Rattle.std.proofs.Common.{◌≡◌, ◌++◌, take}
use Rattle.tor_survey.specs.SurveyText.{read_lines}
use Rattle.tor_survey.proofs.printing.put_reads.Given as goal

abbrev pub invariant-loop-count : goal.invariant-loop-count
invariant-loop-count l = l.out ≡ l.fn.out ++ read_lines (take l.count-index l.types)
