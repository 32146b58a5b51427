use Rattle.std.proofs.Common.{◌≡◌, ◌++◌, take}
use Rattle.tor_survey.specs.SurveyText.{passed_lines}
use Rattle.tor_survey.proofs.printing.put_passes.Given as goal

abbrev pub invariant-loop-count : goal.invariant-loop-count
invariant-loop-count l = l.out ≡ l.fn.out ++ passed_lines (take l.count-index l.types)
