-- What a grading by its own labels says of the paths of any result that meets all rules.
use Rattle.std.specs.Prelude.{map}
use Rattle.as_rel.specs.Keeping.{ExactlyKeptAreFree}
use Rattle.as_rel.specs.Labelled.{line_of_edge}
use Rattle.result_rules.specs.File.{its_givens, its_paths}
use Rattle.result_rules.specs.Rules.{Accepts}
use Rattle.result_text.specs.declared.file.ResultFile.{ResultFile}

-- under the lines of its edges exactly its kept paths are free, and none is unknown
abbrev pub AcceptedGradingLaw : Type 0
AcceptedGradingLaw =
    (file : ResultFile) → Accepts file → ExactlyKeptAreFree (its_givens file) (its_paths file) (map line_of_edge file.edges)
