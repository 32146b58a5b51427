use Rattle.std.proofs.Common.{subst}
use Rattle.std.proofs.lemmas.Result.{IfOk-weaker}
use Rattle.path_table.specs.Repeats.{IsFirstRepeat}
use Rattle.result_rules.specs.declared.rule.Rule.TheVariants.{PathsDistinct}
use Rattle.line_rules.specs.Breaches.{FindsBreach}
use Rattle.line_rules.proofs.Repeats.{finds-repeat}
use Rattle.line_rules.proofs.paths.find_repeated.Goals as goal

pub returns : goal.returns
returns c =
    IfOk-weaker c.first_repeated.result (IsFirstRepeat c.paths.result.now) (FindsBreach c.args.file.now PathsDistinct)
    (λ found is. finds-repeat c.args.file.now found (subst (λ rows. IsFirstRepeat rows found) c.paths.ensures is)) c.first_repeated.ensures
