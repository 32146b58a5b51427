use Rattle.std.proofs.Common.{◌∙◌, ap₂}
use Rattle.result_rules.specs.Totals.{totals_by}
use Rattle.result_rules.proofs.totals.right_totals.Goals as goal

pub returns : goal.returns
returns c = c.totals_of.ensures ∙ ap₂ totals_by c.fates.ensures c.as_slice.ensures
