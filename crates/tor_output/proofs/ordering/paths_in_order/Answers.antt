use Rattle.std.proofs.Common.{◌∙◌}
use Rattle.std.proofs.lemmas.Result.{IfOk-weaker}
use Rattle.path_order.proofs.KeptLemmas.{behind_none}
use Rattle.tor_output.proofs.ordering.paths_in_order.Goals as goal

pub returns : goal.returns
returns c = IfOk-weaker c.of_table.result _ _ (λ paths are. are ∙ behind_none c.args.settings.now.order c.args.table.rows) c.of_table.ensures
