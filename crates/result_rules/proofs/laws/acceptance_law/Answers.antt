use Rattle.result_rules.proofs.Acceptance
use Rattle.result_rules.proofs.laws.acceptance_law.Goals as goal

pub returns : goal.returns
returns c = Acceptance.acceptance_law
