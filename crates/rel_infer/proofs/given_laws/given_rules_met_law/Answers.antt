use Rattle.rel_infer.proofs.AgreeingLaws
use Rattle.rel_infer.proofs.given_laws.given_rules_met_law.Goals as goal

pub returns : goal.returns
returns c = AgreeingLaws.given_rules_met_law
