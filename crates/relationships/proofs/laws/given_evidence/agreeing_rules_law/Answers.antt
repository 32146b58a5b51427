use Rattle.relationships.proofs.AgreeingRules
use Rattle.relationships.proofs.laws.given_evidence.agreeing_rules_law.Goals as goal

pub returns : goal.returns
returns c = AgreeingRules.agreeing_rules_law
