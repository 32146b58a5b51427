use Rattle.relationships.proofs.WalkLemmas
use Rattle.relationships.proofs.laws.evidence.refuting_law.Goals as goal

pub returns : goal.returns
returns c = WalkLemmas.refuting_law
