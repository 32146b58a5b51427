use Rattle.relationships.proofs.WalkLemmas
use Rattle.relationships.proofs.laws.evidence.showing_law.Goals as goal

pub returns : goal.returns
returns c = WalkLemmas.showing_law
