use Rattle.relationships.proofs.GivenWalks
use Rattle.relationships.proofs.laws.given_evidence.given_marks_law.Goals as goal

pub returns : goal.returns
returns c = GivenWalks.given_marks_law
