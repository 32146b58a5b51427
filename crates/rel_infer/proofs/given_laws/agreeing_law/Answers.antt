use Rattle.rel_infer.proofs.AgreeingLaws
use Rattle.rel_infer.proofs.given_laws.agreeing_law.Goals as goal

pub returns : goal.returns
returns c = AgreeingLaws.agreeing_law
