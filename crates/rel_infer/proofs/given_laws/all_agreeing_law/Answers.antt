use Rattle.rel_infer.proofs.AgreeingLaws
use Rattle.rel_infer.proofs.given_laws.all_agreeing_law.Goals as goal

pub returns : goal.returns
returns c = AgreeingLaws.all_agreeing_law
