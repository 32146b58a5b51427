use Rattle.rel_infer.proofs.AgreeingLaws
use Rattle.rel_infer.proofs.given_laws.given_line_law.Goals as goal

pub returns : goal.returns
returns c = AgreeingLaws.given_line_law
