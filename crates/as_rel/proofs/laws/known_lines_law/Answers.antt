use Rattle.as_rel.proofs.FewLines
use Rattle.as_rel.proofs.laws.known_lines_law.Goals as goal

pub returns-clause-named : goal.returns-clause-named
returns-clause-named c = FewLines.named_pairs_law

pub returns-clause-few : goal.returns-clause-few
returns-clause-few c = FewLines.few_lines_law
