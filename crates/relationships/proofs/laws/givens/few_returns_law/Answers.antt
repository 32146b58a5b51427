use Rattle.relationships.proofs.FewReturns
use Rattle.relationships.proofs.laws.givens.few_returns_law.Goals as goal

pub returns : goal.returns
returns c = FewReturns.few_returns_law
