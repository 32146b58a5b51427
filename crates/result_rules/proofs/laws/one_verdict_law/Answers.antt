use Rattle.result_rules.proofs.OneVerdict
use Rattle.result_rules.proofs.laws.one_verdict_law.Goals as goal

pub returns-clause-alone : goal.returns-clause-alone
returns-clause-alone c = OneVerdict.one_verdict_law

pub returns-clause-beside : goal.returns-clause-beside
returns-clause-beside c = OneVerdict.one_against_law
