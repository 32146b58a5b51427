use Rattle.top_laws.proofs.BoundLists
use Rattle.top_laws.proofs.laws.bound_law.Goals as goal

pub returns-clause-file : goal.returns-clause-file
returns-clause-file c = BoundLists.top_of_file_law

pub returns-clause-behind : goal.returns-clause-behind
returns-clause-behind c = BoundLists.top_behind_law
