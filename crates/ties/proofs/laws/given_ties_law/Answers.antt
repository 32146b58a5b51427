use Rattle.ties.proofs.GivenTyings
use Rattle.ties.proofs.laws.given_ties_law.Goals as goal

pub returns-clause-nothing_given : goal.returns-clause-nothing_given
returns-clause-nothing_given c = GivenTyings.no_givens_ties_law

pub returns-clause-agreeing : goal.returns-clause-agreeing
returns-clause-agreeing c = GivenTyings.agreeing_ties_law

pub returns-clause-named : goal.returns-clause-named
returns-clause-named c = GivenTyings.given_ties_law
