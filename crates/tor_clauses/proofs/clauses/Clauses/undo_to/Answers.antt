use Rattle.std.proofs.Common.{sym, subst}
use Rattle.tor_clauses.specs.Formulas.{FitsGraph}
use Rattle.tor_clauses.proofs.Prefixes.{first_fits}
use Rattle.tor_clauses.proofs.clauses.Clauses.undo_to.Goals as goal

pub returns-clause-fits : goal.returns-clause-fits
returns-clause-fits c graph fits = subst (FitsGraph graph) (sym c.cut_to.ensures) (first_fits graph c.args.self.now c.args.mark fits c.requires)
