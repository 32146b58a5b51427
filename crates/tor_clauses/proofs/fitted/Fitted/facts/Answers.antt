use Rattle.std.proofs.Common.{subst}
use Rattle.tor_clauses.specs.Flipping.{HasPartners}
use Rattle.tor_clauses.specs.Formulas.{Fit}
use Rattle.tor_clauses.proofs.fitted.Fitted.facts.Goals as goal

pub returns-clause-partners : goal.returns-clause-partners
returns-clause-partners c = subst (λ (f : Fit). HasPartners f.formula.net.arcs) c.self.view_is c.facts-2.ensures.partners
