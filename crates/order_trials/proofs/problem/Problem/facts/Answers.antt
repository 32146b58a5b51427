use Rattle.std.proofs.Common.{subst}
use Rattle.relationships.specs.Graph.{edges, labelling}
use Rattle.relationships.specs.Selection.{IsServable}
use Rattle.tor_clauses.specs.Flipping.{HasPartners}
use Rattle.tor_clauses.specs.Formulas.{demands_of}
use Rattle.order_trials.specs.Posing.{Posed}
use Rattle.order_trials.proofs.Showings.{servable}
use Rattle.order_trials.proofs.problem.Problem.facts.Goals as goal

pub returns-clause-partners : goal.returns-clause-partners
returns-clause-partners c = subst (λ (v : Posed). HasPartners v.formula.net.arcs) c.self.view_is c.facts.ensures.partners

pub returns-clause-servable : goal.returns-clause-servable
returns-clause-servable c =
    let graph = c.self.inside.fitted.now.graph in
    let labels = c.self.inside.labels.now in
    subst (λ (v : Posed). IsServable (demands_of v.graph v.formula)) c.self.view_is
    (servable (labelling (edges graph) labels) (demands_of graph c.self.inside.fitted.now.formula) c.self.invariant.0.served)
