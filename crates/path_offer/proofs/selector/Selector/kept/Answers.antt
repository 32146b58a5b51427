use Rattle.std.proofs.Common.{◌≡◌, ◌*◌, length, ap, ◌∙◌, subst}
use Rattle.tor_clauses.specs.Formulas.{IsModel}
use Rattle.path_offer.proofs.Keepings.{servable}
use Rattle.path_offer.proofs.selector.Selector.kept.Goals as goal

pub returns-clause-served : goal.returns-clause-served
returns-clause-served c = λ graph apart fits.
    let ends = c.self.inside.state.ends in
    let many : length ends * 2 ≡ c.args.self.now.formula.net.nodes = c.self.invariant.state.ends ∙ ap (λ v. v.formula.net.nodes) c.self.view_is in
    servable graph c.args.self.now.formula ends c.model_law.ensures apart fits many (subst (λ v. IsModel v.formula ends) c.self.view_is c.self.invariant.model)
