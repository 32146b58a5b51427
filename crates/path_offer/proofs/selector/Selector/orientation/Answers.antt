use Rattle.std.proofs.Common.{◌≡◌, ◌*◌, length, ap, ◌∙◌, subst}
use Rattle.tor_clauses.specs.Formulas.{IsModel}
use Rattle.path_offer.specs.Choices.{IsServing}
use Rattle.path_offer.proofs.Keepings.{as_many, served}
use Rattle.path_offer.proofs.selector.Selector.orientation.Goals as goal

pub returns-clause-served : goal.returns-clause-served
returns-clause-served c = λ graph apart fits.
    let f = c.args.self.now.formula in
    let ends = c.self.inside.state.ends in
    let many : length ends * 2 ≡ f.net.nodes = c.self.invariant.state.ends ∙ ap (λ v. v.formula.net.nodes) c.self.view_is in
    let model = subst (λ v. IsModel v.formula ends) c.self.view_is c.self.invariant.model in
    subst (λ v. IsServing graph f.paths v.ends) c.self.view_is (record {
      many = as_many graph f ends c.model_law.ensures apart fits many;
      served = served graph f ends c.model_law.ensures apart fits many model;
    })
