use Rattle.std.proofs.Common.{◌≡◌, ◌∙◌, ◌*◌, length, ap, subst, arith}
use Rattle.relationships.specs.Graph.{edges, orientation}
use Rattle.tor_digraph.specs.Walks.{IsInside}
use Rattle.tor_solve.specs.Classes.{IsComponents}
use Rattle.tor_clauses.specs.Formulas.{IsServed, IsModel}
use Rattle.tor_solve.proofs.Classing.{later_model, walk_excludes}
use Rattle.tor_solve.proofs.solver.solve.Goals as goal

pub returns-in-Some-clause-exact : goal.returns-in-Some-clause-exact
returns-in-Some-clause-exact c =
    (λ is_walk. walk_excludes c.args.fitted.now.graph c.args.fitted.now.formula.paths c.in_ok-walk-in-Some.walk c.in_ok-walk-in-Some.ensures, λ none. tt)

served : (c : goal.After-drop-parts-inside-2) → IsServed c.args.fitted.now.graph c.args.fitted.now.formula.paths c.in_ok-ends-in-None.ends
served c =
    let f = c.args.fitted.now.formula in
    let ends = c.in_ok-ends-in-None.ends in
    let counted = c.node_count-count.ensures.nodes ∙ ap (λ n. n.nodes) c.digraph.ensures in
    let all : length ends ≡ length (edges c.args.fitted.now.graph) = omega (arith, c.in_ok-ends-in-None.ensures.many, counted, c.facts.ensures.fits.nodes) in
    let twice : f.net.nodes ≡ length ends * 2 = omega (arith, all, c.facts.ensures.fits.nodes) in
    let inside = subst (IsInside (λ n. n)) c.digraph.ensures c.node_count-count.ensures.inside in
    let parts = subst (λ n. IsComponents (λ n. n) n c.in_ok-parts.parts) c.digraph-2.ensures c.in_ok-parts.ensures in
    let model : IsModel f ends = later_model f c.in_ok-parts.parts ends twice inside parts c.facts.ensures.partners c.in_ok-ends-in-None.ensures.later in
    (c.model_law.ensures c.args.fitted.now.graph f ends c.facts.ensures.apart c.facts.ensures.fits all).1 model

pub returns-clause-model : goal.returns-clause-model
returns-clause-model c = served c

pub returns-clause-exact : goal.returns-clause-exact
returns-clause-exact c = (
  λ never. absurd never,
  λ none. none (orientation (edges c.args.fitted.now.graph) c.in_ok-ends-in-None.ends, served c),
)
