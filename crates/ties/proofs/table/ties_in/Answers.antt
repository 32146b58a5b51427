use Rattle.std.proofs.Common.{◌<◌, ◌∙◌, length, sym, ap, subst, All}
use Rattle.std.specs.Prelude.{IfOk}
use Rattle.relationships.specs.Graph.{edges, orientation}
use Rattle.relationships.specs.Selection.{IsServable}
use Rattle.as_graph.specs.Paths.{paths_at}
use Rattle.tor_clauses.specs.Formulas.{Fit, IsServed}
use Rattle.ties.specs.declared.tie.Tie.{Tie}
use Rattle.ties.specs.Tied.{AreTies, ShareExactly, AreMarks, open_from}
use Rattle.ties.specs.Ties.{AreTiesBy}
use Rattle.ties.proofs.Tyings.{both_ok}
use Rattle.ties.proofs.table.ties_in.Goals as goal

pub marks_of-requires-clause-many : goal.marks_of-requires-clause-many
marks_of-requires-clause-many c =
    ap length c.orientation.ensures.ends ∙ (c.orientation.ensures.served c.args.graph.now c.facts.ensures.apart c.requires).many ∙
    ap (λ (f : Fit). length (edges f.graph)) (sym c.fitted-fitted.ensures)

pub marks_of-requires-clause-served : goal.marks_of-requires-clause-served
marks_of-requires-clause-served c =
    let graph = c.args.graph.now in
    subst (λ (f : Fit). IsServed f.graph f.formula.paths c.orientation.result.now) (sym c.fitted-fitted.ensures)
    (subst (IsServed graph c.args.selector.now.formula.paths) (sym c.orientation.ensures.ends) (c.orientation.ensures.served graph c.facts.ensures.apart c.requires).served)

pub ties-requires-clause-served : goal.ties-requires-clause-served
ties-requires-clause-served c =
    let graph = c.args.graph.now in
    subst (λ (f : Fit). IsServable (paths_at f.graph f.formula.paths)) (sym c.fitted-fitted.ensures)
    (orientation (edges graph) c.args.selector.now.ends, (c.orientation.ensures.served graph c.facts.ensures.apart c.requires).served)

pub ties-requires-clause-marks : goal.ties-requires-clause-marks
ties-requires-clause-marks c =
    let f = c.fitted-fitted.result in
    subst (AreMarks (paths_at f.graph f.formula.paths) (edges f.graph)) (sym c.as_slice.ensures) c.in_ok-marks.ensures

pub returns-clause-ties : goal.returns-clause-ties
returns-clause-ties c =
    let f = c.fitted-fitted.result in
    let marks = c.in_ok-marks.marks in
    subst (λ (f : Fit). IfOk c.ties.result (AreTiesBy f.graph (paths_at f.graph f.formula.paths))) c.fitted-fitted.ensures
    (both_ok c.ties.result
    (λ ts. AreTies (paths_at f.graph f.formula.paths) (edges f.graph) (open_from 0 c.as_slice.result.now) ts)
    (λ ts. ShareExactly (paths_at f.graph f.formula.paths) (edges f.graph) ts)
    (AreTiesBy f.graph (paths_at f.graph f.formula.paths))
    (λ ts are same. record {
      marks = marks;
      marked = c.in_ok-marks.ensures;
      ties = subst (λ ms. AreTies (paths_at f.graph f.formula.paths) (edges f.graph) (open_from 0 ms) ts) c.as_slice.ensures are;
      same = same;
    })
    c.ties.ensures.ties c.ties.ensures.same)

pub returns-clause-inside : goal.returns-clause-inside
returns-clause-inside c = subst (λ (f : Fit). IfOk c.ties.result (λ ts. All (λ (t : Tie). t.edge < length (edges f.graph)) ts)) c.fitted-fitted.ensures c.ties.ensures.inside
