use Rattle.std.proofs.Common.{◌<◌, ◌∙◌, length, sym, ap, subst, All}
use Rattle.std.specs.Prelude.{IfOk}
use Rattle.std.proofs.lemmas.Result.{IfOk-weaker}
use Rattle.relationships.specs.Graph.{edges, orientation}
use Rattle.relationships.specs.Selection.{IsServable}
use Rattle.as_graph.specs.Paths.{paths_at}
use Rattle.tor_clauses.specs.Formulas.{Fit, IsServed}
use Rattle.asks.specs.declared.ask.Ask.{Ask}
use Rattle.ties.specs.Tied.{AreMarks, open_from}
use Rattle.asks.specs.Asks.{AreAsks, AreAsksBy}
use Rattle.asks.proofs.table.asks_in.Goals as goal

pub marks_of-requires-clause-many : goal.marks_of-requires-clause-many
marks_of-requires-clause-many c =
    ap length c.orientation.ensures.ends ∙ (c.orientation.ensures.served c.args.graph.now c.facts.ensures.apart c.requires).many ∙
    ap (λ (f : Fit). length (edges f.graph)) (sym c.fitted-fitted.ensures)

pub marks_of-requires-clause-served : goal.marks_of-requires-clause-served
marks_of-requires-clause-served c =
    let graph = c.args.graph.now in
    subst (λ (f : Fit). IsServed f.graph f.formula.paths c.orientation.result.now) (sym c.fitted-fitted.ensures)
    (subst (IsServed graph c.args.selector.now.formula.paths) (sym c.orientation.ensures.ends) (c.orientation.ensures.served graph c.facts.ensures.apart c.requires).served)

pub asks-requires-clause-served : goal.asks-requires-clause-served
asks-requires-clause-served c =
    let graph = c.args.graph.now in
    subst (λ (f : Fit). IsServable (paths_at f.graph f.formula.paths)) (sym c.fitted-fitted.ensures)
    (orientation (edges graph) c.args.selector.now.ends, (c.orientation.ensures.served graph c.facts.ensures.apart c.requires).served)

pub asks-requires-clause-marks : goal.asks-requires-clause-marks
asks-requires-clause-marks c =
    let f = c.fitted-fitted.result in
    subst (AreMarks (paths_at f.graph f.formula.paths) (edges f.graph)) (sym c.as_slice.ensures) c.in_ok-marks.ensures

pub returns-clause-asks : goal.returns-clause-asks
returns-clause-asks c =
    let f = c.fitted-fitted.result in
    let marks = c.in_ok-marks.marks in
    subst (λ (f : Fit). IfOk c.asks.result (AreAsksBy f.graph (paths_at f.graph f.formula.paths))) c.fitted-fitted.ensures
    (IfOk-weaker c.asks.result
    (AreAsks (paths_at f.graph f.formula.paths) (edges f.graph) (open_from 0 c.as_slice.result.now))
    (AreAsksBy f.graph (paths_at f.graph f.formula.paths))
    (λ asks are. record {
      marks = marks;
      marked = c.in_ok-marks.ensures;
      are = subst (λ ms. AreAsks (paths_at f.graph f.formula.paths) (edges f.graph) (open_from 0 ms) asks) c.as_slice.ensures are;
    })
    c.asks.ensures.asks)

pub returns-clause-inside : goal.returns-clause-inside
returns-clause-inside c = subst (λ (f : Fit). IfOk c.asks.result (λ asks. All (λ (a : Ask). a.edge < length (edges f.graph)) asks)) c.fitted-fitted.ensures c.asks.ensures.inside
