use Rattle.std.proofs.Common.{◌≡◌, ◌∙◌, All, length, sym, ap, subst}
use Rattle.std.specs.Prelude.{IfOk}
use Rattle.relationships.specs.Relationship.{ValleyFree}
use Rattle.relationships.specs.Graph.{edges, labelling}
use Rattle.tor_clauses.specs.Formulas.{Fit, demands_of}
use Rattle.forced_edges.specs.Marked.{AreExact, AreBorneOut}
use Rattle.rel_infer.proofs.finding.marks_of.Goals as goal

pub forced_in-requires-clause-rows : goal.forced_in-requires-clause-rows
forced_in-requires-clause-rows c = c.requires.rows ∙ ap (λ (f : Fit). f.formula.net) (sym c.fitted.ensures)

pub forced_in-requires-clause-labels : goal.forced_in-requires-clause-labels
forced_in-requires-clause-labels c = c.requires.count ∙ ap (λ (f : Fit). length (edges f.graph)) (sym c.fitted.ensures)

pub forced_in-requires-clause-served : goal.forced_in-requires-clause-served
forced_in-requires-clause-served c =
    subst (λ (f : Fit). All (ValleyFree (labelling (edges f.graph) c.args.labels.now)) (demands_of f.graph f.formula)) (sym c.fitted.ensures) c.requires.free

pub returns-clause-many : goal.returns-clause-many
returns-clause-many c = subst (λ (f : Fit). IfOk c.forced_in.result (λ m. length m.marks ≡ length (edges f.graph))) c.fitted.ensures c.forced_in.ensures.many

pub returns-clause-marks : goal.returns-clause-marks
returns-clause-marks c = subst (λ (f : Fit). IfOk c.forced_in.result (AreExact f.graph f.formula c.args.labels.now)) c.fitted.ensures c.forced_in.ensures.marks

pub returns-clause-evidence : goal.returns-clause-evidence
returns-clause-evidence c = subst (λ (f : Fit). IfOk c.forced_in.result (AreBorneOut f.graph f.formula c.args.labels.now)) c.fitted.ensures c.forced_in.ensures.evidence
