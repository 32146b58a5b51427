use Rattle.std.proofs.Common.{◌∙◌, ◌↔◌, ◌<◌, List, All, Contains, length, map, refl, sym, ap, subst}
use Rattle.tor_arena.specs.Distinct.{AllDistinct}
use Rattle.relationships.specs.declared.label.End.{End}
use Rattle.relationships.specs.Relationship.{ValleyFree, Serves}
use Rattle.relationships.specs.Graph.{Edge, edges, labelling, orientation, degree}
use Rattle.relationships.specs.Preference.{IsPreferred, ServeEitherWay, NoneLeftOut}
use Rattle.relationships.specs.Selection.{IsServable}
use Rattle.as_graph.specs.Paths.{paths_at}
use Rattle.gao_prefs.specs.declared.preferring.Pref.{Pref}
use Rattle.gao_prefs.specs.Preferences.{edges_preferred}
use Rattle.tor_clauses.specs.Formulas.{Fit, demands_of}
use Rattle.tor_orient.specs.Wishes.{AreWishes}
use Rattle.rel_infer.proofs.Labels.{labels_from}
use Rattle.rel_infer.proofs.labelling.labels_of.Goals as goal

pub orient_in-requires-clause-servable : goal.orient_in-requires-clause-servable
orient_in-requires-clause-servable c =
    subst (λ (f : Fit). IsServable (demands_of f.graph f.formula)) (sym c.fitted.ensures)
    (c.kept-kept.ensures.served c.args.graph.now c.facts.ensures.apart c.requires.fits)

pub orient_in-requires-clause-rows : goal.orient_in-requires-clause-rows
orient_in-requires-clause-rows c = c.requires.rows ∙ ap (λ (f : Fit). f.formula.net) (sym c.fitted.ensures)

pub orient_in-requires-clause-inside : goal.orient_in-requires-clause-inside
orient_in-requires-clause-inside c =
    subst (λ (f : Fit). All (λ (pref : Pref). pref.edge < length (edges f.graph)) c.as_slice.result.now) (sym c.fitted.ensures)
    (subst (All (λ (pref : Pref). pref.edge < length (edges c.args.graph.now))) (sym c.as_slice.ensures) c.in_ok-voted.ensures.prefs.inside)

pub orient_in-requires-clause-apart : goal.orient_in-requires-clause-apart
orient_in-requires-clause-apart c =
    subst (λ (l : List Pref). AllDistinct (map (λ (pref : Pref). pref.edge) l)) (sym c.as_slice.ensures) c.in_ok-voted.ensures.prefs.apart

pub orient_in-requires-clause-each : goal.orient_in-requires-clause-each
orient_in-requires-clause-each c =
    let es = edges c.args.graph.now in
    subst (λ (f : Fit). (e : Edge) → Contains (edges f.graph) e ↔ Contains (edges_preferred (edges f.graph) c.as_slice.result.now) e) (sym c.fitted.ensures)
    (subst (λ (l : List Pref). (e : Edge) → Contains es e ↔ Contains (edges_preferred es l) e) (sym c.as_slice.ensures) c.in_ok-voted.ensures.prefs.order.each)

pub relabel-requires-clause-served : goal.relabel-requires-clause-served
relabel-requires-clause-served c =
    let serves = subst (λ (f : Fit). Serves (orientation (edges f.graph) c.in_ok-ends.ends) (demands_of f.graph f.formula)) c.fitted.ensures c.in_ok-ends.ensures.serves in
    subst (λ places. Serves (orientation (edges c.args.graph.now) c.in_ok-ends.ends) (paths_at c.args.graph.now places)) (sym c.kept-kept.ensures.paths) serves

pub relabel-requires-clause-ends : goal.relabel-requires-clause-ends
relabel-requires-clause-ends c = c.in_ok-ends.ensures.many ∙ ap (λ (f : Fit). length (edges f.graph)) c.fitted.ensures

pub returns-clause-labels : goal.returns-clause-labels
returns-clause-labels c =
    let graph = c.args.graph.now in
    let paths = c.args.selector.now.formula.paths in
    let read = c.as_slice.result.now in
    let wishes = subst (λ (f : Fit). (wanted : Edge → End) → AreWishes (edges f.graph) read wanted →
    IsPreferred (demands_of f.graph f.formula) wanted (edges_preferred (edges f.graph) read) (orientation (edges f.graph) c.in_ok-ends.ends)) c.fitted.ensures c.in_ok-ends.ensures.wishes in
    labels_from c.args.ratio graph paths c.kept-kept.result.now paths c.args.counted.now c.in_ok-voted.voted.prefs read
    c.in_ok-ends.ends c.in_ok-labels.labels c.kept-kept.ensures.paths refl c.as_slice.ensures c.in_ok-voted.ensures.prefs.order c.in_ok-voted.ensures.prefs.wants wishes
    c.in_ok-labels.ensures.relabelled

pub returns-clause-valley_free : goal.returns-clause-valley_free
returns-clause-valley_free c =
    let graph = c.args.graph.now in
    subst (λ places. All (ValleyFree (labelling (edges graph) c.in_ok-labels.labels)) (paths_at graph places)) c.kept-kept.ensures.paths c.in_ok-labels.ensures.valley_free

pub returns-clause-either_way : goal.returns-clause-either_way
returns-clause-either_way c =
    let graph = c.args.graph.now in
    subst (λ places. ServeEitherWay (labelling (edges graph) c.in_ok-labels.labels) (paths_at graph places)) c.kept-kept.ensures.paths c.in_ok-labels.ensures.either_way

pub returns-clause-none_left_out : goal.returns-clause-none_left_out
returns-clause-none_left_out c =
    let graph = c.args.graph.now in
    subst (λ places. NoneLeftOut (degree graph) c.args.ratio (paths_at graph places) (edges graph) (labelling (edges graph) c.in_ok-labels.labels)) c.kept-kept.ensures.paths
    c.in_ok-labels.ensures.none_left_out
