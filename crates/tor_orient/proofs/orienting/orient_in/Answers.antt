use Rattle.std.proofs.Common.{◌≡◌, List, length, ◌∙◌}
use Rattle.std.proofs.lemmas.Result.{IfOk-weaker}
use Rattle.relationships.specs.declared.label.End.{End}
use Rattle.relationships.specs.Graph.{Edge, edges, orientation}
use Rattle.relationships.specs.Preference.{IsPreferred}
use Rattle.as_graph.specs.Paths.{paths_at}
use Rattle.gao_prefs.specs.Preferences.{edges_preferred}
use Rattle.tor_clauses.specs.Formulas.{IsServed}
use Rattle.tor_orient.specs.Wishes.{wish, AreWishes}
use Rattle.tor_orient.specs.Steps.{AreEndsOf}
use Rattle.tor_orient.proofs.Preferences.{serves, preferred}
use Rattle.tor_orient.proofs.WishLemmas.{wishes}
use Rattle.tor_orient.proofs.orienting.orient_in.Goals as goal

pub returns-clause-many : goal.returns-clause-many
returns-clause-many c =
    let settled = c.in_ok-settled.settled.items in
    let count = c.edge_count.result in
    IfOk-weaker c.settled_ends.result (λ (o : List End). (length o ≡ count) × AreEndsOf settled o) (λ (o : List End). length o ≡ length (edges c.args.fitted.now.graph))
    (λ o is. is.0 ∙ c.edge_count.ensures) c.settled_ends.ensures

pub returns-clause-serves : goal.returns-clause-serves
returns-clause-serves c =
    let graph = c.args.fitted.now.graph in
    let f = c.args.fitted.now.formula in
    let settled = c.in_ok-settled.settled in
    let count = c.edge_count.result in
    IfOk-weaker c.settled_ends.result (λ (o : List End). (length o ≡ count) × AreEndsOf settled.items o) (IsServed graph f.paths)
    (λ o is. serves graph f c.facts.ensures.apart c.facts.ensures.fits c.args.prefs.now settled o c.in_ok-settled.ensures c.requires.inside c.requires.each (is.0 ∙ c.edge_count.ensures) is.1
    c.model_law.ensures)
    c.settled_ends.ensures

pub returns-clause-preferred : goal.returns-clause-preferred
returns-clause-preferred c =
    let graph = c.args.fitted.now.graph in
    let f = c.args.fitted.now.formula in
    let prefs = c.args.prefs.now in
    let es = edges graph in
    let settled = c.in_ok-settled.settled in
    let count = c.edge_count.result in
    IfOk-weaker c.settled_ends.result (λ (o : List End). (length o ≡ count) × AreEndsOf settled.items o)
    (λ (o : List End). IsPreferred (paths_at graph f.paths) (wish es prefs) (edges_preferred es prefs) (orientation es o))
    (λ o is. preferred graph f c.facts.ensures.apart c.facts.ensures.fits prefs settled o c.in_ok-settled.ensures c.requires.inside c.requires.each (is.0 ∙ c.edge_count.ensures) is.1
    c.model_law.ensures (wish es prefs) (wishes graph prefs c.requires.inside c.requires.apart))
    c.settled_ends.ensures

pub returns-clause-wishes : goal.returns-clause-wishes
returns-clause-wishes c =
    let graph = c.args.fitted.now.graph in
    let f = c.args.fitted.now.formula in
    let prefs = c.args.prefs.now in
    let es = edges graph in
    let settled = c.in_ok-settled.settled in
    let count = c.edge_count.result in
    IfOk-weaker c.settled_ends.result (λ (o : List End). (length o ≡ count) × AreEndsOf settled.items o)
    (λ (o : List End). (wanted : Edge → End) → AreWishes es prefs wanted → IsPreferred (paths_at graph f.paths) wanted (edges_preferred es prefs) (orientation es o))
    (λ o is. preferred graph f c.facts.ensures.apart c.facts.ensures.fits prefs settled o c.in_ok-settled.ensures c.requires.inside c.requires.each (is.0 ∙ c.edge_count.ensures) is.1
    c.model_law.ensures)
    c.settled_ends.ensures
