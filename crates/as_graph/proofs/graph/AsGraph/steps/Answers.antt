use Rattle.std.proofs.Common.{◌≡◌, ◌<◌, ◌≤◌, ◌∙◌, [], All, arith, length, get_or, map, subst, ap}
use Rattle.std.proofs.lemmas.List.Elements.{All-get_or}
use Rattle.relationships.specs.Graph.{edges}
use Rattle.as_graph.specs.declared.step.Step.{Step}
use Rattle.as_graph.specs.Inside.{path_by}
use Rattle.as_graph.specs.Steps.{AreSteps}
use Rattle.as_graph.proofs.StepLemmas.{have_steps_at, length-steps, inside_steps}
use Rattle.as_graph.proofs.graph.AsGraph.steps.Goals as goal

pub returns-clause-steps : goal.returns-clause-steps
returns-clause-steps c =
    let es = c.self.inside.edges in
    let rows = c.self.inside.rows in
    let here : AreSteps es (get_or (map (path_by es) rows) c.args.path []) c.row.result.now =
    have_steps_at es (map (path_by es) rows) rows c.args.path c.row.result.now c.self.invariant.stepped c.row.ensures in
    let there = subst (λ fs. AreSteps fs (get_or (map (path_by es) rows) c.args.path []) c.row.result.now) c.self.invariant.same here in
    subst (λ paths. AreSteps (edges paths) (get_or paths c.args.path []) c.row.result.now) c.self.view_is there

pub returns-clause-count : goal.returns-clause-count
returns-clause-count c =
    let es = c.self.inside.edges in
    let rows = c.self.inside.rows in
    let paths = map (path_by es) rows in
    let place = c.args.path in
    let here : AreSteps es (get_or paths place []) c.row.result.now = have_steps_at es paths rows place c.row.result.now c.self.invariant.stepped c.row.ensures in
    let n = ap length c.self.view_is in
    let there = c.requires in
    let within : place < length paths = omega (arith, n, there) in
    let two : 2 ≤ length (get_or paths place []) = All-get_or (λ p. 2 ≤ length p) paths place [] within c.self.invariant.several in
    length-steps es (get_or paths place []) c.row.result.now two here ∙ ap (λ ps. length (get_or ps place [])) c.self.view_is

pub returns-clause-inside : goal.returns-clause-inside
returns-clause-inside c =
    let es = c.self.inside.edges in
    let rows = c.self.inside.rows in
    let paths = map (path_by es) rows in
    let place = c.args.path in
    let here : AreSteps es (get_or paths place []) c.row.result.now = have_steps_at es paths rows place c.row.result.now c.self.invariant.stepped c.row.ensures in
    let same : es ≡ edges c.args.self.now = c.self.invariant.same ∙ ap edges c.self.view_is in
    subst (λ fs. All (λ (s : Step). s.edge < length fs) c.row.result.now) same (inside_steps es (get_or paths place []) c.row.result.now here)
