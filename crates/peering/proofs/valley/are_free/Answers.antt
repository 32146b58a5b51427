use Rattle.std.proofs.Common.{◌≡◌, ◌+◌, ◌<◌, ◌≤◌, true, false, drop, length, get_or, sym, ap, ◌∙◌, subst, arith, drop_of_length-le}
use Rattle.std.proofs.lemmas.List.{get_or_default}
use Rattle.relationships.specs.declared.label.Label.{Label}
use Rattle.as_graph.specs.declared.step.Step.{Step}
use Rattle.relationships.specs.Steps.{step_slope, is_down}
use Rattle.as_graph.specs.Steps.{slopes_by}
use Rattle.peering.proofs.Falling.{well, well-stop, well-nil, next_slopes, answer}
use Rattle.peering.proofs.valley.are_free.Goals as goal

pub returns-then-falling : goal.returns-then-falling
returns-then-falling c =
    let steps = c.args.steps.now in
    let labels = c.args.labels.now in
    let i = c.loop-step.step-index in
    let step = c.step-item.result in
    let within : step.edge < length labels = subst (λ (s : Step). s.edge < length labels) (sym c.step-item.is) (c.requires i step c.loop-step-test.true) in
    let same : get_or labels step.edge Label.Peer ≡ get_or labels c.place.result Label.Low =
    get_or_default labels step.edge Label.Peer Label.Low within ∙ ap (λ k. get_or labels k Label.Low) (sym (c.place.ensures.place ∙ c.edge.ensures)) in
    let not_down : is_down (step_slope (get_or labels step.edge Label.Peer) step.left) ≡ false =
    ap (λ l. is_down (step_slope l step.left)) same ∙ ap (λ left. is_down (step_slope (get_or labels c.place.result Label.Low) left)) (sym c.left.ensures) ∙
    sym c.goes_down.ensures ∙ c.if-goes_down.false in
    answer labels steps false
    (c.loop-step.invariant ∙ ap (λ f. well f (slopes_by labels (drop i steps))) c.if-falling.true ∙ ap (well true) (next_slopes labels steps i step c.loop-step-test.true c.step-item.is) ∙
    well-stop (step_slope (get_or labels step.edge Label.Peer) step.left) (slopes_by labels (drop (i + 1) steps)) not_down)

pub returns : goal.returns
returns c =
    let steps = c.args.steps.now in
    let labels = c.args.labels.now in
    let end : length steps ≤ c.loop-step.step-index = omega arith in
    answer labels steps true
    (c.loop-step.invariant ∙ ap (λ l. well c.loop-step.falling (slopes_by labels l)) (drop_of_length-le steps end) ∙ well-nil c.loop-step.falling)
