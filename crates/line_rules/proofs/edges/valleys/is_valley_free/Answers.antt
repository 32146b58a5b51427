use Rattle.std.proofs.Common.{◌≡◌, ◌+◌, ◌≤◌, true, false, drop, length, get_or, sym, ap, ap₂, ◌∙◌, arith, drop_of_length-le}
use Rattle.std.proofs.lemmas.List.{get_or_default}
use Rattle.relationships.specs.declared.label.Label.{Label}
use Rattle.line_rules.specs.declared.edges.step.Step.{Step}
use Rattle.relationships.specs.Steps.{step_slope, is_down}
use Rattle.line_rules.specs.PathSteps.{place_in, left_in, labels_on, line_slopes}
use Rattle.line_rules.proofs.SlopeLemmas.{well, well-stop, well-nil, next_slopes, answer}
use Rattle.line_rules.proofs.edges.valleys.is_valley_free.Goals as goal

pub returns-then-not-goes_down : goal.returns-then-not-goes_down
returns-then-not-goes_down c =
    let lines = c.args.labels.now in
    let steps = c.args.steps.now in
    let i = c.loop-step.step-index in
    let none : Step = record { code = 0 } in
    let step = get_or steps i none in
    let here : step ≡ get_or steps i step = get_or_default steps i none step c.loop-step-test.true in
    let s = step_slope (get_or (labels_on lines) (place_in step) Label.Peer) (left_in step) in
    let label = c.of-label.ensures ∙ ap (λ k. get_or (labels_on lines) k Label.Peer) c.place.ensures in
    let not_down : is_down s ≡ false = ap is_down (ap₂ step_slope (sym label) (sym c.left.ensures)) ∙ sym c.goes_down.ensures ∙ c.if-not-goes_down.true in
    answer lines steps false
    (c.loop-step.invariant ∙ ap (λ f. well f (line_slopes lines (drop i steps))) c.if-falling.true ∙ ap (well true) (next_slopes lines steps i step c.loop-step-test.true here) ∙
    well-stop s (line_slopes lines (drop (i + 1) steps)) not_down)

pub returns : goal.returns
returns c =
    let lines = c.args.labels.now in
    let steps = c.args.steps.now in
    let end : length steps ≤ c.loop-step.step-index = omega arith in
    answer lines steps true
    (c.loop-step.invariant ∙ ap (λ l. well c.loop-step.falling (line_slopes lines l)) (drop_of_length-le steps end) ∙ well-nil c.loop-step.falling)
