use Rattle.std.proofs.Common.{◌≡◌, ◌∙◌, length, map, ap}
use Rattle.std.proofs.lemmas.List.{length-map}
use Rattle.relationships.specs.Relationship.{label_of}
use Rattle.relationships.specs.Graph.{edges}
use Rattle.ties.proofs.Labels.{labels_serve}
use Rattle.ties.proofs.marking.marks_of.Goals as goal

pub forced-requires-clause-labels : goal.forced-requires-clause-labels
forced-requires-clause-labels c =
    let ends = c.args.orientation.now in
    ap length (c.in_ok-labels.ensures ∙ ap (map label_of) c.as_slice.ensures) ∙ length-map ends label_of ∙ c.requires.many

pub forced-requires-clause-served : goal.forced-requires-clause-served
forced-requires-clause-served c =
    labels_serve c.args.fitted.now.graph c.args.fitted.now.formula.paths c.args.orientation.now c.in_ok-labels.labels c.facts.ensures.fits.there c.requires.many
    (c.in_ok-labels.ensures ∙ ap (map label_of) c.as_slice.ensures) c.requires.served

pub returns : goal.returns
returns c =
    let ends = c.args.orientation.now in
    let labels = c.in_ok-labels.labels in
    let labelled : length labels ≡ length (edges c.args.fitted.now.graph) =
    ap length (c.in_ok-labels.ensures ∙ ap (map label_of) c.as_slice.ensures) ∙ length-map ends label_of ∙ c.requires.many in
    c.marks_law.ensures c.args.fitted.now.graph c.args.fitted.now.formula labels c.in_ok-found.found labelled c.in_ok-found.ensures.many c.in_ok-found.ensures.marks
