use Rattle.std.proofs.Common.{◌≡◌, ◌∙◌, [], get_or, sym, ap}
use Rattle.std.proofs.lemmas.List.Elements.{All-get_or}
use Rattle.std.specs.List.{flat_map}
use Rattle.relationships.specs.Evidence.{NeighboursDiffer}
use Rattle.relationships.specs.Relationship.{slopes}
use Rattle.relationships.specs.Graph.{edges, edges_on, labelling}
use Rattle.as_graph.specs.Steps.{slopes_by}
use Rattle.as_graph.proofs.Labelled.{slopes-steps, NoneTwice-distinct}
use Rattle.peering.proofs.valley.is_valley_free.Goals as goal

pub returns : goal.returns
returns c =
    let paths = c.args.graph.now in
    let path = get_or paths c.args.path [] in
    let labels = c.args.labels.now in
    let apart : NeighboursDiffer path = All-get_or NeighboursDiffer paths c.args.path [] c.requires.there c.facts.ensures.apart in
    let same : slopes (labelling (edges paths) labels) path ≡ slopes_by labels c.steps.result.now =
    slopes-steps (edges paths) labels (NoneTwice-distinct (flat_map edges_on paths)) c.requires.labels path c.steps.result.now apart c.steps.ensures.steps in
    c.are_free.ensures (labelling (edges paths) labels) path (same ∙ ap (λ l. slopes_by l c.steps.result.now) (sym c.as_slice.ensures))
