-- What edge lines say of their edges.
use Rattle.std.specs.Prelude.{List, map}
use Rattle.relationships.specs.Relationship.{Labelling}
use Rattle.relationships.specs.Graph.{labelling}
use Rattle.result_text.specs.declared.file.EdgeLine.{EdgeLine}

-- the labelling that edge lines give
abbrev pub labels_in : List EdgeLine → Labelling
labels_in lines = labelling (map (λ e. (e.low, e.high)) lines) (map (λ e. e.label) lines)
