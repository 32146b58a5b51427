-- Labels of edge lines that say what is given.
use Rattle.std.specs.Prelude.{◌≡◌, ℕ, min, List, Option, Some, None, All}
use Rattle.relationships.specs.declared.given.Given.{Given}
use Rattle.relationships.specs.Relationship.{label_of}
use Rattle.relationships.specs.Graph.{edge_of}
use Rattle.relationships.specs.Givens.{end_by}
use Rattle.result_text.specs.declared.file.EdgeLine.{EdgeLine}
use Rattle.result_text.specs.declared.file.ResultFile.{ResultFile}
use Rattle.result_rules.specs.Rules.{ForSome, IsServedIfKept}

-- the label of the edge line has the provider of the given, if its two ASes are those of the given
abbrev pub HasLabelOf : EdgeLine → Given → Type 0
HasLabelOf line g = edge_of g.over g.under ≡ (line.low, line.high) → line.label ≡ label_of (end_by g.over g.under)

-- the label of edge line k has the provider of the given; and of each of these givens
abbrev pub HasLabelAt : List EdgeLine → Given → ℕ → Type 0
HasLabelAt lines g k = ForSome lines k (λ line. HasLabelOf line g)

abbrev pub HasLabelsAt : List EdgeLine → List Given → ℕ → Type 0
HasLabelsAt lines givens k = ForSome lines k (λ line. All (HasLabelOf line) givens)

-- path line k is valley-free under the labels, if it is kept
abbrev pub ServedAt : ResultFile → ℕ → Type 0
ServedAt file k = ForSome file.paths k (IsServedIfKept file)

-- the lesser_place of two places, if there is one
abbrev pub lesser_place : Option ℕ → Option ℕ → Option ℕ
lesser_place None second = second
lesser_place (Some a) None = Some a
lesser_place (Some a) (Some b) = Some (min a b)
