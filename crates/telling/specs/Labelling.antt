-- The labels of the edges along a path.
use Rattle.std.specs.Prelude.{◌≡◌, ℕ, ◌+◌, ◌<◌, List, Some, Contains, slice_get}
use Rattle.relationships.specs.declared.label.Label.{Label}
use Rattle.relationships.specs.Relationship.{Labelling}
use Rattle.relationships.specs.Graph.{Edge, edge_of}
use Rattle.result_text.specs.declared.file.EdgeLine.{EdgeLine}

-- a step of the path goes from its AS in this place to the next
abbrev pub HasStep : List ℕ → (at a b : ℕ) → Type 0
HasStep path at a b = (slice_get path at ≡ Some a) × (slice_get path (at + 1) ≡ Some b)

-- the edges of the steps that end in front of this place are there
abbrev pub HasEdgesTo : List ℕ → ℕ → List Edge → Type 0
HasEdgesTo path end es = (at a b : ℕ) → at + 1 < end → HasStep path at a b → Contains es (edge_of a b)

-- each of the edges that one of the first lines names has its label in the same place
abbrev pub HaveLabelsTo : Labelling → List EdgeLine → ℕ → List Edge → List Label → Type 0
HaveLabelsTo L lines end es labels = (k j : ℕ) (line : EdgeLine) → k < end → slice_get lines k ≡ Some line →
    slice_get es j ≡ Some (line.low, line.high) → slice_get labels j ≡ Some (L line.low line.high)
