-- Which edges can be no peerings, whatever the others are: those of the last step up and the first step down of a path are the
-- only ones on it that can.
use Rattle.std.specs.Prelude.{◌≡◌, ◌⊎◌, ℕ, ◌+◌, ◌<◌, Bool, false, List, Some, All, Contains, length, slice_get, slice_index_or, IsTrue}
use Rattle.std.specs.Prelude.{IsFalse}
use Rattle.relationships.specs.declared.label.End.{End}
use Rattle.relationships.specs.Relationship.{label_of}
use Rattle.relationships.specs.Graph.{edges}
use Rattle.as_graph.specs.declared.step.Step.{Step}
use Rattle.as_graph.specs.Paths.{path_at}
use Rattle.relationships.specs.Steps.{is_up, step_slope}
use Rattle.as_graph.specs.Steps.{AreSteps}

-- the step goes up, where the edges have these providers
abbrev pub goes_up : List End → Step → Bool
goes_up ends step = is_up (step_slope (label_of (slice_index_or ends step.edge End.Low)) step.left)

-- two steps, one behind the other, with the edges a and b, exclude an edge: both go up, and it is that of the first; or both go down,
-- and it is that of the second
abbrev pub IsOneExcluded : Bool → Bool → ℕ → ℕ → ℕ → Type 0
IsOneExcluded up next_up a b edge =
    (IsTrue up × IsTrue next_up × (a ≡ edge)) ⊎ (IsFalse up × IsFalse next_up × (b ≡ edge))

abbrev pub ExcludedBy : List End → Step → Step → ℕ → Type 0
ExcludedBy ends first second edge = IsOneExcluded (goes_up ends first) (goes_up ends second) first.edge second.edge edge

-- two of the steps do
abbrev pub ExcludedOn : List End → List Step → ℕ → Type 0
ExcludedOn ends steps edge =
    (at : ℕ) × (first second : Step) × (slice_get steps at ≡ Some first) × (slice_get steps (at + 1) ≡ Some second) ×
    ExcludedBy ends first second edge

-- two steps of a kept path do
abbrev pub IsExcluded : List (List ℕ) → List ℕ → List End → ℕ → Type 0
IsExcluded paths kept ends edge =
    (place : ℕ) × (steps : List Step) × Contains kept place × AreSteps (edges paths) (path_at paths place) steps ×
    All (λ step. step.edge < length (edges paths)) steps × ExcludedOn ends steps edge

-- each of these kept paths has steps, and what two of these exclude is marked
abbrev pub AllExcluded : List (List ℕ) → List ℕ → List End → List Bool → Type 0
AllExcluded paths kept ends excluded =
    (place : ℕ) → Contains kept place →
    (steps : List Step) × AreSteps (edges paths) (path_at paths place) steps × All (λ step. step.edge < length (edges paths)) steps ×
    ((edge : ℕ) → ExcludedOn ends steps edge → IsTrue (slice_index_or excluded edge false))
