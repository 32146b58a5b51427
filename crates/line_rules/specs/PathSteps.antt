-- The steps of paths, each by the place of its edge and the end from which it goes, and how they go under the labels of edge lines.
use Rattle.std.specs.Prelude.{ℕ, ◌+◌, ◌-◌, ◌*◌, ◌/◌, ◌%◌, ◌==◌, List, map, if◌then◌else◌}
use Rattle.relationships.specs.declared.label.End.{End}
use Rattle.relationships.specs.declared.label.Label.{Label}
use Rattle.relationships.specs.Relationship.{Slope}
use Rattle.relationships.specs.Graph.{Edge}
use Rattle.relationships.specs.Steps.{IsStepAlong, AreStepsBehind, AreStepsAlong, HaveStepsAlong, slopes_along}
use Rattle.result_text.specs.declared.file.EdgeLine.{EdgeLine}
use Rattle.line_rules.specs.declared.edges.step.Step.{Step}

-- ---- steps

-- the place of its edge
abbrev pub place_in : Step → ℕ
place_in step = step.code / 2

-- the end of its edge from which it goes
abbrev pub left_in : Step → End
left_in step = if step.code % 2 == 1 then End.Low else End.High

-- the code of the step the other way round
abbrev pub turned : Step → ℕ
turned step = place_in step * 2 + (1 - step.code % 2)

-- the step goes from a to b, where these are the edges
abbrev pub IsCodedStep : List Edge → ℕ → ℕ → Step → Type 0
IsCodedStep = IsStepAlong place_in left_in

-- one step for each AS behind a, in order
abbrev pub AreCodedStepsFrom : List Edge → ℕ → List ℕ → List Step → Type 0
AreCodedStepsFrom = AreStepsBehind place_in left_in

-- one step for each two neighbours of the path, in order
abbrev pub AreCodedSteps : List Edge → List ℕ → List Step → Type 0
AreCodedSteps = AreStepsAlong place_in left_in

-- the paths have these steps, one list for each
abbrev pub HaveCodedSteps : List Edge → List (List ℕ) → List (List Step) → Type 0
HaveCodedSteps = HaveStepsAlong place_in left_in

-- ---- slopes

abbrev pub labels_on : List EdgeLine → List Label
labels_on lines = map (λ e. e.label) lines

-- how the steps go under the labels of the edge lines
abbrev pub line_slopes : List EdgeLine → List Step → List Slope
line_slopes lines = slopes_along place_in left_in (labels_on lines)
