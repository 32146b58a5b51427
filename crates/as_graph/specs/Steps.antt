-- The steps of a path, each named by its edge and the end from which it goes; and how they go under labels.
use Rattle.std.specs.Prelude.{ℕ, List}
use Rattle.relationships.specs.declared.label.Label.{Label}
use Rattle.relationships.specs.Relationship.{Slope}
use Rattle.relationships.specs.Graph.{Edge}
use Rattle.relationships.specs.Steps.{IsStepAlong, AreStepsBehind, AreStepsAlong, HaveStepsAlong, slopes_along}
use Rattle.as_graph.specs.declared.step.Step.{Step}

-- the step goes from a to b, where these are the edges
abbrev pub IsStep : List Edge → ℕ → ℕ → Step → Type 0
IsStep = IsStepAlong (λ (step : Step). step.edge) (λ (step : Step). step.left)

-- one step for each AS behind a, in order
abbrev pub AreStepsFrom : List Edge → ℕ → List ℕ → List Step → Type 0
AreStepsFrom = AreStepsBehind (λ (step : Step). step.edge) (λ (step : Step). step.left)

-- one step for each two neighbours of the path, in order
abbrev pub AreSteps : List Edge → List ℕ → List Step → Type 0
AreSteps = AreStepsAlong (λ (step : Step). step.edge) (λ (step : Step). step.left)

-- the paths have these steps, one list for each
abbrev pub HaveSteps : List Edge → List (List ℕ) → List (List Step) → Type 0
HaveSteps = HaveStepsAlong (λ (step : Step). step.edge) (λ (step : Step). step.left)

-- how the steps go under labels that stand in the order of the edges
abbrev pub slopes_by : List Label → List Step → List Slope
slopes_by = slopes_along (λ (step : Step). step.edge) (λ (step : Step). step.left)
