-- The steps of paths along edges, and how they go under the labels of the edges.
use Rattle.std.specs.Prelude.{◌≡◌, ℕ, Bool, true, false, Some, List, [], ◌∷◌, map, slice_get, slice_index_or, nat_lt, if◌then◌else◌}
use Rattle.relationships.specs.declared.label.End.{End}
use Rattle.relationships.specs.declared.label.Label.{Label}
use Rattle.relationships.specs.Relationship.{Slope, Up, Down, Flat}
use Rattle.relationships.specs.Graph.{Edge, edge_of}

-- the end of its edge from which a step from a to b goes
abbrev pub end_left : ℕ → ℕ → End
end_left a b = if nat_lt a b then End.Low else End.High

-- how the step from one end of an edge with this label goes
abbrev pub step_slope : Label → End → Slope
step_slope Label.Low End.Low = Down
step_slope Label.Low End.High = Up
step_slope Label.High End.Low = Up
step_slope Label.High End.High = Down
step_slope Label.Peer end = Flat

abbrev pub is_up : Slope → Bool
is_up Up = true
is_up Down = false
is_up Flat = false

abbrev pub is_down : Slope → Bool
is_down Up = false
is_down Down = true
is_down Flat = false

-- steps of any type that names the place of the edge, and the end from which the step goes
module _ {S : Type 0} (edge_in : S → ℕ) (left_in : S → End) where
  -- the step goes from a to b, where these are the edges
  abbrev pub IsStepAlong : List Edge → ℕ → ℕ → S → Type 0
  IsStepAlong es a b step = (slice_get es (edge_in step) ≡ Some (edge_of a b)) × (left_in step ≡ end_left a b)

  -- one step for each AS behind a, in order
  abbrev pub AreStepsBehind : List Edge → ℕ → List ℕ → List S → Type 0
  AreStepsBehind es a [] [] = Unit {0}
  AreStepsBehind es a [] (step ∷ steps) = ⊥
  AreStepsBehind es a (b ∷ path) [] = ⊥
  AreStepsBehind es a (b ∷ path) (step ∷ steps) = IsStepAlong es a b step × AreStepsBehind es b path steps

  -- one step for each two neighbours of the path, in order
  abbrev pub AreStepsAlong : List Edge → List ℕ → List S → Type 0
  AreStepsAlong es [] steps = steps ≡ []
  AreStepsAlong es (a ∷ path) steps = AreStepsBehind es a path steps

  -- the paths have these steps, one list for each
  abbrev pub HaveStepsAlong : List Edge → List (List ℕ) → List (List S) → Type 0
  HaveStepsAlong es [] [] = Unit {0}
  HaveStepsAlong es [] (steps ∷ rows) = ⊥
  HaveStepsAlong es (path ∷ paths) [] = ⊥
  HaveStepsAlong es (path ∷ paths) (steps ∷ rows) = AreStepsAlong es path steps × HaveStepsAlong es paths rows

  -- how the steps go under labels that stand in the order of the edges
  abbrev pub slopes_along : List Label → List S → List Slope
  slopes_along labels steps = map (λ step. step_slope (slice_index_or labels (edge_in step) Label.Peer) (left_in step)) steps
