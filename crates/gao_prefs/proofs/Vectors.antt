-- The first of three paths that were worked by hand, and what the definitions say of its votes.
use Rattle.std.proofs.Common.{◌≡◌, ℕ, List, [], ◌∷◌, map, refl}
use Rattle.relationships.specs.declared.label.End.{End}
use Rattle.relationships.specs.Graph.{Edge}
use Rattle.as_graph.specs.declared.step.Step.{Step}
use Rattle.gao_prefs.specs.declared.per_end.PerEnd.{PerEnd}
use Rattle.gao_prefs.specs.Ends.{degrees_of, along, ballots}

abbrev three : List (List ℕ)
three = (30 ∷ 40 ∷ 20 ∷ 10 ∷ 50 ∷ 60 ∷ []) ∷ (10 ∷ 20 ∷ 30 ∷ 40 ∷ []) ∷ (50 ∷ 60 ∷ 10 ∷ 20 ∷ []) ∷ []

abbrev its_edges : List Edge
its_edges = (30, 40) ∷ (20, 40) ∷ (10, 20) ∷ (10, 50) ∷ (50, 60) ∷ (20, 30) ∷ (10, 60) ∷ []

abbrev step : ℕ → End → Step
step edge left = record { edge = edge; left = left }

abbrev first_steps : List Step
first_steps = step 0 End.Low ∷ step 1 End.High ∷ step 2 End.High ∷ step 3 End.Low ∷ step 4 End.Low ∷ []

abbrev table : List PerEnd
table = map (degrees_of three) its_edges

degrees_along : along table first_steps ≡ 2 ∷ 2 ∷ 3 ∷ 3 ∷ 2 ∷ 2 ∷ []
degrees_along = refl

-- up to 20, which is the top, the AS that is reached has the vote, and then the AS that is left
low_votes : map (λ place. ballots table first_steps place End.Low) (0 ∷ 1 ∷ 2 ∷ 3 ∷ 4 ∷ 5 ∷ 6 ∷ []) ≡ 0 ∷ 1 ∷ 0 ∷ 1 ∷ 1 ∷ 0 ∷ 0 ∷ []
low_votes = refl

high_votes : map (λ place. ballots table first_steps place End.High) (0 ∷ 1 ∷ 2 ∷ 3 ∷ 4 ∷ 5 ∷ 6 ∷ []) ≡ 1 ∷ 0 ∷ 1 ∷ 0 ∷ 0 ∷ 0 ∷ 0 ∷ []
high_votes = refl
