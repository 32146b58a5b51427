-- Three paths that were worked by hand, and what the definitions say of them.
use Rattle.std.proofs.Common.{◌≡◌, ℕ, ◌≤◌, true, false, List, [], ◌∷◌, length, map, refl, All, lit≤, inl}
use Rattle.std.proofs.lemmas.Bool.{false≢true}
use Rattle.std.proofs.lemmas.List.Elements.{All-from_recursion}
use Rattle.relationships.specs.declared.label.End.{End}
use Rattle.relationships.specs.declared.label.Label.{Label}
use Rattle.tor_arena.specs.Distinct.{AllDistinct}
use Rattle.relationships.specs.Evidence.{NeighboursDiffer}
use Rattle.relationships.proofs.Serving.{all_differ_if_distinct}
use Rattle.relationships.specs.Relationship.{Labelling, is_over, slope, ValleyFree}
use Rattle.relationships.specs.Graph.{Edge, edges, degree, support, labelling}
use Rattle.tor_arena.proofs.DistinctLemmas.{AllDistinct-from_test}
use Rattle.relationships.proofs.Deciding.{no_valley_iff}
use Rattle.as_graph.specs.declared.step.Step.{Step}
use Rattle.as_graph.specs.Paths.{path_at, paths_at, is_edge}
use Rattle.as_graph.specs.Steps.{AreSteps}
use Rattle.as_graph.specs.Inside.{path_by}

abbrev first : List ℕ
first = 30 ∷ 40 ∷ 20 ∷ 10 ∷ 50 ∷ 60 ∷ []

abbrev second : List ℕ
second = 10 ∷ 20 ∷ 30 ∷ 40 ∷ []

abbrev third : List ℕ
third = 50 ∷ 60 ∷ 10 ∷ 20 ∷ []

abbrev pub three : List (List ℕ)
three = first ∷ second ∷ third ∷ []

abbrev its_edges : List Edge
its_edges = (30, 40) ∷ (20, 40) ∷ (10, 20) ∷ (10, 50) ∷ (50, 60) ∷ (20, 30) ∷ (10, 60) ∷ []

edges_found : edges three ≡ its_edges
edges_found = refl

degrees : map (degree three) (10 ∷ 20 ∷ 30 ∷ 40 ∷ 50 ∷ 60 ∷ 70 ∷ []) ≡ 3 ∷ 3 ∷ 2 ∷ 2 ∷ 2 ∷ 2 ∷ 0 ∷ []
degrees = refl

no_edge : is_edge three 30 60 ≡ false
no_edge = refl

an_edge : is_edge three 60 10 ≡ true
an_edge = refl

supports : map (support (paths_at three (0 ∷ 1 ∷ []))) its_edges ≡ 2 ∷ 1 ∷ 2 ∷ 1 ∷ 1 ∷ 1 ∷ 0 ∷ []
supports = refl

-- ---- steps

abbrev step : ℕ → End → Step
step edge left = record { edge = edge; left = left }

abbrev first_steps : List Step
first_steps = step 0 End.Low ∷ step 1 End.High ∷ step 2 End.High ∷ step 3 End.Low ∷ step 4 End.Low ∷ []

steps_found : AreSteps its_edges (path_at three 0) first_steps
steps_found = ((refl, refl), ((refl, refl), ((refl, refl), ((refl, refl), ((refl, refl), tt)))))

path_given : path_by its_edges first_steps ≡ first
path_given = refl

-- ---- labels of the path 10 20 30

abbrev short : List ℕ
short = 10 ∷ 20 ∷ 30 ∷ []

abbrev labelled : Label → Label → Labelling
labelled one other = labelling (edges (short ∷ [])) (one ∷ other ∷ [])

two_peers : ValleyFree (labelled Label.Peer Label.Peer) short → ⊥
unfolding slope is_over
two_peers h = false≢true ((no_valley_iff (labelled Label.Peer Label.Peer) short).1 h)

upwards : ValleyFree (labelled Label.High Label.High) short
unfolding slope is_over
upwards = (2, 0, inl refl)

-- ---- what a graph of them asks

pub three_several : All (λ path. 2 ≤ length path) three
three_several = All-from_recursion (λ path. 2 ≤ length path) three (lit≤ tt, (lit≤ tt, (lit≤ tt, tt)))

three_distinct : All AllDistinct three
three_distinct =
    All-from_recursion AllDistinct three (AllDistinct-from_test first refl, (AllDistinct-from_test second refl, (AllDistinct-from_test third refl, tt)))

pub three_apart : All NeighboursDiffer three
three_apart = all_differ_if_distinct three three_distinct
