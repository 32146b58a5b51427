-- What the fields of a graph hold.
use Rattle.std.specs.Prelude.{◌≡◌, ℕ, ◌+◌, ◌<◌, ◌≤◌, ◌||◌, ◌==◌, Bool, List, [], ◌∷◌, ◌++◌, All, length, map, sum_by, count_by, filter}
use Rattle.std.specs.Prelude.{take, slice_get, slice_index, slice_index_or, Some, Contains, nat_eq, if◌then◌else◌}
use Rattle.std.specs.List.{list_any}
use Rattle.tor_arena.specs.Limits.{max_numbers}
use Rattle.tor_arena.specs.RowLists.{rows_between, ArePartedBy}
use Rattle.tor_numbers.specs.Slots.{IsApart}
use Rattle.relationships.specs.declared.label.End.{End}
use Rattle.relationships.specs.Evidence.{NeighboursDiffer}
use Rattle.relationships.specs.Relationship.{opposite}
use Rattle.relationships.specs.declared.given.Given.{Given}
use Rattle.relationships.specs.Givens.{return_of}
use Rattle.relationships.specs.Graph.{Edge, edge_of, is_same, edges}
use Rattle.as_graph.specs.declared.graph_edges.Ends.{Ends}
use Rattle.as_graph.specs.declared.step.Step.{Step}
use Rattle.as_graph.specs.EdgeSteps.{place_of_step}
use Rattle.as_graph.specs.Limits.{most_paths, most_numbers, most_triples}
use Rattle.as_graph.specs.Paths.{triple_count}
use Rattle.as_graph.specs.Steps.{AreSteps, HaveSteps}

-- ---- edges and degrees

abbrev pub is_incident : ℕ → Edge → Bool
is_incident a e = (e.0 == a) || (e.1 == a)

-- where the two of an edge stand in a table of numbers, in which each AS is found by 2 more than its own
abbrev pub AreEndsOf : List ℕ → Edge → Ends → Type 0
AreEndsOf ases e ends = (slice_get ases ends.low ≡ Some (e.0 + 2)) × (slice_get ases ends.high ≡ Some (e.1 + 2))

-- for each AS of the table, how many of the edges hold it; and they hold no other
pub record AreDegrees (es : List Edge) (ases counts : List ℕ) : Type 0 where
  pub apart : IsApart ases
  pub each : length counts ≡ length ases
  pub known : (a k : ℕ) → slice_get ases k ≡ Some (a + 2) → slice_index counts k ≡ count_by (is_incident a) es
  pub other : (a : ℕ) → (Contains ases (a + 2) → ⊥) → count_by (is_incident a) es ≡ 0

-- each edge has its lower number first, and there are few enough to be numbered; with degrees, and a place for each end
pub record AreGraphEdges (es : List Edge) (ases counts : List ℕ) (ends : List Ends) : Type 0 where
  pub ordered : All (λ (e : Edge). e.0 < e.1) es
  pub few : length es ≤ max_numbers
  pub degrees : AreDegrees es ases counts
  pub many : length ends ≡ length es
  pub there : (k : ℕ) (e : Edge) (d : Ends) → slice_get es k ≡ Some e → slice_get ends k ≡ Some d → AreEndsOf ases e d

-- with ASes more, of which no edge is counted, all degrees and places stay
pub record HasMoreAses (ases counts more_ases more_counts : List ℕ) : Type 0 where
  pub degrees : (es : List Edge) → AreDegrees es ases counts → AreDegrees es more_ases more_counts
  pub places : (k n : ℕ) → slice_get ases k ≡ Some n → slice_get more_ases k ≡ Some n

-- one more is counted at this place, and none at any other
pub record CountsOneMore (counts : List ℕ) (at : ℕ) (more : List ℕ) : Type 0 where
  pub many : length more ≡ length counts
  pub each : (k : ℕ) → slice_index more k ≡ slice_index counts k + (if nat_eq at k then 1 else 0)

-- ---- paths given by their steps

abbrev pub as_at : Edge → End → ℕ
as_at e End.Low = e.0
as_at e End.High = e.1

-- the AS from which a step goes, and the one that it reaches
abbrev pub left_as : List Edge → Step → ℕ
left_as es step = as_at (slice_index_or es step.edge (0, 0)) step.left

abbrev pub next_as : List Edge → Step → ℕ
next_as es step = as_at (slice_index_or es step.edge (0, 0)) (opposite step.left)

abbrev pub path_by : List Edge → List Step → List ℕ
path_by es [] = []
path_by es (step ∷ steps) = left_as es step ∷ map (next_as es) (step ∷ steps)

-- for each edge the AS that a step from its lower end reaches, and the one that a step from its higher end does
abbrev pub reached_by : List Edge → List ℕ
reached_by [] = []
reached_by (e ∷ es) = e.1 ∷ e.0 ∷ reached_by es

-- the AS that a step reaches, and the path of some steps, where these are the ASes that a step of each place reaches
abbrev pub as_along : List ℕ → Step → ℕ
as_along ases step = slice_index_or ases (place_of_step step) 0

abbrev pub path_along : List ℕ → List Step → List ℕ
path_along ases [] = []
path_along ases (step ∷ steps) = as_along ases (record { edge = step.edge; left = opposite step.left }) ∷ map (as_along ases) (step ∷ steps)

-- these ASes, parted by these bounds, are the first paths
pub record ArePathsBetween (paths : List (List ℕ)) (place : ℕ) (ases bounds : List ℕ) : Type 0 where
  pub many : length bounds ≡ place + 1
  pub parted : ArePartedBy bounds (length ases)
  pub rows : rows_between ases bounds ≡ take place paths

-- ---- a graph that is built path by path

-- the edges and the steps of the first paths are there
pub record IsBuilt (paths : List (List ℕ)) (place : ℕ) (es : List Edge) (rows : List (List Step)) : Type 0 where
  pub there : es ≡ edges (take place paths)
  pub stepped : HaveSteps es (take place paths) rows

-- the steps of a path were added behind others
pub record AddsSteps (es : List Edge) (path : List ℕ) (old new : List Step) : Type 0 where
  pub added : List Step
  pub whole : new ≡ old ++ added
  pub stepped : AreSteps es path added

-- the edges of the first paths are there, and their steps in rows with these bounds
pub record AreRowsOf (paths : List (List ℕ)) (place : ℕ) (es : List Edge) (steps : List Step) (bounds : List ℕ) : Type 0 where
  pub some : 0 < length bounds
  pub parted : ArePartedBy bounds (length steps)
  pub built : IsBuilt paths place es (rows_between steps bounds)

-- ---- returns of givens

-- the two of the given are an edge
abbrev pub is_named : List Edge → Given → Bool
is_named es g = list_any (is_same (edge_of g.over g.under)) es

-- the returns of those givens whose two are an edge
abbrev pub returns_among : List Edge → List Given → List (List ℕ)
returns_among es givens = map return_of (filter (is_named es) givens)

-- the steps of these returns were added behind the others
pub record AddsReturns (es : List Edge) (givens : List Given) (old new : List (List Step)) : Type 0 where
  pub added : List (List Step)
  pub whole : new ≡ old ++ added
  pub stepped : HaveSteps es (returns_among es givens) added

-- ---- a graph

pub record IsGraph (es : List Edge) (rows : List (List Step)) (paths : List (List ℕ)) : Type 0 where
  pub same : es ≡ edges paths
  pub stepped : HaveSteps es paths rows
  pub several : All (λ path. 2 ≤ length path) paths
  pub apart : All NeighboursDiffer paths
  pub few : length paths ≤ most_paths
  pub short : sum_by length paths ≤ most_numbers
  pub few_edges : length (edges paths) < max_numbers
  pub few_triples : sum_by triple_count paths < most_triples
