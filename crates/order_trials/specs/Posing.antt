-- What marking is asked of.
use Rattle.std.specs.Prelude.{◌≡◌, ℕ, List, length, All, Contains, IsTrue}
use Rattle.relationships.specs.declared.label.Label.{Label}
use Rattle.relationships.specs.Relationship.{ValleyFree}
use Rattle.relationships.specs.Graph.{edges, labelling}
use Rattle.as_graph.specs.Paths.{paths_at}
use Rattle.tor_clauses.specs.Formulas.{Formula, FitsGraph}
use Rattle.order_trials.specs.Held.{held as is_held}

-- the paths of the clauses are valley-free under these labels of the edges
abbrev pub AreValleyFree : List (List ℕ) → Formula → List Label → Type 0
AreValleyFree graph f labels = All (ValleyFree (labelling (edges graph) labels)) (paths_at graph f.paths)

-- a graph, the clauses of paths, a label of each edge, and the nodes of orders that the labels have
pub record Posed : Type 0 where
  pub graph : List (List ℕ)
  pub formula : Formula
  pub labels : List Label
  pub held : List ℕ

-- the clauses fit the graph, their paths are valley-free under the labels, and the held nodes are of orders that the labels have
pub record IsPosed (posed : Posed) : Type 0 where
  pub fits : FitsGraph posed.graph posed.formula
  pub labelled : length posed.labels ≡ length (edges posed.graph)
  pub served : AreValleyFree posed.graph posed.formula posed.labels
  pub only : (n : ℕ) → Contains posed.held n → IsTrue (is_held posed.labels n)
