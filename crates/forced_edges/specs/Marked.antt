-- What the marks of the edges of a graph have to say, and what bears them out.
use Rattle.std.specs.Prelude.{◌↔◌, ℕ, List, All, IsTrue}
use Rattle.relationships.specs.declared.label.Label.{Label}
use Rattle.relationships.specs.Graph.{edges}
use Rattle.relationships.specs.Selection.{IsForced}
use Rattle.relationships.specs.Checking.{MarksHold}
use Rattle.relationships.specs.Marking.{claims_of, orders_of}
use Rattle.as_graph.specs.Paths.{paths_at}
use Rattle.tor_clauses.specs.Formulas.{Formula, numbered}
use Rattle.forced_edges.specs.declared.marks.Marks.{Marks}

-- an edge is marked forced exactly if all orientations that serve the paths of the clauses give it the same provider
abbrev pub AreExact : List (List ℕ) → Formula → List Label → Marks → Type 0
AreExact graph f labels m =
    All (λ c. IsTrue c.forced ↔ IsForced (paths_at graph f.paths) c.low c.high) (claims_of (edges graph) labels m.marks)

-- the walks show the forced edges, and the probes bear out the open ones that are no peerings
abbrev pub AreBorneOut : List (List ℕ) → Formula → List Label → Marks → Type 0
AreBorneOut graph f labels m =
    MarksHold (numbered graph f.paths) (claims_of (edges graph) labels m.marks) m.whys (orders_of m.probes)
