-- The law that this crate proves, as the contract of a function in src/laws.rt.
use Rattle.std.specs.Prelude.{◌↔◌, ℕ, List, All}
use Rattle.relationships.specs.Graph.{edges}
use Rattle.relationships.specs.Evidence.{NeighboursDiffer, Closure}
use Rattle.tor_digraph.specs.Walks.{Reaches}
use Rattle.as_graph.specs.Paths.{paths_at}
use Rattle.tor_clauses.specs.Literals.{lit_of, Says}
use Rattle.tor_clauses.specs.Formulas.{Formula, FitsGraph}

-- arcs lead from the order of one node to that of another exactly if the closure of the first order holds the second
abbrev pub ClosureReachLaw : Type 0
ClosureReachLaw =
    (graph : List (List ℕ)) (f : Formula) (l m a b x y : ℕ) → All NeighboursDiffer graph → FitsGraph graph f →
    Says (edges graph) (lit_of l) a b → Says (edges graph) (lit_of m) x y →
    Reaches f.net.arcs l m ↔ Closure (paths_at graph f.paths) a b x y
