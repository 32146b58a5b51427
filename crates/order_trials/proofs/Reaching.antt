-- Arcs that lead from one order to another, and closures.
use Rattle.std.proofs.Common.{◌≡◌, ℕ, ◌/◌, List, sym, ap, ap₂, ◌∙◌, subst, All}
use Rattle.relationships.specs.Graph.{edge_of, edges}
use Rattle.relationships.specs.Evidence.{NeighboursDiffer, Closure, start, imply}
use Rattle.tor_digraph.specs.Walks.{Reaches, here, along}
use Rattle.as_graph.specs.Paths.{paths_at}
use Rattle.tor_clauses.specs.Literals.{node_of, lit_of, Says}
use Rattle.tor_clauses.specs.Formulas.{Formula, FitsGraph}
use Rattle.tor_clauses.proofs.Exacts.{all_arcs, only_arcs}
use Rattle.tor_clauses.proofs.LiteralLemmas.{lit_with, node_of_lit}
use Rattle.tor_clauses.proofs.Overs.{one_place, Says-one}

-- one node says an order
pub same_node : (graph : List (List ℕ)) (l m x y : ℕ) → Says (edges graph) (lit_of l) x y → Says (edges graph) (lit_of m) x y → l ≡ m
same_node graph l m x y s t =
    let place = one_place graph (l / 2) (m / 2) (edge_of x y) s.edge t.edge in
    sym (node_of_lit l) ∙ ap node_of (ap₂ lit_with place (s.end ∙ sym t.end)) ∙ node_of_lit m

module _ (graph : List (List ℕ)) (f : Formula) (apart : All NeighboursDiffer graph) (fits : FitsGraph graph f) where
  pub closure_of : (l a b : ℕ) → Says (edges graph) (lit_of l) a b → {m : ℕ} → Reaches f.net.arcs l m → (x y : ℕ) → Says (edges graph) (lit_of m) x y →
      Closure (paths_at graph f.paths) a b x y
  closure_of l a b says here x y s =
      let one = Says-one (edges graph) (lit_of l) a b x y says s in
      subst (λ u. Closure (paths_at graph f.paths) a b x u) one.1 (subst (λ u. Closure (paths_at graph f.paths) a b u b) one.0 start)
  closure_of l a b says (along {b = n} {c = m} r arc) x y s =
      let t = only_arcs graph f apart fits n m arc in
      let further : Closure (paths_at graph f.paths) a b t.1 t.2 = imply (closure_of l a b says r t.0 t.1 t.3.tail) t.4 in
      let one = Says-one (edges graph) (lit_of m) t.1 t.2 x y t.3.head s in
      subst (λ u. Closure (paths_at graph f.paths) a b x u) one.1 (subst (λ u. Closure (paths_at graph f.paths) a b u t.2) one.0 further)

  pub reach_of : (l a b : ℕ) → Says (edges graph) (lit_of l) a b → {x y : ℕ} → Closure (paths_at graph f.paths) a b x y → (m : ℕ) → Says (edges graph) (lit_of m) x y →
      Reaches f.net.arcs l m
  reach_of l a b says start m s = subst (Reaches f.net.arcs l) (same_node graph l m a b says s) here
  reach_of l a b says (imply {x = x} {y = y} {z = z} c t) m s =
      let arc = all_arcs graph f apart fits x y z t in
      subst (Reaches f.net.arcs l) (same_node graph arc.1 m y z arc.2.head s) (along (reach_of l a b says c arc.0 arc.2.tail) arc.3)
