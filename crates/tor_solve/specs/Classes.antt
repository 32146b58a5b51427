-- Strong components: classes of nodes that reach each other. In topological order, no arc leads to a lesser
-- class (Aspvall, Plass, Tarjan, A linear-time algorithm for testing the truth of certain quantified boolean
-- formulas, 1979).
use Rattle.std.specs.Prelude.{◌≡◌, ℕ, ◌<◌, ◌≤◌, ◌↔◌, List, Some, slice_get, length}
use Rattle.tor_digraph.specs.Walks.{Net, IsArc, HasArc, Reaches}
use Rattle.tor_digraph.specs.Closing.{Has}

-- the class of each node by its place, and how many classes there are
pub record Classes : Type 0 where
  pub of : List ℕ
  pub count : ℕ

module _ {N : Type 0} where
  -- the node has this class
  abbrev pub IsClass : (N → ℕ) → List ℕ → N → ℕ → Type 0
  IsClass place of x k = slice_get of (place x) ≡ Some k

-- the classes are the strong components, and no arc leads to a lesser class
pub record IsComponents {N : Type 0} (place : N → ℕ) (net : Net N) (c : Classes) : Type 0 where
  pub many : length c.of ≡ net.nodes
  pub same : (x y : N) (j k : ℕ) → IsClass place c.of x j → IsClass place c.of y k → (j ≡ k) ↔ (Reaches net.arcs x y × Reaches net.arcs y x)
  pub order : (x y : N) (j k : ℕ) → HasArc net.arcs x y → IsClass place c.of x j → IsClass place c.of y k → j ≤ k
  pub below : (x : N) (k : ℕ) → IsClass place c.of x k → k < c.count
  pub each : (k : ℕ) → k < c.count → (x : N) × IsClass place c.of x k

-- the same of some nodes, out of which no arc leads against its direction
pub record IsClassed {N : Type 0} (place : N → ℕ) (arcs : List (N × N)) (nodes : List N) (of : List ℕ) (count : ℕ) : Type 0 where
  pub below : (x : N) (k : ℕ) → Has nodes x → IsClass place of x k → k < count
  pub each : (k : ℕ) → k < count → (x : N) × Has nodes x × IsClass place of x k
  pub same : (x y : N) (k : ℕ) → Has nodes x → Has nodes y → IsClass place of x k → IsClass place of y k → Reaches arcs x y
  pub order : (x y : N) (j k : ℕ) → Has nodes y → HasArc arcs x y → IsClass place of x j → IsClass place of y k → j ≤ k

-- the arcs of the one are those of the other, reversed round
pub record IsReversed {N : Type 0} (net other : Net N) : Type 0 where
  pub nodes : other.nodes ≡ net.nodes
  pub from : (x y : N) → HasArc net.arcs x y → HasArc other.arcs y x
  pub back : (x y : N) → HasArc other.arcs y x → HasArc net.arcs x y

-- the same of the first arcs alone
pub record IsReversedTo {N : Type 0} (net other : Net N) (upto : ℕ) : Type 0 where
  pub nodes : other.nodes ≡ net.nodes
  pub many : length other.arcs ≡ upto
  pub from : (k : ℕ) (x y : N) → k < upto → IsArc net.arcs k x y → HasArc other.arcs y x
  pub back : (x y : N) → HasArc other.arcs y x → HasArc net.arcs x y
