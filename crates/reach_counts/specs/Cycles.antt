-- Greatest sets of nodes that reach each other.
use Rattle.std.specs.Prelude.{◌≡◌, ◌≢◌, ◌↔◌, ℕ, ◌+◌, ◌<◌, ◌≤◌, List, Some, slice_get, length}
use Rattle.tor_digraph.specs.Walks.{Net, Reaches}
use Rattle.tor_digraph.specs.Closing.{Has}
use Rattle.reach_counts.specs.Condensing.{IsOfClass}

-- each number is greater than those before it
abbrev pub IsRisingList : List ℕ → Type 0
IsRisingList nodes = (i j x y : ℕ) → i < j → slice_get nodes i ≡ Some x → slice_get nodes j ≡ Some y → x < y

-- at least two nodes, rising, each of which reaches each other one, and no node that is not among these reaches them and is reached
pub record IsCycle (net : Net ℕ) (nodes : List ℕ) : Type 0 where
  pub many : 2 ≤ length nodes
  pub rising : IsRisingList nodes
  pub there : (x : ℕ) → Has nodes x → x < net.nodes
  pub whole : (x y : ℕ) → Has nodes x → Has nodes y ↔ (Reaches net.arcs x y × Reaches net.arcs y x)

-- all such sets, by their least nodes
pub record AreCycles (net : Net ℕ) (rows : List (List ℕ)) : Type 0 where
  pub each : (i : ℕ) (nodes : List ℕ) → slice_get rows i ≡ Some nodes → IsCycle net nodes
  pub all : (x y : ℕ) → x ≢ y → Reaches net.arcs x y → Reaches net.arcs y x →
      (i : ℕ) × (nodes : List ℕ) × (slice_get rows i ≡ Some nodes) × Has nodes x
  pub order : (i j : ℕ) (ns ms : List ℕ) (x y : ℕ) → i < j → slice_get rows i ≡ Some ns → slice_get rows j ≡ Some ms →
      slice_get ns 0 ≡ Some x → slice_get ms 0 ≡ Some y → x < y

-- ---- links from node to node. These words are the body's own: no reader of a public clause needs them.

-- from this place on the first node of the class, or where there is none the number of the nodes
pub record IsNextOfClass (of : List ℕ) (k low r : ℕ) : Type 0 where
  pub there : r < length of → (low ≤ r) × IsOfClass of r k
  pub none_before : (z : ℕ) → low ≤ z → z < r → IsOfClass of z k → ⊥
  pub most : r ≤ length of

-- each node from this one on knows the next one of its class, and each class its first from this one on
pub record AreClassLinks (of : List ℕ) (count left : ℕ) (first next : List ℕ) : Type 0 where
  pub classes : length first ≡ count
  pub nodes : length next ≡ length of
  pub firsts : (k r : ℕ) → slice_get first k ≡ Some r → IsNextOfClass of k left r
  pub nexts : (y r k : ℕ) → left ≤ y → slice_get next y ≡ Some r → IsOfClass of y k → IsNextOfClass of k (y + 1) r

-- the nodes of a class, rising
pub record IsClassList (of : List ℕ) (k : ℕ) (nodes : List ℕ) : Type 0 where
  pub members : (x : ℕ) → Has nodes x ↔ IsOfClass of x k
  pub rising : IsRisingList nodes

-- those before a place, and at the place, if it is one, stands the next
pub record IsPartList (of : List ℕ) (k at : ℕ) (nodes : List ℕ) : Type 0 where
  pub members : (x : ℕ) → Has nodes x → IsOfClass of x k × (x < at)
  pub all : (x : ℕ) → x < at → IsOfClass of x k → Has nodes x
  pub rising : IsRisingList nodes
  pub next : at < length of → IsOfClass of at k

-- a class that was told, by its least node
pub record IsToldCycle (of : List ℕ) (before : ℕ) (nodes : List ℕ) : Type 0 where
  pub class : ℕ
  pub least : ℕ
  pub list : IsClassList of class nodes
  pub begins : slice_get nodes 0 ≡ Some least
  pub early : least < before
  pub many : 2 ≤ length nodes

-- the classes of at least two nodes whose least node stands before a place
pub record AreToldTo (of : List ℕ) (before : ℕ) (rows : List (List ℕ)) : Type 0 where
  pub each : (i : ℕ) (nodes : List ℕ) → slice_get rows i ≡ Some nodes → IsToldCycle of before nodes
  pub all : (x y k : ℕ) → x < before → IsOfClass of x k → IsNextOfClass of k 0 x → IsOfClass of y k → x ≢ y →
      (i : ℕ) × (nodes : List ℕ) × (slice_get rows i ≡ Some nodes) × Has nodes x
  pub order : (i j : ℕ) (ns ms : List ℕ) (x y : ℕ) → i < j → slice_get rows i ≡ Some ns → slice_get rows j ≡ Some ms →
      slice_get ns 0 ≡ Some x → slice_get ms 0 ≡ Some y → x < y
