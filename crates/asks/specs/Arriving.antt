-- How many nodes of a digraph reach a node. These words are the counting's own: no reader of a public clause needs them.
use Rattle.std.specs.Prelude.{◌≡◌, ◌↔◌, ℕ, ◌+◌, ◌*◌, ◌<◌, ◌^◌, List, Some, slice_get, length, Contains, count_ones}
use Rattle.tor_digraph.specs.Walks.{Net, Reaches}
use Rattle.tor_digraph.specs.Closing.{IsOnce}
use Rattle.reach_counts.specs.Condensing.{IsOfClass}

-- so many of the first nodes reach the node: these, each once
pub record IsArrivalCount (net : Net ℕ) (below node n : ℕ) : Type 0 where
  pub nodes : List ℕ
  pub once : IsOnce nodes
  pub exact : (x : ℕ) → Contains nodes x ↔ ((x < below) × Reaches net.arcs x node)
  pub many : length nodes ≡ n

-- each class has the number of its nodes
abbrev pub AreArrivals : Net ℕ → List ℕ → ℕ → List ℕ → Type 0
AreArrivals net of below counts = (x k n : ℕ) → IsOfClass of x k → slice_get counts k ≡ Some n → IsArrivalCount net below x n

-- the nodes are a whole number of batches of 64
abbrev pub FillsBatches : ℕ → Type 0
FillsBatches nodes = (batches : ℕ) × (nodes ≡ batches * 64)

-- the number is the old one and how many bits the word has
pub record IsRaised (masks old : List ℕ) (k n : ℕ) : Type 0 where
  pub mask : ℕ
  pub was : ℕ
  pub at_mask : slice_get masks k ≡ Some mask
  pub at_old : slice_get old k ≡ Some was
  pub small : mask < 2 ^ 64
  pub sum : n ≡ was + count_ones mask
