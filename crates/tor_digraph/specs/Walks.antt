-- Digraphs as a number of nodes and a list of arcs, and walks of arcs.
-- A walk is a path in the sense of Aspvall, Plass and Tarjan (1979): "v is reachable from u" there is
-- `Reaches arcs u v` here.
use Rattle.std.specs.Prelude.{◌≡◌, ℕ, ◌+◌, ◌<◌, List, Some, slice_get, length, take}

-- how many nodes there are, and the arcs in the order in which they were added, each as its tail and its head
pub record Net (N : Type 0) : Type 0 where
  pub nodes : ℕ
  pub arcs : List (N × N)

module _ {N : Type 0} where
  -- arc k goes from a to b
  abbrev pub IsArc : List (N × N) → ℕ → N → N → Type 0
  IsArc arcs k a b = slice_get arcs k ≡ Some (a, b)

  -- some arc goes from a to b
  abbrev pub HasArc : List (N × N) → N → N → Type 0
  HasArc arcs a b = (k : ℕ) × IsArc arcs k a b

-- the first nodes and arcs, by these counts
abbrev pub first_part : {N : Type 0} → Net N → ℕ → ℕ → Net N
first_part net nodes arcs = record { nodes = nodes; arcs = take arcs net.arcs }

-- the arcs join nodes that are there
pub record IsInside {N : Type 0} (place : N → ℕ) (net : Net N) : Type 0 where
  pub tails : (k : ℕ) (u v : N) → IsArc net.arcs k u v → place u < net.nodes
  pub heads : (k : ℕ) (u v : N) → IsArc net.arcs k u v → place v < net.nodes

-- a walk of arcs leads from a to b, perhaps without arcs
pub data Reaches {N : Type 0} (arcs : List (N × N)) (a : N) : N → Type 0 where
  here : Reaches arcs a a
  along : {b c : N} → Reaches arcs a b → HasArc arcs b c → Reaches arcs a c

-- a walk written out: its nodes from start to end, and the arcs from each to the next
pub record IsWay {N A : Type 0} (spot : A → ℕ) (arcs : List (N × N)) (start end : N) (nodes : List N) (steps : List A) : Type 0 where
  pub one_more : length nodes ≡ length steps + 1
  pub first : slice_get nodes 0 ≡ Some start
  pub last : slice_get nodes (length steps) ≡ Some end
  pub between : (k : ℕ) (a : A) (u v : N) → slice_get steps k ≡ Some a → slice_get nodes k ≡ Some u →
      slice_get nodes (k + 1) ≡ Some v → IsArc arcs (spot a) u v
