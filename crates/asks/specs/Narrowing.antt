-- The digraph of the orders of open edges alone. These words are the counting's own: no reader of a public clause needs them.
use Rattle.std.specs.Prelude.{◌≡◌, ◌⊎◌, ℕ, zero, suc, ◌*◌, ◌<◌, ◌≤◌, List, [], ◌∷◌, ◌++◌, Some, slice_get, length}
use Rattle.relationships.specs.declared.label.End.{End}
use Rattle.relationships.specs.declared.mark.Mark.{Mark}
use Rattle.tor_digraph.specs.Walks.{Net, IsArc, HasArc}
use Rattle.tor_clauses.specs.Literals.{node_of, lit_of}
use Rattle.ties.specs.Parts.{IsOpen}
use Rattle.asks.specs.declared.ask.Ask.{Ask}
use Rattle.asks.specs.Arriving.{IsArrivalCount, FillsBatches}

-- how many open edges stand before this place
abbrev pub opens_before : List Mark → ℕ → ℕ
opens_before [] place = 0
opens_before (m ∷ marks) zero = 0
opens_before (Mark.Forced ∷ marks) (suc place) = opens_before marks place
opens_before (Mark.Open ∷ marks) (suc place) = suc (opens_before marks place)

-- how many open edges an edge of this mark is
abbrev pub one_if_open : Mark → ℕ
one_if_open Mark.Forced = 0
one_if_open Mark.Open = 1

-- for each edge how many open ones stand before it
pub record AreOpensBefore (marks : List Mark) (before : List ℕ) : Type 0 where
  pub many : length before ≡ length marks
  pub each : (place n : ℕ) → slice_get before place ≡ Some n → n ≡ opens_before marks place

-- the node of an open edge's order among the orders of open edges alone
abbrev pub narrow_node : List Mark → ℕ → ℕ
narrow_node marks x = node_of (record { edge = opens_before marks (lit_of x).edge; over = (lit_of x).over })

-- the node is that of an order of an open edge
abbrev pub IsOpenNode : List Mark → ℕ → Type 0
IsOpenNode marks x = IsOpen marks (lit_of x).edge

-- the first arcs, so many, have made the arcs between orders of open edges; there are `count` of these edges,
-- two nodes for each, and perhaps some more, so that they are a whole number of batches
pub record IsNarrowedTo (marks : List Mark) (count : ℕ) (net : Net ℕ) (upto : ℕ) (other : Net ℕ) : Type 0 where
  pub nodes : count * 2 ≤ other.nodes
  pub whole : FillsBatches other.nodes
  pub from : (k x y : ℕ) → k < upto → IsArc net.arcs k x y → IsOpenNode marks x → IsOpenNode marks y →
      HasArc other.arcs (narrow_node marks x) (narrow_node marks y)
  pub back : (i j : ℕ) → HasArc other.arcs i j → (x y : ℕ) × HasArc net.arcs x y × IsOpenNode marks x × IsOpenNode marks y ×
      (i ≡ narrow_node marks x) × (j ≡ narrow_node marks y)

abbrev pub IsNarrowed : List Mark → ℕ → Net ℕ → Net ℕ → Type 0
IsNarrowed marks count net other = IsNarrowedTo marks count net (length net.arcs) other

-- an arc between orders of open edges goes last, and another changes nothing
pub record IsNarrowPut (marks : List Mark) (x y : ℕ) (old new : Net ℕ) : Type 0 where
  pub put : (IsOpenNode marks x × IsOpenNode marks y ×
      (new ≡ record old { arcs = old.arcs ++ (narrow_node marks x, narrow_node marks y) ∷ [] })) ⊎
      (((IsOpenNode marks x × IsOpenNode marks y) → ⊥) × (new ≡ old))

-- ---- numbers

-- the edge of this place, and the numbers of its two orders: as many orders follow from an order as lead to the opposite one
pub record IsCountedEdge (net : Net ℕ) (places : List ℕ) (k : ℕ) (a : Ask) : Type 0 where
  pub edge : slice_get places k ≡ Some a.edge
  pub low : IsArrivalCount net net.nodes (node_of (record { edge = k; over = End.High })) a.if_low
  pub high : IsArrivalCount net net.nodes (node_of (record { edge = k; over = End.Low })) a.if_high

abbrev pub AreCountedEdges : Net ℕ → List ℕ → List Ask → Type 0
AreCountedEdges net places asks = (k : ℕ) (a : Ask) → slice_get asks k ≡ Some a → IsCountedEdge net places k a

-- the open edges at these places with their numbers, by the digraph of their orders
pub record AreOpenAsks (marks : List Mark) (places : List ℕ) (net : Net ℕ) (asks : List Ask) : Type 0 where
  pub other : Net ℕ
  pub narrowed : IsNarrowed marks (length places) net other
  pub numbered : AreCountedEdges other places asks
